-- Each planned function is a function of the text, by its name.
use Rattle.std.proofs.Common.{◌≡◌, ◌⊎◌, ◌==◌, ℕ, Bool, true, false, List, [], ◌∷◌, map, Option, Some, inl, inr, refl, sym, ap, ◌∙◌, subst, if◌then◌else◌}
use Rattle.std.specs.Prelude.{bytes_eq, find, option_to_list}
use Rattle.std.proofs.lemmas.Slice.Eq.{bytes_eq-Decides}
use Rattle.std.proofs.lemmas.Option.{same_Some}
use Rattle.spv_module.specs.Lists.{id}
use Rattle.spv_module.specs.State.{ModuleState}
use Rattle.spv_module.specs.declared.inst.Id.{Id}
use Rattle.conformance.specs.Rules.{Options}
use Rattle.module_check.specs.Judged.{IsFine}
use Rattle.module_check.specs.ReadFrom.{IsReadFrom}
use Rattle.traces.specs.Invocations.{Invocation, IsInvocation}
use Rattle.name_alloc.specs.declared.claims.Key.{Key}
use Rattle.glsl_ast.specs.Tree.{Text, Decl, TranslationUnit}
use Rattle.glsl_semantics.specs.Expressions.{Program}
use Rattle.glsl_semantics.specs.Items.{Declared, with_item, with_items, declared_by}
use Rattle.text_rules.specs.Constants.{Source}
use Rattle.text_rules.specs.Declarations.{declarations}
use Rattle.text_rules.specs.Printed.{Reached}
use Rattle.expr_forward.specs.Scope.{Scope}
use Rattle.function_text.specs.Functions.{FunctionPlan, written, function_key, function_name, function_decl}
use Rattle.unit_rules.specs.Translation.{IsPlanOf}
use Rattle.unit_rules.specs.Unit.{item_names_of, source_of, called, is_called, has_id, plan_at, in_order, IsUnitOf}
use Rattle.global_law.proofs.Global.Blocks.{items_more}
use Rattle.global_law.proofs.Constant.Constants.{first}
use Rattle.claim_law.specs.Claimed.{IsIn}
use Rattle.claim_law.proofs.Claim.Listed.{in_flat}
use Rattle.grammar_law.proofs.Unit.Lists.{found_by, same_test, of_filter}
use Rattle.grammar_law.proofs.Unit.Ways.{planned_as}
use Rattle.text_law.proofs.Naming.Keys.{S, found as names_found, R, equal, some_in}
use Rattle.text_law.proofs.Naming.Unit.{named_so}
use Rattle.text_law.specs.Left.{IsLeftOfGlobals}
use Rattle.text_law.proofs.Outside.Text.{fs as function_items, P as program_in}

-- what is a function stays one, and each of these is one
function_stays : (ps : List FunctionPlan) (d : Declared) (w : Text) → d.program.is_function w ≡ true → (with_items d (map function_decl ps)).program.is_function w ≡ true
function_stays [] d w on = on
function_stays (p ∷ ps) d w on = function_stays ps (with_item d (function_decl p)) w (by_test (bytes_eq w (function_name p.scope)))
  where
    by_test : (b : Bool) → elim b as (λ b. Bool) [ true ↦ true | false ↦ d.program.is_function w ] ≡ true
    by_test true = refl
    by_test false = on

function_there : (ps : List FunctionPlan) (d : Declared) (p : FunctionPlan) (w : Text) → IsIn p ps → bytes_eq w (function_name p.scope) ≡ true → (with_items d (map function_decl ps)).program.is_function w ≡ true
function_there [] d p w among is = absurd among
function_there (q ∷ ps) d p w (inl same) is =
    function_stays ps (with_item d (function_decl q)) w (ap (λ (b : Bool). elim b as (λ b. Bool) [ true ↦ true | false ↦ d.program.is_function w ]) (ap (λ (x : FunctionPlan). bytes_eq w (function_name x.scope)) same ∙ is))
function_there (q ∷ ps) d p w (inr later) is = function_there ps (with_item d (function_decl q)) p w later is

-- what passes a test is found
found_some : (test : FunctionPlan → Bool) (ps : List FunctionPlan) (p : FunctionPlan) → IsIn p ps → test p ≡ true → (q : FunctionPlan) × (find test ps ≡ Some q)
found_some test [] p among on = absurd among
found_some test (x ∷ ps) p among on = by_test (test x) refl among (λ later. found_some test ps p later on)
  where
    by_test : (b : Bool) → test x ≡ b → (x ≡ p) ⊎ IsIn p ps → (IsIn p ps → (q : FunctionPlan) × (find test ps ≡ Some q)) → (q : FunctionPlan) × ((if b then Some x else find test ps) ≡ Some q)
    by_test true is among later = (x, refl)
    by_test false is (inl same) later = let never : true ≡ false = sym on ∙ (ap test (sym same) ∙ is) in cc
    by_test false is (inr among) later = later among

in_option : (x : Option FunctionPlan) (q : FunctionPlan) → x ≡ Some q → IsIn q (option_to_list x)
in_option x q is = subst (λ (y : Option FunctionPlan). IsIn q (option_to_list y)) (sym is) (inl refl)

module _ (bytes : List ℕ) (m : ModuleState) (o : Options) (read : IsReadFrom bytes m) (fine : IsFine m o) (unit : TranslationUnit) (u : IsUnitOf m o unit) (inv : Invocation) (told : IsInvocation inv) (left : IsLeftOfGlobals bytes m o) where
  abbrev found : Key → Option Text
  found = names_found m o unit u inv

  abbrev r : Reached
  r = R m o unit u inv

  abbrev src : Source
  src = source_of m o u.entry

  abbrev fs : List Decl
  fs = function_items bytes m o read fine unit u inv told left

  abbrev P : Program
  P = program_in bytes m o read fine unit u inv told left

  -- a plan stands in the order of calls, or one of the same function does
  ordered : (p : FunctionPlan) → IsIn p u.plans → (q : FunctionPlan) × IsIn q (in_order u.order u.plans) × IsIn q u.plans × ((written q).id.0 ≡ (written p).id.0)
  ordered p among =
      let w = planned_as (IsPlanOf src found) (called u.order m.functions) u.plans p u.planned among in
      let function_is : (written p).id.0 ≡ w.0.id.0 = ap (λ (x : Scope). x.setting.function.id.0) w.2.scope_is in
      let n = some_in (λ (k : Id). k.0 == w.0.id.0) u.order (of_filter (is_called u.order) m.functions w.0 w.1).1 in
      let number : (written p).id.0 ≡ n.0.0 = function_is ∙ sym (equal n.0.0 w.0.id.0 n.2) in
      let q = found_some (has_id n.0) u.plans p among (same_test (written p).id.0 n.0.0 number) in
      let is_it = found_by (has_id n.0) u.plans q.0 q.1 in
      (q.0, in_flat (plan_at u.plans) u.order n.0 q.0 n.1 (in_option (find (has_id n.0) u.plans) q.0 q.1), is_it.0, equal (written q.0).id.0 n.0.0 is_it.1 ∙ sym number)

  same_name : (p q : FunctionPlan) → IsIn p u.plans → IsIn q u.plans → (written q).id.0 ≡ (written p).id.0 → function_name q.scope ≡ function_name p.scope
  same_name p q one two same = same_Some (function_name q.scope) (function_name p.scope) (sym (named_so m o unit u inv q two) ∙ (ap (λ (n : ℕ). found (function_key u.entry (id n))) same ∙ named_so m o unit u inv p one))

  -- The law.
  pub is_function_there : (p : FunctionPlan) → IsIn p u.plans → P.is_function (function_name p.scope) ≡ true
  unfolding declared_by
  is_function_there p among =
      let q = ordered p among in
      ap (λ (d : Declared). d.program.is_function (function_name p.scope)) (items_more (declarations src r (item_names_of src found)) fs (first (S m o unit u inv) o.overrides))
      ∙ function_there (in_order u.order u.plans) (with_items (first (S m o unit u inv) o.overrides) (declarations src r (item_names_of src found))) q.0 (function_name p.scope) q.1 ((bytes_eq-Decides (function_name p.scope) (function_name q.0.scope)).1 (sym (same_name p q.0 among q.2 q.3)))

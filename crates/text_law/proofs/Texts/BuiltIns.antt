-- No function of an accepted module's text is called as a built-in function: such names are reserved.
use Rattle.std.proofs.Common.{◌≡◌, ◌||◌, ◌⊎◌, ℕ, Bool, true, false, List, [], ◌∷◌, map, Option, Some, None, inl, inr, refl, ap, ◌∙◌, subst, unwrap_or}
use Rattle.std.specs.Prelude.{bytes_eq, codes}
use Rattle.std.proofs.lemmas.Slice.Eq.{bytes_eq-Decides}
use Rattle.spv_module.specs.State.{ModuleState}
use Rattle.conformance.specs.Rules.{Options}
use Rattle.module_check.specs.Judged.{IsFine}
use Rattle.module_check.specs.ReadFrom.{IsReadFrom}
use Rattle.traces.specs.Invocations.{Invocation, IsInvocation}
use Rattle.name_alloc.specs.Law.{IsFree, AreNames}
use Rattle.name_alloc.specs.Reserved.{is_word, has_prefix}
use Rattle.name_alloc.specs.declared.claims.Key.{Key}
use Rattle.name_alloc.specs.declared.claims.Key.TheVariants.{Main}
use Rattle.int_lowering.specs.declared.built_ins.BuiltIn.{BuiltIn}
use Rattle.int_lowering.specs.declared.built_ins.BuiltIn.TheVariants as built_in
use Rattle.int_lowering.specs.Term.{built_in_name}
use Rattle.glsl_ast.specs.Tree.{Text, Decl, TranslationUnit}
use Rattle.glsl_semantics.specs.Items.{Declared, with_item, with_items, declared_by}
use Rattle.text_rules.specs.Constants.{Source}
use Rattle.text_rules.specs.Declarations.{declarations}
use Rattle.text_rules.specs.Printed.{Reached}
use Rattle.expr_forward.specs.Scope.{Scope}
use Rattle.function_text.specs.Functions.{FunctionPlan, function_key, function_name, function_decl}
use Rattle.unit_rules.specs.Translation.{text_of, IsPlanOf}
use Rattle.unit_rules.specs.Unit.{item_names_of, source_of, called, in_order, IsUnitOf}
use Rattle.list_law.proofs.Tests.{neither as both_off}
use Rattle.lowering_law.specs.BuiltIns.{NoneDeclared}
use Rattle.global_law.proofs.Global.Blocks.{items_more}
use Rattle.global_law.specs.Items.{AreAsked}
use Rattle.global_law.proofs.Constant.Constants.{AreFunctions, first, last}
use Rattle.claim_law.specs.Claimed.{IsIn}
use Rattle.grammar_law.proofs.Unit.Ways.{planned_as}
use Rattle.grammar_law.proofs.Grammar.UnitMade.{in_plans}
use Rattle.text_law.proofs.Naming.Keys.{S, found as names_found, R}
use Rattle.text_law.proofs.Shape.BuiltIns.{built_barred, built_other}
use Rattle.text_law.specs.Left.{IsLeftOfGlobals}
use Rattle.text_law.proofs.Outside.Text.{fs as function_items, are_functions, asked as asked_of, P as program_in}

none_other : (f : BuiltIn) → bytes_eq (built_in_name f) [] ≡ false
unfolding built_in_name
none_other built_in.Min = refl
none_other f = refl

-- a name that no function of a text has: it is reserved, and is neither that of the entry point nor none at all
pub record IsReserved (v : Text) : Type 0 where
  pub reserved : (is_word v || has_prefix v) ≡ true
  pub no_main : bytes_eq v (codes "main") ≡ false
  pub no_none : bytes_eq v [] ≡ false

free_other : (v : Text) → IsReserved v → (w : Text) → IsFree w → bytes_eq v w ≡ false
free_other v is w free = by_test (bytes_eq v w) refl
  where
    by_test : (t : Bool) → bytes_eq v w ≡ t → t ≡ false
    by_test false same = refl
    by_test true same = absurd (both_off (is_word w) (has_prefix w) free.word free.prefix (subst (λ (x : Text). (is_word x || has_prefix x) ≡ true) ((bytes_eq-Decides v w).0 same) is.reserved))

key_other : (found : Key → Option Text) → AreNames found → (v : Text) → IsReserved v → (k : Key) → bytes_eq v (text_of found k) ≡ false
key_other found names v is k = by_name (found k) refl
  where
    by_free : (w : Text) → ((k ≡ Main) × (w ≡ codes "main")) ⊎ IsFree w → bytes_eq v w ≡ false
    by_free w (inl main) = ap (bytes_eq v) main.1 ∙ is.no_main
    by_free w (inr free) = free_other v is w free

    by_name : (o : Option Text) → found k ≡ o → bytes_eq v (unwrap_or o []) ≡ false
    by_name None named = is.no_none
    by_name (Some w) named = by_free w (names.each k w named).free

-- functions of other names
functions_other : (ps : List FunctionPlan) (d : Declared) (w : Text) → ((p : FunctionPlan) → IsIn p ps → bytes_eq w (function_name p.scope) ≡ false) → d.program.is_function w ≡ false → (with_items d (map function_decl ps)).program.is_function w ≡ false
functions_other [] d w each off = off
functions_other (p ∷ ps) d w each off =
    functions_other ps (with_item d (function_decl p)) w (λ q among. each q (inr among)) (ap (λ (b : Bool). elim b [ true ↦ true | false ↦ d.program.is_function w ]) (each p (inl refl)) ∙ off)

-- a plan in the order of calls is one of the plans
module _ (bytes : List ℕ) (m : ModuleState) (o : Options) (read : IsReadFrom bytes m) (fine : IsFine m o) (unit : TranslationUnit) (u : IsUnitOf m o unit) (inv : Invocation) (told : IsInvocation inv) (left : IsLeftOfGlobals bytes m o) where
  abbrev found : Key → Option Text
  found = names_found m o unit u inv

  abbrev r : Reached
  r = R m o unit u inv

  abbrev src : Source
  src = source_of m o u.entry

  abbrev fs : List Decl
  fs = function_items bytes m o read fine unit u inv told left

  abbrev asked : AreAsked (S m o unit u inv) o.entry o.overrides found r
  asked = asked_of bytes m o read fine unit u inv told left

  functions : AreFunctions fs
  functions = are_functions bytes m o read fine unit u inv told left

  -- the name of a planned function is that of its key
  name_other : (v : Text) → IsReserved v → (p : FunctionPlan) → IsIn p u.plans → bytes_eq v (function_name p.scope) ≡ false
  name_other v is p among =
      let w = planned_as (IsPlanOf src found) (called u.order m.functions) u.plans p u.planned among in
      ap (λ (x : Scope). bytes_eq v (function_name x)) w.2.scope_is ∙ key_other found u.lawful v is (function_key u.entry w.0.id)

  abbrev Items : Declared
  Items = with_items (first (S m o unit u inv) o.overrides) (declarations src r (item_names_of src found))

  -- The law: no function of the text has a reserved name.
  pub no_function : (v : Text) → IsReserved v → (program_in bytes m o read fine unit u inv told left).is_function v ≡ false
  unfolding declared_by
  no_function v is =
      ap (λ (d : Declared). d.program.is_function v) (items_more (declarations src r (item_names_of src found)) fs (first (S m o unit u inv) o.overrides))
      ∙ functions_other (in_order u.order u.plans) Items v (λ p among. name_other v is p (in_plans u.order u.plans p among)) ((last (S m o unit u inv) o.entry o.overrides found r asked fs functions).stands.functions v)

  -- so none is called as a built-in function
  pub none_declared : NoneDeclared (program_in bytes m o read fine unit u inv told left)
  none_declared f = no_function (built_in_name f) (record { reserved = built_barred f; no_main = built_other f; no_none = none_other f })

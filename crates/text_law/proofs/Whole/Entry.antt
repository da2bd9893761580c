-- The function of an accepted module's entry point: it has no parameters and no result (P8), and its text is main.
use Rattle.std.proofs.Common.{◌≡◌, ◌<◌, ◌==◌, not, ℕ, suc, Bool, true, false, List, [], ◌∷◌, length, map, codes, Option, Some, None, Contains, inl, inr, refl, sym, ap, ◌∙◌, subst, if◌then◌else◌, arith}
use Rattle.std.specs.Prelude.{◌⊎◌, IsSomeAnd}
use Rattle.std.specs.Option.{option_map_or}
use Rattle.std.proofs.lemmas.Bool.Decides.{eqb_tells}
use Rattle.std.proofs.lemmas.Bool.{not-false}
use Rattle.std.proofs.lemmas.Option.{same_Some}
use Rattle.spv_ops.specs.Opcode.{is}
use Rattle.spv_ops.specs.Groups.{is_type}
use Rattle.spv_ops.specs.Enumerants.{model_number}
use Rattle.spv_ops.specs.declared.ExecutionModel.TheVariants as model
use Rattle.spv_ops.specs.declared.Op.TheVariants as code
use Rattle.spv_module.specs.Held.{global}
use Rattle.spv_module.specs.State.{ModuleState}
use Rattle.spv_module.specs.declared.inst.Id.{Id as IdOf}
use Rattle.spv_module.specs.declared.inst.Inst.{Inst}
use Rattle.spv_module.specs.declared.inst.Function.{Function}
use Rattle.spv_decor.specs.Rows.{word}
use Rattle.profile_rules.specs.Entry.{chosen, function_of, is_result, is_called, is_no_kernel, p8_of}
use Rattle.profile_rules.specs.Calls.{numbers}
use Rattle.conformance.specs.Rules.{Options}
use Rattle.module_check.specs.Judged.{IsFine}
use Rattle.module_check.specs.ReadFrom.{IsReadFrom}
use Rattle.traces.specs.Invocations.{Invocation}
use Rattle.name_alloc.specs.declared.claims.Key.TheVariants.{Main, Id}
use Rattle.name_alloc.specs.Naming.{name_of}
use Rattle.glsl_ast.specs.Tree.{TranslationUnit}
use Rattle.text_rules.specs.Declarations.{type_at}
use Rattle.expr_forward.specs.Scope.{Scope, globals}
use Rattle.expr_forward.specs.Statements.{is_void_in, is_void}
use Rattle.function_text.specs.Functions.{FunctionPlan, written, function_name, param_text, result_type}
use Rattle.unit_rules.specs.Unit.{IsUnitOf}
use Rattle.list_law.proofs.Numbers.{number_same}
use Rattle.call_law.specs.Known.{IsFunctionOf}
use Rattle.function_law.specs.Texts.{IsText}
use Rattle.typed_law.proofs.Lists.{or_left, or_right, and_off}
use Rattle.typed_law.proofs.Values.{result_row}
use Rattle.grammar_law.proofs.Ruled.Ruled.{contains_of}
use Rattle.claim_law.specs.Claimed.{IsIn}
use Rattle.text_law.proofs.Naming.Keys.{S}
use Rattle.text_law.proofs.Naming.Unit.{text, texts, named_so}
use Rattle.text_law.proofs.Whole.Accepted.{right}
use Rattle.text_law.proofs.Naming.Functions.{HasPlan, has_plan, reached_function, function_found, planned_of}
use Rattle.text_law.proofs.Whole.Main.{main_is}
use Rattle.text_law.proofs.Whole.Order.{with_number, text_there}

no_elements : (n : ℕ) (ps : List (IdOf × IdOf)) → length ps ≡ n → not (n == 0) ≡ false → ps ≡ []
no_elements n [] size off = refl
no_elements n (p ∷ ps) size off = by_test (n == 0) (eqb_tells n 0) off
  where
    by_test : (b : Bool) → ((b ≡ true) × (n ≡ 0)) ⊎ ((b ≡ false) × (n ≡ 0 → ⊥)) → not b ≡ false → (p ∷ ps) ≡ []
    by_test b (inl w) off = let none : suc (length ps) ≡ 0 = size ∙ w.1 in absurd (omega (arith, none))
    by_test true (inr w) off = cc
    by_test false (inr w) off = cc

module _ (bytes : List ℕ) (m : ModuleState) (o : Options) (read : IsReadFrom bytes m) (fine : IsFine m o) (unit : TranslationUnit) (u : IsUnitOf m o unit) (inv : Invocation) where
  -- P8
  kernel_by : (i : Option Inst) → ((at : ℕ) → Contains (option_map_or (p8_of m) i []) at → ⊥) → IsSomeAnd i (λ (x : Inst). u.entry ≡ word x 1) → option_map_or (is_called m.globals) (function_of m.functions u.entry) true ≡ false
  kernel_by None far is = absurd is
  kernel_by (Some i) far is = subst (λ (n : ℕ). option_map_or (is_called m.globals) (function_of m.functions n) true ≡ false) (sym is) (or_right (not (word i 0 == model_number model.GLCompute)) (option_map_or (is_called m.globals) (function_of m.functions (word i 1)) true) (by_test (is_no_kernel m i) refl))
    where
      by_test : (b : Bool) → is_no_kernel m i ≡ b → b ≡ false
      by_test false e = refl
      by_test true e = absurd (far i.at (subst (λ (b : Bool). Contains (if b then i.at ∷ [] else []) i.at) (sym e) (0, (let some : 0 < 1 = omega arith in some), refl)))

  -- the function, and its plan
  pub entry_function : (f : Function) × IsFunctionOf f m.functions × (f.id.0 ≡ u.entry)
  entry_function = reached_function bytes m o read fine unit u u.entry (0, refl)

  pub entry_listed : (n : IdOf) × IsIn n u.order × (n.0 ≡ u.entry)
  entry_listed = with_number u.order u.entry (u.calls.all u.entry (0, refl))

  pub entry_plan : HasPlan bytes m o read fine unit u entry_function.0 entry_listed.0
  entry_plan = has_plan bytes m o read fine unit u entry_function.0 entry_listed.0 entry_function.1 (entry_function.2 ∙ sym entry_listed.2) (subst (Contains (numbers u.order)) (sym entry_listed.2) (u.calls.all u.entry (0, refl)))

  abbrev pub p : FunctionPlan
  p = entry_plan.plan

  pub entry_text : IsText (text m o unit u inv p) (texts m o unit u inv)
  entry_text = text_there bytes m o read fine unit u inv u.order entry_listed.0 entry_listed.1 p entry_plan.at

  pub entry_id : (written p).id.0 ≡ u.entry
  entry_id = ap (λ (f : Function). f.id.0) entry_plan.of_it ∙ entry_function.2

  pub entry_one : IsFunctionOf (written p) m.functions
  entry_one = subst (λ (f : Function). IsFunctionOf f m.functions) (sym entry_plan.of_it) entry_function.1

  pub entry_found : function_of m.functions u.entry ≡ Some (written p)
  entry_found = subst (λ (n : ℕ). function_of m.functions n ≡ Some (written p)) entry_id (function_found bytes m o read fine unit u (written p) entry_one)

  kernel : is_called m.globals (written p) ≡ false
  kernel = sym (ap (λ (x : Option Function). option_map_or (is_called m.globals) x true) entry_found) ∙ kernel_by (chosen o.entry m.heads) fine.declared.1.1.1.1.1.0 u.is_entry

  pub no_params : (written p).params ≡ []
  no_params = no_elements (length (written p).params) (written p).params refl (or_left (not (length (written p).params == 0)) (option_map_or is_result (global m.globals (written p).result.0) false) kernel)

  pub is_void_result : is_void_in m.globals (written p).result.0 ≡ true
  is_void_result =
      let g = result_row (S m o unit u inv) o.entry (right bytes m o read fine unit u inv) (written p) (contains_of m.functions (written p) entry_one) in
      let told : is_result g.0 ≡ false = sym (ap (λ (x : Option Inst). option_map_or is_result x false) g.1) ∙ or_right (not (length (written p).params == 0)) (option_map_or is_result (global m.globals (written p).result.0) false) kernel in
      ap (λ (x : Option Inst). option_map_or (λ (y : Inst). is y.op code.TypeVoid) x false) g.1 ∙ not-false (is g.0.op code.TypeVoid) (and_off (is_type g.0.op) (not (is g.0.op code.TypeVoid)) told g.2)

  -- so has its text
  pub none_written : map (param_text p.scope) (written p).params ≡ []
  none_written = ap (map (param_text p.scope)) no_params

  pub no_result : result_type p.scope ≡ None
  no_result =
      let plan = planned_of bytes m o read fine unit u p entry_plan.among in
      by_void p.scope (is_void p.scope (written p).result.0) refl (ap (λ (w : Scope). is_void_in (globals w) (written p).result.0) plan.scope_is ∙ is_void_result)
    where
      by_void : (w : Scope) (b : Bool) → is_void w w.setting.function.result.0 ≡ b → b ≡ true → result_type w ≡ None
      by_void w true at on = ap (λ (t : Bool). if t then None else Some (type_at w.setting.source w.names w.setting.function.result.0)) at
      by_void w false at on = cc

  pub is_main : function_name p.scope ≡ codes "main"
  is_main = same_Some (function_name p.scope) (codes "main") (sym (named_so m o unit u inv p entry_plan.among) ∙ (ap (λ (b : Bool). name_of u.claimed (if b then Main else Id (written p).id)) (number_same (written p).id.0 u.entry entry_id) ∙ main_is m o unit u))

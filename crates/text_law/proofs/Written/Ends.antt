-- What is written of the operands of terminators: conditions and selectors, and what a function gives. Asked is that the expression of the operand says its value.
use Rattle.std.proofs.Common.{◌≡◌, not, ℕ, Bool, true, false, List, Option, Some, None, refl, sym, ap, ◌∙◌, if◌then◌else◌}
use Rattle.std.specs.Prelude.{◌^◌, nat_lt, Contains}
use Rattle.std.specs.Option.{option_map_or}
use Rattle.std.proofs.lemmas.Bool.{not-false, not-true}
use Rattle.spv_ops.specs.Opcode.{is}
use Rattle.spv_ops.specs.OpGroups.{group_of}
use Rattle.spv_ops.specs.declared.Op.{Op}
use Rattle.spv_ops.specs.declared.Op.TheVariants as code
use Rattle.spv_ops.specs.declared.OpGroup.TheVariants as groups
use Rattle.spv_ops.specs.declared.Terminator.TheVariants as exit
use Rattle.spv_module.specs.Held.{global}
use Rattle.spv_module.specs.declared.inst.Inst.{Inst}
use Rattle.spv_module.specs.declared.inst.Function.{Function}
use Rattle.spv_module.specs.declared.tree.Elem.{Elem}
use Rattle.spv_module.specs.declared.tree.Elem.TheVariants as elem
use Rattle.spv_types.specs.Tree as plain
use Rattle.spv_types.specs.Tree.{word}
use Rattle.spv_index.specs.Locals.{insts_of, type_in}
use Rattle.profile_rules.specs.TypeRows.{is_void, type_row, fails, is_other}
use Rattle.profile_rules.specs.TypeRules.{is_flow_broken}
use Rattle.profile_rules.specs.FlowRules.{breaks_t24_return, breaks_t24_value}
use Rattle.spv_decor.specs.Rows.{word as word_of}
use Rattle.module_semantics.specs.Setting.{Setting}
use Rattle.module_semantics.specs.Steps as steps
use Rattle.module_semantics.specs.Steps.{step_kind}
use Rattle.glsl_ast.specs.declared.expressions.Literal.TheVariants.{Int, Hex}
use Rattle.glsl_semantics.specs.Shapes.{Shape, int, uint, typed}
use Rattle.glsl_semantics.specs.Expressions.{literal_value}
use Rattle.expr_forward.specs.Statements.{is_void_in}
use Rattle.function_text.specs.Functions.{case_by}
use Rattle.plan_law.specs.InOrder.{IsAmong}
use Rattle.typed_law.specs.Conforms.{IsConforming}
use Rattle.typed_law.proofs.Lists.{or_left}
use Rattle.typed_law.proofs.Rules.{flow_right}
use Rattle.typed_law.proofs.Types.{row_is}
use Rattle.typed_law.proofs.Values.{result_row}

-- the groups of returns
return_group : (p : Op) → step_kind p ≡ steps.return → group_of p ≡ groups.Terminator exit.Return
unfolding step_kind group_of
return_group code.Return e = refl
return_group p e = cc

value_group : (p : Op) → step_kind p ≡ steps.return_value → group_of p ≡ groups.Terminator exit.ReturnValue
unfolding step_kind group_of
value_group code.ReturnValue e = refl
value_group p e = cc

module _ (s : Setting) (entry : Option (List ℕ)) (right : IsConforming s.of entry) (f : Function) (in_it : Contains s.of.functions f) where
  abbrev Gs : List Inst
  Gs = s.of.globals

  -- the result's type
  row : (g : Inst) × (global Gs f.result.0 ≡ Some g) × (type_row Gs f.result.0 ≡ Some g)
  row = let r = result_row s entry right f in_it in (r.0, r.1, row_is s.of entry right f.result.0 r.0 r.1 r.2)

  void_by : (b : Bool) → is_void row.0 ≡ b → is_void_in Gs f.result.0 ≡ b
  void_by b on = ap (λ o. option_map_or (λ (g : Inst). is g.op code.TypeVoid) o false) row.1 ∙ on

  -- without a value a function returns that gives none, and with one another (T24)
  pub gives_nothing : (i : Inst) → IsAmong i (insts_of f) → step_kind i.op ≡ steps.return → is_void_in Gs f.result.0 ≡ true
  gives_nothing i there kind =
      let w = flow_right s.of entry right f in_it i there in
      let off : breaks_t24_return Gs f ≡ false = ap (is_flow_broken s.of f w.0 i) (sym (return_group i.op kind)) ∙ w.1 in
      void_by true (not-false (is_void row.0) (ap (λ o. option_map_or (λ (g : Inst). not (is_void g)) o false) (sym row.2) ∙ off))

  pub gives_some : (i : Inst) → IsAmong i (insts_of f) → step_kind i.op ≡ steps.return_value → is_void_in Gs f.result.0 ≡ false
  gives_some i there kind =
      let w = flow_right s.of entry right f in_it i there in
      let off : breaks_t24_value Gs (type_in Gs f) f i ≡ false = ap (is_flow_broken s.of f w.0 i) (sym (value_group i.op kind)) ∙ w.1 in
      let none : fails (λ g. not (is_void g)) Gs f.result.0 ≡ false = or_left (fails (λ g. not (is_void g)) Gs f.result.0) (is_other Gs (type_in Gs f) f.result.0 (word_of i 0)) off in
      void_by false (not-true (is_void row.0) (not-false (not (is_void row.0)) (ap (λ o. option_map_or (λ (g : Inst). not (not (is_void g))) o false) (sym row.2) ∙ none)))

-- the literal of a case, of the type of its selector
abbrev pub number_shape : Option Elem → Shape
number_shape (Some elem.Int) = int
number_shape _ = uint

int_case : (l : ℕ) (b : Bool) → literal_value (if b then Int l else Hex l) ≡ typed int (word l)
int_case l true = refl
int_case l false = refl

pub case_is : (e : Option Elem) (l : ℕ) → literal_value (case_by e l) ≡ typed (number_shape e) (word l)
case_is (Some elem.Int) l = int_case l (nat_lt l (2 ^ 31))
case_is (Some elem.Uint) l = refl
case_is (Some elem.Bool) l = refl
case_is None l = refl

-- The structs in the types of live results and of values of a block are written.
use Rattle.std.proofs.Common.{◌≡◌, ℕ, Bool, true, false, List, Option, Some, None, option_map, refl, sym, ap, ◌∙◌, if◌then◌else◌}
use Rattle.std.specs.Prelude.{slice_index, option_and_then}
use Rattle.std.specs.Option.{option_map_or}
use Rattle.spv_ops.specs.Opcode.{is}
use Rattle.spv_ops.specs.declared.Op.TheVariants as code
use Rattle.spv_module.specs.Held.{global}
use Rattle.spv_module.specs.declared.inst.Inst.{Inst}
use Rattle.spv_module.specs.declared.inst.Function.{Function}
use Rattle.spv_types.specs.Tree.{Tree}
use Rattle.spv_types.specs.Types.{tree_at, type_tree}
use Rattle.spv_index.specs.Locals.{insts_of}
use Rattle.spv_index.specs.Pointers.{as_pointer}
use Rattle.conformance.specs.Rules.{Options}
use Rattle.profile_rules.specs.Places.{is_among, is_variable}
use Rattle.profile_rules.specs.TypeForm.{block_misuses}
use Rattle.module_semantics.specs.Setting.{Setting}
use Rattle.spv_decor.specs.Decorations.{local_insts}
use Rattle.glsl_ast.specs.Tree.{TranslationUnit}
use Rattle.text_rules.specs.Printed.{pointee_or_self, written_types}
use Rattle.function_text.specs.Functions.{FunctionPlan}
use Rattle.unit_rules.specs.Unit.{source_of, IsUnitOf}
use Rattle.plan_law.proofs.Order.{among_right}
use Rattle.typed_law.specs.Conforms.{IsConforming}
use Rattle.typed_law.proofs.Values.{among_functions, local_row, variable_type_is}
use Rattle.global_law.proofs.Constant.Within.{value_misused}
use Rattle.claim_law.specs.Claimed.{IsIn}
use Rattle.grammar_law.proofs.Unit.Lists.{as_among}
use Rattle.grammar_law.proofs.Unit.Shaped.{pointer_none}
use Rattle.grammar_law.proofs.Unit.Ways.{HaveKinds, F, in_module}
use Rattle.grammar_law.proofs.Unit.Free.{misused_free}
use Rattle.grammar_law.proofs.Unit.Structs.{Written, HasNames, written_names}

-- a type with a shape is no pointer
pub no_pointer : (gs : List Inst) (ty : ℕ) (t : Tree) → type_tree gs ty ≡ Some t → pointee_or_self gs ty ≡ ty
no_pointer gs ty t shaped = by_global (global gs ty) shaped
  where
    by_test : (g : Inst) → tree_at gs g ≡ Some t → (b : Bool) → is g.op code.TypePointer ≡ b → option_map_or (λ p. p) (option_map (λ (h : Inst). slice_index h.args 1) (if b then Some g else None)) ty ≡ ty
    by_test g at true on = absurd (pointer_none gs g t on at)
    by_test g at false off = refl

    by_global : (o : Option Inst) → option_map_or (tree_at gs) o None ≡ Some t → option_map_or (λ p. p) (option_map (λ (h : Inst). slice_index h.args 1) (option_and_then as_pointer o)) ty ≡ ty
    by_global None shaped = cc
    by_global (Some g) at = by_test g at (is g.op code.TypePointer) refl

module _ (s : Setting) (entry : Option (List ℕ)) (right : IsConforming s.of entry) (kinds : HaveKinds s.of.globals) (o : Options) (unit : TranslationUnit) (u : IsUnitOf s.of o unit) (p : FunctionPlan) (among : IsIn p u.plans) where
  abbrev Fn : Function
  Fn = F s entry right kinds o unit u p among

  -- of a result of the function
  result_misused : (i : Inst) → IsIn i (insts_of Fn) → (i.ty ≡ 0 → ⊥) → (t : Tree) → type_tree s.of.globals i.ty ≡ Some t → is_among (block_misuses s.of) i.ty ≡ true
  result_misused i there some t shaped =
      let body = among_right i s.of.globals (local_insts s.of) (among_functions s.of.functions Fn i (in_module s entry right kinds o unit u p among) (as_among (insts_of Fn) i there)) in
      value_misused s.of entry right i body no_variable
    where
      by_test : (b : Bool) → is_variable i ≡ b → b ≡ false
      by_test false off = refl
      by_test true on =
          let g = local_row s entry right Fn (in_module s entry right kinds o unit u p among) i (as_among (insts_of Fn) i there) some in
          absurd (pointer_none s.of.globals g.0 t (variable_type_is i.op g.0 on g.2) (ap (λ x. option_map_or (tree_at s.of.globals) x None) (sym g.1) ∙ shaped))

      no_variable : is_variable i ≡ false
      no_variable = by_test (is_variable i) refl

  -- a struct in the type of a result is written where the type is
  pub result_names : (i : Inst) → IsIn i (insts_of Fn) → (i.ty ≡ 0 → ⊥) → (t : Tree) → type_tree s.of.globals i.ty ≡ Some t → IsIn i.ty (written_types (source_of s.of o u.entry) (Written s.of o unit u)) → HasNames s.of o unit u t
  result_names i there some t shaped listed =
      written_names s.of o unit u entry right i.ty i.ty t listed (no_pointer s.of.globals i.ty t shaped) shaped (misused_free s.of entry right i.ty t (result_misused i there some t shaped) shaped)

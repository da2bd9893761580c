use Rattle.std.proofs.Common.{◌≡◌, ◌<◌, ℕ, IfOk, List, [], ◌∷◌, Option, Some, None, ap, map, subst, sym, ◌∙◌, arith}
use Rattle.std.specs.Option.{option_map_or}
use Rattle.spv_module.specs.Held.{global}
use Rattle.spv_module.specs.declared.inst.Inst.{Inst}
use Rattle.spv_types.specs.Tree.{Tree, boolean, int, uint, vector, array, runtime, struct}
use Rattle.spv_types.specs.Types.{tree_at}
use Rattle.spv_types.specs.View.{tree_of}
use Rattle.glsl_ast.specs.Tree.{Expr}
use Rattle.glsl_ast.specs.View.{expr_of}
use Rattle.few_law.specs.Few.{HasFewMembers}
use Rattle.vec_lowering.specs.Named.{naming_of}
use Rattle.vec_lowering.specs.Composite.{Argument, argument_of}
use Rattle.vec_lowering.specs.Lowered.{lowered_vector}
use Rattle.text_rules.specs.Outlines.{basic_of, basic_at, basic}
use Rattle.text_rules.specs.Declarations.{shape_at}
use Rattle.int_lowering.specs.Operand.{basic_type}
use Rattle.name_alloc.specs.declared.claims.Names.{Names as Given}
use Rattle.expr_forward.specs.Context.{basic_in, operand, scope_of}
use Rattle.expr_forward.specs.Values.{value_in, whole_argument}
use Rattle.expr_forward.specs.Globals.{global_in}
use Rattle.expr_forward.proofs.Deep.{value_of_global}
use Rattle.expr_forward.proofs.Operators.{with_operator}
use Rattle.expr_forward.proofs.block.BlockContext.+value.Goals as goal

pub logical_copy-lower_vector-requires : goal.logical_copy-lower_vector-requires
logical_copy-lower_vector-requires t c = c.in_ok-shape.ensures.few

pub logical_copy-returns : goal.logical_copy-returns
logical_copy-returns t c =
    let s = c.args.self.now.context.now in
    let w = scope_of s in
    let op = c.args.inst.now.op in
    let named = subst (λ (u : Given). IfOk c.lower_vector.result (λ e. expr_of e ≡ lowered_vector (naming_of u) op 0 (tree_of c.in_ok-shape.shape) [] (map argument_of c.in_ok-operands.operands.items))) c.names-names.ensures c.lower_vector.ensures.lowered in
    let shaped = subst (λ (u : Tree). IfOk c.lower_vector.result (λ e. expr_of e ≡ lowered_vector (naming_of s.names) op 0 u [] (map argument_of c.in_ok-operands.operands.items))) c.in_ok-shape.ensures.shape named in
    let operands_are = c.in_ok-operands.ensures ∙ ap (λ n. operand (whole_argument w (value_in w c.args.self.now.block c.args.deep) n) ∷ []) c.operand.ensures in
    subst (λ (xs : List Argument). IfOk c.lower_vector.result (λ e. expr_of e ≡ lowered_vector (naming_of s.names) op 0 (shape_at s.source c.args.inst.now.ty) [] xs)) operands_are shaped

pub value_in-returns-in-Some : goal.value_in-returns-in-Some
value_in-returns-in-Some t c =
    let there : global_in c.args.self.now.context.now.globals c.args.id.0 ≡ Some (expr_of c.in-Some.expr.now) = sym c.in-Some.ensures in
    let positive : 0 < c.args.deep = omega arith in
    let value_is = value_of_global (scope_of c.args.self.now.context.now) c.args.self.now.block c.args.deep c.args.id.0 (expr_of c.in-Some.expr.now) positive there in
    subst (λ (x : Expr). IfOk c.clone_in.result (λ e. expr_of e ≡ x)) (sym value_is) c.clone_in.ensures

-- a scalar or a vector has no members
basic_few : (gs : List Inst) (ty : ℕ) → HasFewMembers (basic gs ty)
basic_few gs ty = by_type (global gs ty)
  where
    by_shape : (o : Option Tree) → HasFewMembers (basic_of o)
    by_shape None = tt
    by_shape (Some boolean) = tt
    by_shape (Some int) = tt
    by_shape (Some uint) = tt
    by_shape (Some (vector e n)) = tt
    by_shape (Some (array t n)) = tt
    by_shape (Some (runtime t)) = tt
    by_shape (Some (struct id ts)) = tt

    by_type : (o : Option Inst) → HasFewMembers (option_map_or (basic_at gs) o uint)
    by_type None = tt
    by_type (Some g) = by_shape (tree_at gs g)

pub lowered-lower_vector-requires : goal.lowered-lower_vector-requires
lowered-lower_vector-requires t c = subst HasFewMembers (sym c.basic_shape-shape.ensures) (basic_few c.args.self.now.context.now.source.of.globals c.args.inst.now.ty)

pub on_two-returns-in-Some : goal.on_two-returns-in-Some
on_two-returns-in-Some t c =
    let s = c.args.self.now.context.now in
    let w = scope_of s in
    let same : c.basic_type-basic.result ≡ basic_in w c.args.inst.now.ty = c.basic_type-basic.ensures ∙ ap basic_type c.basic_shape.ensures in
    let law = with_operator s (value_in w c.args.self.now.block c.args.deep) c.args.inst.now c.args.a.0 c.args.b.0 c.in-Some.by c.basic_type-basic.result same (sym c.in-Some.ensures) in
    subst (λ (x : Expr). IfOk c.operated.result (λ e. expr_of e ≡ x)) (sym law) c.operated.ensures

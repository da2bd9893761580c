-- One component more: its operands are those of the definition.
use Rattle.std.proofs.Common.{rules, ◌≡◌, ◌∙◌, ap, map, ◌++◌, ◌∷◌, [], ◌+◌}
use Rattle.glsl_ast.specs.View.{expr_of}
use Rattle.int_lowering.specs.Operand.{operand_of, scalar}
use Rattle.int_lowering.specs.Lowered.{applied}
use Rattle.vec_lowering.specs.Component.{component, each_below}
use Rattle.vec_lowering.proofs.Parts.{pushed_below}
use Rattle.vec_lowering.proofs.components.by_component.Goals as goal

pub loop-k-preserved : goal.loop-k-preserved
loop-k-preserved c =
    let parts : map operand_of c.in_ok-args.args.items ≡ map (component c.loop-k.k) (map operand_of c.args.args.now) = search rules in
    let same : expr_of c.in_ok-lower_operation.field-0 ≡ applied c.args.operation (scalar c.args.elem) (map (component c.loop-k.k) (map operand_of c.args.args.now)) =
    c.in_ok-lower_operation.ensures.lowered ∙ ap (applied c.args.operation (scalar c.args.elem)) parts in
    let whole : map expr_of (c.loop-k.parts.items ++ c.in_ok-lower_operation.field-0 ∷ []) ≡ each_below (c.loop-k.k + 1) (λ k. applied c.args.operation (scalar c.args.elem) (map (component k) (map operand_of c.args.args.now))) =
    pushed_below c.loop-k.parts.items c.in_ok-lower_operation.field-0 c.loop-k.k (λ k. applied c.args.operation (scalar c.args.elem) (map (component k) (map operand_of c.args.args.now))) c.loop-k.invariant same in
    let items : c.push.new.self.items ≡ c.loop-k.parts.items ++ c.in_ok-lower_operation.field-0 ∷ [] = search (rules, c.in_ok-push.ensures.items) in
    ap (map expr_of) items ∙ whole

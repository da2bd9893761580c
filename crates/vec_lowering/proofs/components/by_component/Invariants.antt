use Rattle.std.proofs.Common.{◌≡◌, map}
use Rattle.glsl_ast.specs.View.{expr_of}
use Rattle.int_lowering.specs.Operand.{operand_of, scalar}
use Rattle.int_lowering.specs.Lowered.{applied}
use Rattle.vec_lowering.specs.Component.{component, each_below}
use Rattle.vec_lowering.proofs.components.by_component.Given as goal

abbrev pub invariant-loop-k : goal.invariant-loop-k
invariant-loop-k l = map expr_of l.parts.items ≡ each_below l.k (λ k. applied l.operation (scalar l.elem) (map (component k) (map operand_of l.args)))

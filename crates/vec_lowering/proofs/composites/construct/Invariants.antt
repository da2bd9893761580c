use Rattle.std.proofs.Common.{◌≡◌, map}
use Rattle.glsl_ast.specs.View.{expr_of}
use Rattle.vec_lowering.specs.Composite.{argument_of}
use Rattle.vec_lowering.proofs.composites.construct.Given as goal

abbrev pub invariant-loop-arg : goal.invariant-loop-arg
invariant-loop-arg l = map expr_of l.parts.items ≡ map (λ a. a.of) (map argument_of l.yielded)

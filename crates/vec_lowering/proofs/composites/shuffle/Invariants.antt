use Rattle.std.proofs.Common.{◌≡◌, map, take}
use Rattle.glsl_ast.specs.View.{expr_of}
use Rattle.vec_lowering.specs.Composite.{argument_of, picked}
use Rattle.vec_lowering.proofs.composites.shuffle.Given as goal

abbrev pub invariant-loop-k : goal.invariant-loop-k
invariant-loop-k l = map expr_of l.parts.items ≡ map (picked l.elem (argument_of l.a) (argument_of l.b)) (take l.k-index l.picks)

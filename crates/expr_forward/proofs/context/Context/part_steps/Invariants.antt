use Rattle.std.proofs.Common.{◌≡◌, ◌++◌, drop, map}
use Rattle.glsl_ast.specs.View.{step_of}
use Rattle.expr_forward.specs.Paths.{part_steps}
use Rattle.expr_forward.specs.Context.{setting_of}
use Rattle.expr_forward.proofs.context.Context.part_steps.Given as goal

abbrev pub invariant-loop-k : goal.invariant-loop-k
invariant-loop-k l = map step_of l.list.items ++ part_steps (setting_of l.self) l.ty (drop l.k-index l.literals) ≡ part_steps (setting_of l.self) l.from l.literals

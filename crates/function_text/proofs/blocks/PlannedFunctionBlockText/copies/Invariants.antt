use Rattle.std.proofs.Common.{◌≡◌, ◌++◌, map, take}
use Rattle.glsl_ast.specs.View.{stmt_of}
use Rattle.function_text.specs.Functions.{move_text}
use Rattle.function_text.specs.State.{plan_in}
use Rattle.function_text.proofs.blocks.PlannedFunctionBlockText.copies.Given as goal

abbrev pub invariant-loop-step : goal.invariant-loop-step
invariant-loop-step l = map stmt_of l.out.items ≡ map stmt_of l.initial.out.items ++ map (move_text (plan_in l.self.context l.self.plan.now) l.from l.to) (take l.step-index l.moves)

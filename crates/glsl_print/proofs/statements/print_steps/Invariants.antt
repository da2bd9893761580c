use Rattle.std.proofs.Common.{drop, map}
use Rattle.glsl_ast.specs.View.{step_of}
use Rattle.glsl_grammar.specs.Layout.{steps_text}
use Rattle.glsl_print.proofs.Steps.{Remains}
use Rattle.glsl_print.proofs.statements.print_steps.Given as goal

abbrev pub invariant-loop-step : goal.invariant-loop-step
invariant-loop-step g l = Remains g.K.Sink.written g.K.Sink.faults g.K.Sink.wants l.initial.sink l.initial.page (steps_text (map step_of (drop l.step-index l.steps))) (steps_text (map step_of l.steps)) l.sink l.page

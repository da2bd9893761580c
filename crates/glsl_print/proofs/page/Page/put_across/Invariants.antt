use Rattle.std.proofs.Common.{◌+◌, length}
use Rattle.glsl_print.proofs.Steps.{Remains}
use Rattle.glsl_print.proofs.page.Page.put_across.Given as goal

abbrev pub invariant-loop-rest : goal.invariant-loop-rest
invariant-loop-rest g l = Remains g.K.Sink.written g.K.Sink.faults g.K.Sink.wants l.initial.sink l.initial.self l.rest l.initial.rest l.sink l.self

abbrev pub decreases-loop-rest : goal.decreases-loop-rest
decreases-loop-rest g l = length l.rest + length l.self.held

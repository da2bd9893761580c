use Rattle.std.proofs.Common.{◌≡◌, ◌-◌}
use Rattle.std.specs.Prelude.{None}
use Rattle.step_run.specs.Kept.{IsGoing, begun_of}
use Rattle.step_run.proofs.going.run_on.Given as goal

abbrev pub ghost-one_more : goal.ghost-one_more
ghost-one_more g a = g.course

abbrev pub invariant-loop-pause : goal.invariant-loop-pause
invariant-loop-pause g l = record {
  going : IsGoing g.course.start g.course.steps l.row (g.P.Program.goes l.program l.state);
  free : l.row.asked ≡ None;
  same : begun_of l.row ≡ begun_of l.initial.row;
}

abbrev pub decreases-loop-pause : goal.decreases-loop-pause
decreases-loop-pause g l = l.steps - l.row.used

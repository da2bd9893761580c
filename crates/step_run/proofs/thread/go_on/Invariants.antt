use Rattle.step_run.specs.Kept.{told_by}
use Rattle.step_run.proofs.thread.go_on.Given as goal

abbrev pub ghost-run_on : goal.ghost-run_on
ghost-run_on g a = record { start = g.P.Program.walk a.program.now (told_by a.row.now.inv); steps = a.steps }

use Rattle.step_run.proofs.going.one_more.Given as goal

abbrev pub ghost-take_step : goal.ghost-take_step
ghost-take_step g a = g.course

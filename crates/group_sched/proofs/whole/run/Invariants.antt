use Rattle.group_sched.proofs.whole.run.Given as goal

abbrev pub ghost-play_schedule : goal.ghost-play_schedule
ghost-play_schedule g a = g.d

use Rattle.run_flow.proofs.leaving.return_step.Given as goal

abbrev pub ghost-leave : goal.ghost-leave
ghost-leave g a = g.fs

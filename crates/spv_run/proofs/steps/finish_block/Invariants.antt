use Rattle.spv_run.proofs.steps.finish_block.Given as goal

abbrev pub ghost-return_step : goal.ghost-return_step
ghost-return_step g a = g.fs

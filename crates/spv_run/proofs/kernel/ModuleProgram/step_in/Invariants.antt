use Rattle.spv_run.proofs.kernel.ModuleProgram.step_in.Given as goal

abbrev pub ghost-finish_block : goal.ghost-finish_block
ghost-finish_block a = a.site.now.map.now.of.functions

use Rattle.run_flow.proofs.edges.enter_block.Given as goal

abbrev pub ghost-go_to : goal.ghost-go_to
ghost-go_to g a = g.fs

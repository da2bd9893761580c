use Rattle.run_flow.proofs.edges.edge_step.Given as goal

abbrev pub ghost-enter_block : goal.ghost-enter_block
ghost-enter_block a = a.map.now.of.functions

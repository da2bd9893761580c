use Rattle.std.proofs.lemmas.Result.{IfOk-weaker}
use Rattle.run_flow.proofs.Moves.{no_target, to_target}
use Rattle.run_flow.proofs.edges.branch_step.Goals as goal

pub returns-in-None-clause-step : goal.returns-in-None-clause-step
returns-in-None-clause-step c = λ told. no_target c.args.site.now.map.now told c.args.conf.now c.args.conf.now c.args.end c.args.site.now.inst.now (c.in-None.ensures told c.args.site.now.map.now.of.functions)

pub returns-in-Some-clause-step : goal.returns-in-Some-clause-step
returns-in-Some-clause-step c = λ told. IfOk-weaker c.edge_step.result _ _ (λ step moved. to_target c.args.site.now.map.now told c.args.conf.now c.edge_step.new.conf c.args.end c.args.site.now.inst.now c.in-Some.label step (c.in-Some.ensures told c.args.site.now.map.now.of.functions) moved) (c.edge_step.ensures.step told)

use Rattle.function_plan.proofs.Edges.{left_pushed}
use Rattle.function_plan.proofs.single.push_move.Goals as goal

pub returns : goal.returns
returns c = left_pushed c.args.list.now.items c.push.new.self.items c.args.from c.in_ok-own.own c.args.pair c.in_ok-push.ensures.items c.in_ok-own.ensures

use Rattle.function_plan.proofs.Moving.{pair_put}
use Rattle.function_plan.proofs.moves.add_pair_from.Goals as goal

pub returns : goal.returns
returns c =
    pair_put c.args.pairs.now c.take_pairs-list.new.pairs c.insert.new.self c.args.from c.take_pairs-list.result c.push.new.self c.args.pair c.take_pairs-list.ensures.taken c.in_ok-push.ensures.items c.take_pairs-list.ensures.left (λ b. c.in_ok-insert.ensures.updates.0 b)

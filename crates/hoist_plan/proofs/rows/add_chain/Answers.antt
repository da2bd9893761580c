use Rattle.std.proofs.Common.{map}
use Rattle.hoist_plan.specs.Kept.{placed_chain}
use Rattle.hoist_plan.proofs.Passes.{chain_more, chain_none}
use Rattle.hoist_plan.proofs.rows.add_chain.Goals as goal

pub returns-then-not-is_chain : goal.returns-then-not-is_chain
returns-then-not-is_chain c = chain_none (map placed_chain c.args.chains.now.items) c.args.places.now c.args.row c.is_chain.result c.is_chain.ensures c.if-not-is_chain.true

pub returns : goal.returns
returns c = rw c.in_ok-push.ensures.items (chain_more c.args.chains.now.items c.args.places.now (record { row = c.args.row; mentions = c.in_ok-mentions.mentions }) c.is_chain.result c.is_chain.ensures c.if-not-is_chain.false c.in_ok-mentions.ensures)

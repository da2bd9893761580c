use Rattle.std.proofs.Common.{◌∙◌}
use Rattle.switch_ladder.proofs.Passing.{among}
use Rattle.switch_ladder.proofs.plan.is_among.Goals as goal

pub returns : goal.returns
returns c = c.is_ok.ensures.value ∙ among c.args.sorted.now c.args.block c.binary_search.result c.requires c.binary_search.ensures.position

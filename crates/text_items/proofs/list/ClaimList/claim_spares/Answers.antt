use Rattle.text_items.specs.Claimed.{claim_spare}
use Rattle.text_items.proofs.Joined.{number_more}
use Rattle.text_items.proofs.list.ClaimList.claim_spares.Goals as goal

pub loop-number-preserved : goal.loop-number-preserved
loop-number-preserved g c =
    number_more (claim_spare c.label-source.result c.label-target.result) c.add_flag.new.self c.loop-number.self c.args.self.now c.loop-number.number c.in_ok-add_flag.ensures c.loop-number.invariant

use Rattle.std.proofs.Common.{◌∙◌, sym, arith}
use Rattle.group_items.specs.Memory.{stored}
use Rattle.group_items.proofs.Put.{put_done}
use Rattle.group_items.proofs.play.put_all_at.Goals as goal

pub returns-clause-put : goal.returns-clause-put
returns-clause-put c =
    sym (put_done c.args.group c.loop-k.k c.args.places.now c.args.words.now (stored c.loop-k.store.maps.items) (omega (arith, c.min-k-end.ensures, c.loop-k-test.false))) ∙ c.loop-k.invariant.put

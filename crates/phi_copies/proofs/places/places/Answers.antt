use Rattle.std.proofs.Common.{rules, ◌<◌, ◌^◌}
use Rattle.std.specs.BTreeMap.{get}
use Rattle.std.specs.Ordering.{nat_cmp}
use Rattle.phi_copies.specs.Sequence.{target, pair_at}
use Rattle.phi_copies.proofs.Few.{narrow_more}
use Rattle.phi_copies.proofs.Started.{places_more}
use Rattle.phi_copies.proofs.places.places.Goals as goal

pub loop-i-preserved : goal.loop-i-preserved
loop-i-preserved c =
    let fits : target (pair_at c.args.pairs.now c.loop-i.i) < 2 ^ 32 = search rules in (
      places_more c.args.pairs.now c.loop-i.i (get nat_cmp c.loop-i.places) (get nat_cmp c.insert.new.self) c.loop-i.invariant.0 c.in_ok-insert.ensures.updates.0,
      narrow_more c.args.pairs.now c.loop-i.i c.loop-i.invariant.1 fits,
    )

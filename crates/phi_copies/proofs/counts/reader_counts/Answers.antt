use Rattle.std.proofs.Common.{◌≡◌, ◌∙◌, length}
use Rattle.std.specs.BTreeMap.{get}
use Rattle.std.specs.Ordering.{nat_cmp}
use Rattle.std.specs.Vec.{with_items}
use Rattle.std.proofs.lemmas.List.{with_items_is}
use Rattle.phi_copies.proofs.Started.{counts_more}
use Rattle.phi_copies.proofs.counts.reader_counts.Goals as goal

pub loop-pair-preserved : goal.loop-pair-preserved
loop-pair-preserved c =
    let size : length c.add_reader.new.counts ≡ c.loop-pair.counts.len = c.add_reader.ensures.size ∙ c.deref_mut.ensures.len in
    let items : (with_items c.loop-pair.counts c.add_reader.new.counts).items ≡ c.add_reader.new.counts = with_items_is c.loop-pair.counts c.add_reader.new.counts size in
    let added = rw (c.deref_mut.ensures.value, c.source_place.ensures) at c.add_reader.ensures in
    rw items (counts_more c.args.pairs.now c.loop-pair.pair-index c.loop-pair.counts.items c.add_reader.new.counts (get nat_cmp c.args.places.now) (get nat_cmp c.args.spares.now) c.requires.own c.requires.places c.requires.spares c.loop-pair-test.true c.loop-pair.invariant added)

use Rattle.std.proofs.Common.{◌∙◌, sym, subst}
use Rattle.dispatch_semantics.specs.Store.{found_at, AreWords}
use Rattle.group_items.specs.Events.{location_of}
use Rattle.group_items.specs.Memory.{stored}
use Rattle.group_items.proofs.Put.{words-snoc, next_found}
use Rattle.group_items.proofs.play.found.Goals as goal

pub loop-place-preserved : goal.loop-place-preserved
loop-place-preserved c = record {
  are = subst AreWords (sym c.in_ok-push.ensures.items) (words-snoc c.loop-place.words.items c.known-word.result c.loop-place.invariant.are c.known-word.ensures.fits);
  found = next_found (found_at (stored c.args.store.now.maps.items) c.args.group) location_of c.args.places.now c.loop-place.words.items c.push.new.self.items _ c.loop-place.place-index c.place-item.result c.known-word.result c.loop-place-test.true c.place-item.is (c.known-word.ensures.same ∙ c.word.ensures) c.in_ok-push.ensures.items c.loop-place.invariant.found;
}

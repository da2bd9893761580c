use Rattle.std.proofs.Common.{◌∙◌, ◌≡◌, length, reverse}
use Rattle.std.specs.BTreeMap.{get}
use Rattle.std.specs.BTreeSet.{contains}
use Rattle.std.specs.Ordering.{nat_cmp}
use Rattle.std.specs.Vec.{with_items}
use Rattle.std.proofs.lemmas.List.{with_items_is}
use Rattle.list_law.proofs.Numbers.{not_past}
use Rattle.phi_copies.proofs.Copied.{state_copied}
use Rattle.phi_copies.proofs.Started.{enough_source, reverse_push}
use Rattle.phi_copies.proofs.work.Work.copy.Goals as goal

pub release-requires : goal.release-requires
release-requires c =
    let w = c.args.self.now in
    rw (c.deref_mut.ensures.value, c.source_place-place.ensures)
    (enough_source c.args.pairs.now (reverse w.moves.items) w.counts.items (contains nat_cmp w.left) (contains nat_cmp w.ready) (get nat_cmp w.places) (get nat_cmp w.spares) w.saves c.in-Some.next c.requires.own c.requires.work.are c.requires.work.state c.in-Some.ensures.member)

pub returns-clause-work : goal.returns-clause-work
returns-clause-work c =
    let w = c.args.self.now in
    let size : length c.release.new.counts ≡ w.counts.len = c.in_ok-release.ensures.size ∙ c.deref_mut.ensures.len in
    let items : (with_items w.counts c.release.new.counts).items ≡ c.release.new.counts = with_items_is w.counts c.release.new.counts size in
    let released = rw (c.deref_mut.ensures.value, c.source_place-place.ensures) at c.in_ok-release.ensures in
    record {
      are = c.requires.work.are;
      few = c.requires.work.few;
      state = rw (c.in_ok-push.ensures.items, reverse_push, c.move_of.ensures, items)
          (state_copied c.args.pairs.now (reverse w.moves.items) w.counts.items (contains nat_cmp w.left) (contains nat_cmp w.ready) (get nat_cmp w.places) (get nat_cmp w.spares) w.saves c.in-Some.next (contains nat_cmp c.remove.new.self) (contains nat_cmp c.pop_first.new.self) c.release.new.counts (contains nat_cmp c.release.new.ready)
          c.requires.own c.requires.work.are c.requires.work.state c.in-Some.ensures.member
          (λ j r. not_past c.in-Some.next j (c.in-Some.ensures.least j r))
          c.remove.ensures.updates.0
          c.in-Some.ensures.updates.0
          released);
    }

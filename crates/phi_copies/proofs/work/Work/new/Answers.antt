use Rattle.std.proofs.Common.{refl, ◌≡◌, ℕ, None}
use Rattle.std.specs.BTreeMap.{get}
use Rattle.std.specs.BTreeSet.{contains}
use Rattle.std.specs.Ordering.{nat_cmp}
use Rattle.phi_copies.proofs.Few.{few_pairs}
use Rattle.phi_copies.proofs.Started.{state_start}
use Rattle.phi_copies.proofs.work.Work.new.Goals as goal

pub returns : goal.returns
returns c =
    let none : (v : ℕ) → get nat_cmp c.new-spares.result v ≡ None = λ v. rw c.new-spares.ensures.empty refl in
    let open_now = rw c.deref.ensures.value at c.in_ok-unread_places.ensures in
    record {
      are = c.in_ok-places.ensures.places;
      few = few_pairs c.args.pairs.now c.requires c.in_ok-places.ensures.narrow;
      state = rw c.new.ensures.items (state_start c.args.pairs.now c.in_ok-counts.counts.items (contains nat_cmp c.in_ok-all_places.field-0) (contains nat_cmp c.in_ok-unread_places.field-0) (get nat_cmp c.new-spares.result) c.in_ok-counts.ensures c.in_ok-all_places.ensures open_now none);
    }

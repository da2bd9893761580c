-- What is kept in a `Work`.
use Rattle.std.specs.Prelude.{◌≤◌, ◌^◌, List, length, reverse}
use Rattle.std.specs.BTreeMap.{get}
use Rattle.std.specs.BTreeSet.{contains}
use Rattle.std.specs.Ordering.{nat_cmp}
use Rattle.phi_copies.specs.declared.work.Work.{Work}
use Rattle.phi_copies.specs.Sequence.{Pair}
use Rattle.phi_copies.specs.Kept.{ArePlaces, IsState}

-- it holds the moves of a history, and what is known after it
pub record IsWork (ps : List Pair) (w : Work) : Type 0 where
  pub are : ArePlaces ps (length ps) (get nat_cmp w.places)
  pub state : IsState ps (reverse w.moves.items) w.counts.items (contains nat_cmp w.left) (contains nat_cmp w.ready) (get nat_cmp w.spares) w.saves
  pub few : length ps ≤ 2 ^ 32

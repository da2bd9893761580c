-- Three numbers, one for each axis.
use Rattle.std.specs.Prelude.{◌≡◌, ℕ, ◌<◌, ◌≤◌, ◌*◌, true, List}
use Rattle.traces.specs.Invocations.{Triple}
use Rattle.dispatch_semantics.specs.Grid.{Grid, product, global_id}
use Rattle.dispatch_case.specs.Three.{triple_of}
use Rattle.dispatch_case.specs.Cases.{CaseParts, is_fine}
use Rattle.group_sched.specs.declared.extent.Extent.{Extent}

abbrev pub AreAbove : Triple → Type 0
AreAbove t = (0 < t.0) × (0 < t.1) × (0 < t.2)

abbrev pub AreSmall : Triple → Type 0
AreSmall t = (t.0 ≤ 1024) × (t.1 ≤ 1024) × (t.2 ≤ 1024)

abbrev pub global_of : Triple → Triple → Triple → Triple
global_of group size own = (global_id group.0 size.0 own.0, global_id group.1 size.1 own.1, global_id group.2 size.2 own.2)

-- a grid of so many workgroups of this size
pub record IsGridOf (grid : Grid) (groups size : List ℕ) : Type 0 where
  pub groups_are : grid.groups ≡ triple_of groups
  pub size_is : grid.size ≡ triple_of size
  pub above : AreAbove grid.groups × AreAbove grid.size
  pub small : AreSmall grid.groups × AreSmall grid.size

-- so many invocations are in a workgroup, so many workgroups are there, and so many invocations in all
pub record IsExtent (g s : Triple) (e : Extent) : Type 0 where
  pub group : e.group ≡ product s
  pub groups : e.groups ≡ product g
  pub count : e.count ≡ product g * product s
  pub small : e.count ≤ 1024

-- a case and the size of a workgroup are within their bounds, and have so many invocations
pub record CanStart (c : CaseParts) (size : Triple) (e : Extent) : Type 0 where
  pub fine : is_fine c ≡ true
  pub above : AreAbove size
  pub extent : IsExtent c.groups size e

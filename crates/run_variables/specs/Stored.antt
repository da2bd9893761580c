-- A part of a variable that is replaced.
use Rattle.std.specs.Prelude.{◌≡◌, ℕ, Bool, true, false, List, Option, Some, None, option_and_then}
use Rattle.spv_types.specs.Tree.{ValueTree}
use Rattle.op_semantics.specs.Composite.{inserted}
use Rattle.module_semantics.specs.State as state
use Rattle.module_semantics.specs.Accesses.{keeping}

-- the variable with this id, where the value may be put in the place of that part; without one nothing has changed
module _ (old new : ℕ → Option ValueTree) (id : ℕ) (path : List ℕ) (v : ValueTree) where
  abbrev pub HasStored : Bool → Type 0
  HasStored true = (whole : ValueTree) × ((option_and_then (inserted v path) (old id) ≡ Some whole) × ((q : ℕ) → new q ≡ state.put old id whole q))
  HasStored false = (option_and_then (inserted v path) (old id) ≡ None) × ((q : ℕ) → new q ≡ old q)

-- what the variable has into which a pointer leads, where no other invocation sees it
abbrev pub kept_by : state.Conf → state.Root → Option ValueTree
kept_by c (state.global id) = c.privates id
kept_by c (state.own id) = c.top.variables id
kept_by c (state.lent depth id) = option_and_then (λ (f : state.Frame). f.variables id) (state.call_at depth c.below)

-- that variable has another part, where it has one there; else nothing has changed
module _ (old new : state.Conf) (r : state.Root) (path : List ℕ) (v : ValueTree) where
  abbrev pub HasKept : Bool → Type 0
  HasKept true = (whole : ValueTree) × ((option_and_then (inserted v path) (kept_by old r) ≡ Some whole) × (new ≡ keeping r whole old))
  HasKept false = (option_and_then (inserted v path) (kept_by old r) ≡ None) × (new ≡ old)

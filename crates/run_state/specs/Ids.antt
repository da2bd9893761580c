-- What ids have, as the program keeps it.
use Rattle.std.specs.Prelude.{ℕ, ◌==◌, Bool, true, false, List, Option, None, option_map, option_and_then, IfSome, IsSome, slice_get, if◌then◌else◌}
use Rattle.spv_module.specs.declared.inst.Inst.{Inst}
use Rattle.std.specs.BTreeMap.{BTreeMap, get}
use Rattle.std.specs.Ordering.{nat_cmp}
use Rattle.spv_module.specs.declared.tree.Value.{Value}
use Rattle.spv_types.specs.Tree.{ValueTree}
use Rattle.spv_types.specs.View.{value_of}
use Rattle.module_semantics.specs.State as state
use Rattle.run_state.specs.declared.held.Root.{Root}
use Rattle.run_state.specs.declared.held.Root.TheVariants as root
use Rattle.run_state.specs.declared.held.Held.{Held}
use Rattle.run_state.specs.declared.held.Held.TheVariants as held
use Rattle.run_state.specs.declared.held.Found.{Found}
use Rattle.run_state.specs.declared.held.Found.TheVariants as found

abbrev pub root_of : Root → state.Root
root_of (root.Global id) = state.global id
root_of (root.Own id) = state.own id
root_of (root.Lent depth id) = state.lent depth id

abbrev pub held_of : Held → state.Held
held_of (held.Value v) = state.value (value_of v)
held_of (held.Pointer r path) = state.pointer (root_of r) path.items

abbrev pub found_of : Found → state.Held
found_of (found.Value v) = state.value (value_of v.now)
found_of (found.Pointer r path) = state.pointer (root_of r) path.now

abbrev pub ids_of : BTreeMap ℕ (Option Held) → ℕ → Option state.Held
ids_of m id = option_map held_of (option_and_then (λ (h : Option Held). h) (get nat_cmp m id))

abbrev pub variables_of : BTreeMap ℕ Value → ℕ → Option ValueTree
variables_of m id = option_map value_of (get nat_cmp m id)

-- the map with this or nothing at an id
abbrev pub with_held : (ℕ → Option state.Held) → ℕ → Option state.Held → ℕ → Option state.Held
with_held f n h k = elim (k == n) [ true ↦ h | false ↦ f k ]

-- the map with nothing at these ids
abbrev pub without : (ℕ → Bool) → (ℕ → Option state.Held) → ℕ → Option state.Held
without test f id = if test id then None else f id

-- the results of these instructions have places
abbrev pub HavePlaces : BTreeMap ℕ (Option Held) → List Inst → Type 0
HavePlaces m is = (k : ℕ) → IfSome (slice_get is k) (λ (i : Inst). IsSome (get nat_cmp m i.result))

-- one whose base is the chain, or is based on it
abbrev pub based_by : Bool → Bool → Bool
based_by true b = true
based_by false b = b

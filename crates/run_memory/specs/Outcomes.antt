-- What loads, stores and atomic instructions come to.
use Rattle.std.specs.Prelude.{◌≡◌, ℕ, List, [], ◌∷◌, Option, Some, None, option_and_then}
use Rattle.spv_ops.specs.declared.AtomicOp.{AtomicOp}
use Rattle.spv_module.specs.declared.inst.Inst.{Inst}
use Rattle.spv_types.specs.Tree.{ValueTree}
use Rattle.spv_types.specs.View.{tree_of, value_of}
use Rattle.few_law.specs.Few.{HasFewMembers}
use Rattle.op_semantics.specs.Composite.{inserted}
use Rattle.value_words.specs.Words.{value_from}
use Rattle.traces.specs.Events as trace
use Rattle.traces.specs.Events.{Access, reading, updating}
use Rattle.traces.specs.Runs.{Act, goes, asks, fails}
use Rattle.group_items.specs.Events.{access_of, event_of, locations_of}
use Rattle.module_semantics.specs.Setting.{Setting}
use Rattle.module_semantics.specs.State.{Conf, Root, global}
use Rattle.module_semantics.specs.Memory.{location}
use Rattle.module_semantics.specs.Operands.{Target, arg, value_at}
use Rattle.module_semantics.specs.Accesses.{seen, keeping}
use Rattle.module_semantics.specs.Steps.{with_some, advanced, set_value, set_found, load_from, store_to, atomic_operation, atomic_operands}
use Rattle.memory_places.specs.Leaves.{places_with}
use Rattle.run_state.specs.Ids.{root_of}
use Rattle.run_variables.specs.Stored.{kept_by}
use Rattle.run_memory.specs.declared.loads.Source.{Source}
use Rattle.run_memory.specs.declared.loads.Source.TheVariants as source
use Rattle.run_memory.specs.declared.loads.Loaded.{Loaded}
use Rattle.run_memory.specs.declared.loads.Loaded.TheVariants as loaded
use Rattle.run_memory.specs.declared.stores.Stored.{Stored}
use Rattle.run_memory.specs.declared.stores.Stored.TheVariants as stored
use Rattle.run_memory.specs.declared.atomics.Update.{Update}

-- the structs of the part that is read there have few members
abbrev pub ReadsFew : Source → Type 0
ReadsFew (source.Seen v path t) = HasFewMembers (tree_of t)
ReadsFew _ = Unit {0}

module _ (s : Setting) (c : Conf) (rest : List Inst) (i : Inst) where
  -- what a load does that reads there
  abbrev pub loaded_from : Source → Act Conf
  loaded_from source.Missing = fails
  loaded_from (source.Kept r path) = load_from s c rest i (root_of r, path.now) None
  loaded_from (source.Seen v path t) = asks (reading (places_with s v.now path.now (tree_of t))) (λ words. set_value c rest i (value_from (tree_of t) words))

  -- what an atomic instruction does along a path in a variable, and in the variable into which a pointer leads
  abbrev pub update_in : AtomicOp → List ℕ → Inst → Act Conf
  update_in o path v = with_some (atomic_operands o s c.top i) (λ operands. asks (updating (atomic_operation o) (location s v path) operands) (set_found c rest i o))

  abbrev pub update_at : AtomicOp → Target → Act Conf
  update_at o p = with_some (seen s p.0) (update_in o p.1)

  -- what one does that changes this
  abbrev pub updated_by : AtomicOp → Option Update → Act Conf
  updated_by o None = fails
  updated_by o (Some u) = asks (updating (atomic_operation o) (location s u.variable.now u.path.now) u.operands.items) (set_found c rest i o)

  -- what a store does that leads there
  abbrev pub store_value : Target → Act Conf
  store_value p = with_some (value_at s c.top (arg i 1)) (λ v. store_to s c rest p v (seen s p.0))

-- the load is this act
module _ (a : Act Conf) (c : Conf) (rest : List Inst) (i : Inst) where
  abbrev pub IsLoaded : Loaded → Type 0
  IsLoaded loaded.Missing = a ≡ fails
  IsLoaded (loaded.Value v) = a ≡ goes [] (set_value c rest i (value_of v))
  IsLoaded (loaded.Asked e) = (access : Access) × ((f : List ℕ → Conf) × ((a ≡ asks access f) × (access_of (event_of e) ≡ Some access)))

-- a variable has this from now on, where there is something
abbrev pub kept_with : Conf → List Inst → Root → Option ValueTree → Act Conf
kept_with c rest r whole = with_some whole (λ w. goes [] (keeping r w (advanced c rest)))

-- what a store does that comes to this
abbrev pub stored_by : Conf → List Inst → Stored → Act Conf
stored_by c rest stored.Missing = fails
stored_by c rest (stored.Part r path v) = kept_with c rest (root_of r) (option_and_then (inserted (value_of v) path.items) (kept_by c (root_of r)))
stored_by c rest (stored.Whole id v) = goes [] (keeping (global id) (value_of v) (advanced c rest))
stored_by c rest (stored.Seen places words) = goes (trace.write (locations_of places.items) words.items ∷ []) (advanced c rest)

-- the state with this as the result of an instruction, where there is something
abbrev pub with_read : Conf → List Inst → Inst → Option ValueTree → Conf
with_read c rest i None = c
with_read c rest i (Some v) = set_value c rest i v

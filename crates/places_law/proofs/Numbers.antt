-- What is done next asks for places for which a program has numbers.
use Rattle.std.proofs.Common.{◌≡◌, ◌≤◌, ◌⊎◌, ◌==◌, ◌++◌, ℕ, Bool, true, false, List, [], ◌∷◌, map, drop, Option, Some, None, inl, inr, refl, sym, ap, subst}
use Rattle.std.specs.Prelude.{bit_and, option_and_then, slice_get, if◌then◌else◌}
use Rattle.spv_ops.specs.declared.AtomicOp.{AtomicOp}
use Rattle.spv_ops.specs.declared.Terminator.{Terminator}
use Rattle.spv_ops.specs.declared.StorageClass.TheVariants as storage
use Rattle.spv_module.specs.declared.inst.Inst.{Inst}
use Rattle.spv_module.specs.declared.inst.Function.{Function}
use Rattle.spv_types.specs.Tree as plain
use Rattle.spv_types.specs.Tree.{Tree, ValueTree, word}
use Rattle.spv_index.specs.Locals.{block_in}
use Rattle.spv_index.specs.Pointers.{pointee_of}
use Rattle.op_semantics.specs.Component.{each_one}
use Rattle.op_semantics.specs.Composite.{extracted, inserted}
use Rattle.profile_rules.specs.Entry.{function_of}
use Rattle.value_words.specs.Words.{words_of, value_from}
use Rattle.traces.specs.Events.{Event, Location, reading, updating, buffer_barrier, shared_barrier, control_barrier}
use Rattle.traces.specs.Events as event
use Rattle.traces.specs.Runs.{Act, goes, asks}
use Rattle.module_semantics.specs.Setting.{Setting, shared_number}
use Rattle.module_semantics.specs.State.{Root, global, own, lent, pointer, Frame, Conf}
use Rattle.module_semantics.specs.Memory.{class_of, location, locations, shape_along, elements, are_allowed}
use Rattle.module_semantics.specs.Operands.{Target, held, value_at, pointer_at, word_at, words_at, arg}
use Rattle.module_semantics.specs.Accesses.{seen, kept, keeping}
use Rattle.module_semantics.specs.Steps as the
use Rattle.module_semantics.specs.Steps.{with_some, advanced, set, set_value, computed, operation_step, base, lead_if, chain_step, length_step, variable_step, read_shape, load_from, load_step, store_to, store_step, atomic_operation, atomic_operands, set_found, atomic_step, memory_barriers, memory_barrier_step, control_barrier_step, phis, called, call_step, return_step, given_to, return_value_step, target_label, phi_value, present_label, gone_to, edge_step, branch_step, StepKind, step_kind, step_by, act_on, act}
use Rattle.fits_law.specs.State.{global_shape, target_shape, functions_of, LeadsTo, IdsFit, ModuleFits}
use Rattle.type_law.specs.Shaped.{AreConstants}
use Rattle.memory_places.specs.Capped.{capped, most_variables}
use Rattle.narrow_law.specs.Reach.{Along}
use Rattle.narrow_law.specs.Placed.{IsPlaced}
use Rattle.narrow_law.proofs.Places.{placed_location, placed_locations, shared_place, shared_places, number_low}
use Rattle.run_acts.specs.Narrowed.{narrow_event, narrowed}
use Rattle.places_law.specs.Pointing.{GoesAlong, IsAlong, ArePlaced}
use Rattle.places_law.proofs.Seen.{seen_is}
use Rattle.places_law.proofs.Steps.{pointer_led}

abbrev IsOwn : Act Conf → Type 0
IsOwn a = narrowed a ≡ a

some_own : {A : Type 0} (o : Option A) (f : A → Act Conf) → ((a : A) → o ≡ Some a → IsOwn (f a)) → IsOwn (with_some o f)
some_own None f on = refl
some_own (Some a) f on = on a refl

-- barriers have no places
two_barriers : (a b : Bool) (more : List Event) → map narrow_event more ≡ more
    → map narrow_event (((if a then [] else buffer_barrier ∷ []) ++ (if b then [] else shared_barrier ∷ [])) ++ more) ≡ ((if a then [] else buffer_barrier ∷ []) ++ (if b then [] else shared_barrier ∷ [])) ++ more
two_barriers true true more same = same
two_barriers true false more same = ap (λ l. shared_barrier ∷ l) same
two_barriers false true more same = ap (λ l. buffer_barrier ∷ l) same
two_barriers false false more same = ap (λ l. buffer_barrier ∷ shared_barrier ∷ l) same

one_barrier : (a b : Bool) → map narrow_event ((if a then [] else buffer_barrier ∷ []) ++ (if b then [] else shared_barrier ∷ [])) ≡ (if a then [] else buffer_barrier ∷ []) ++ (if b then [] else shared_barrier ∷ [])
one_barrier true true = refl
one_barrier true false = refl
one_barrier false true = refl
one_barrier false false = refl

module _ (s : Setting) where
  module _ (fit : ModuleFits s) (placed : ArePlaced s) where
    abbrev IsLow : Inst → List ℕ → Type 0
    IsLow v path = (capped (location s v path) ≡ location s v path) × (map capped (locations s v path) ≡ locations s v path)

    -- the shape of a block variable, by its own type
    block_along : (f : Function) (id : ℕ) (v : Inst) (path : List ℕ) (p : IsPlaced s v) → seen s (global id) ≡ Some v → GoesAlong s (global id) path → Along s (plain.struct p.number p.members) path
    block_along f id v path p is leads = by_shape (global_shape s id) refl
      where
        by_shape : (o : Option Tree) → global_shape s id ≡ o → Along s (plain.struct p.number p.members) path
        by_shape None none = absurd (subst (λ o. LeadsTo o [] (target_shape s f id)) none (fit.globals f id v (seen_is s id v is)))
        by_shape (Some t) shape =
            let same : plain.struct p.number p.members ≡ t = fit.along id [] v (plain.struct p.number p.members) t is p.shape (subst (λ o. LeadsTo o [] (Some t)) (sym shape) refl) in
            subst (λ u. Along s u path) (sym same) (leads t shape)

    low_at : (f : Function) (r : Root) (v : Inst) (path : List ℕ) → seen s r ≡ Some v → GoesAlong s r path → IsLow v path
    low_at f (own id) v path is leads = cc
    low_at f (lent depth id) v path is leads = cc
    low_at f (global id) v path is leads = by_kind (placed.each id v is)
      where
        few : shared_number s v.result ≤ most_variables
        few = number_low s v.result placed.few

        by_kind : (class_of v ≡ Some storage.Workgroup) ⊎ IsPlaced s v → IsLow v path
        by_kind (inl shared) = (shared_place s v path shared few, shared_places s v path shared few)
        by_kind (inr p) = let along = block_along f id v path p is leads in (placed_location s v p path along few, placed_locations s v p path along few)

    module _ (right : AreConstants s) (c : Conf) (typed : IdsFit s (functions_of c.below) c.top.function c.top.ids) (at : IsAlong s c) where
      low : (n : ℕ) (p : Target) (v : Inst) → pointer_at s c.top n ≡ Some p → seen s p.0 ≡ Some v → IsLow v p.1
      low n p v is there = low_at c.top.function p.0 v p.1 there (pointer_led s fit right c typed at n p is).0

      module _ (i : Inst) (rest : List Inst) where
        operation_own : IsOwn (operation_step s c rest i)
        unfolding operation_step
        operation_own = some_own (computed s c.top i) (λ v. goes [] (set_value c rest i v)) (λ v e. refl)

        led_own : (p : Target) (indexes : List ℕ) (b : Bool) → IsOwn (lead_if b c rest i p indexes)
        led_own p indexes true = refl
        led_own p indexes false = refl

        chain_own : IsOwn (chain_step s c rest i)
        unfolding chain_step
        chain_own =
            some_own (pointer_at s c.top (base i)) _ (λ p is.
            some_own (words_at s c.top (drop 1 i.args)) _ (λ indexes have.
            some_own (pointee_of s.of.globals c.top.function (base i)) _ (λ ty points. led_own p indexes (are_allowed s ty indexes))))

        length_own : IsOwn (length_step s c rest i)
        unfolding length_step
        length_own = some_own (pointer_at s c.top (arg i 0)) _ (λ p e. some_own (seen s p.0) (λ v. goes [] (set_value c rest i (word (elements s v (arg i 1))))) (λ v is. refl))

        variable_own : IsOwn (variable_step s c rest i)
        unfolding variable_step
        variable_own = some_own (c.top.variables i.result) (λ v. goes [] (set c rest i (pointer (own i.result) []))) (λ v e. refl)

        load_own : IsOwn (load_step s c rest i)
        unfolding load_step
        load_own = some_own (pointer_at s c.top (arg i 0)) _ (λ p is. by_seen p (seen s p.0) is refl)
          where
            by_seen : (p : Target) (o : Option Inst) → pointer_at s c.top (arg i 0) ≡ Some p → seen s p.0 ≡ o → IsOwn (load_from s c rest i p o)
            by_seen p None is there = some_own (option_and_then (extracted p.1) (kept s c p.0)) (λ v. goes [] (set_value c rest i v)) (λ v e. refl)
            by_seen p (Some v) is there = some_own (shape_along s v p.1) (read_shape s c rest i v p) (λ t e. ap (λ (l : List Location). asks (reading l) (λ words. set_value c rest i (value_from t words))) (low (arg i 0) p v is there).1)

        store_own : IsOwn (store_step s c rest i)
        unfolding store_step
        store_own = some_own (pointer_at s c.top (arg i 0)) _ (λ p is. some_own (value_at s c.top (arg i 1)) _ (λ v e. by_seen p v (seen s p.0) is refl))
          where
            by_seen : (p : Target) (v : ValueTree) (o : Option Inst) → pointer_at s c.top (arg i 0) ≡ Some p → seen s p.0 ≡ o → IsOwn (store_to s c rest p v o)
            by_seen p v None is there = some_own (option_and_then (inserted v p.1) (kept s c p.0)) (λ whole. goes [] (keeping p.0 whole (advanced c rest))) (λ whole e. refl)
            by_seen p v (Some var) is there = ap (λ (l : List Location). goes (event.write l (words_of v) ∷ []) (advanced c rest)) (low (arg i 0) p var is there).1

        atomic_own : (o : AtomicOp) → IsOwn (atomic_step o s c rest i)
        unfolding atomic_step
        atomic_own o =
            some_own (pointer_at s c.top (arg i 0)) _ (λ p is.
            some_own (seen s p.0) _ (λ v there.
            some_own (atomic_operands o s c.top i) (λ operands. asks (updating (atomic_operation o) (location s v p.1) operands) (set_found c rest i o)) (λ operands have.
            ap (λ (l : Location). asks (updating (atomic_operation o) l operands) (set_found c rest i o)) (low (arg i 0) p v is there).0)))

        memory_barrier_own : IsOwn (memory_barrier_step s c rest i)
        unfolding memory_barrier_step
        memory_barrier_own = some_own (word_at s c.top (arg i 1)) (λ w. goes (memory_barriers w) (advanced c rest)) (λ w e. ap (λ (es : List Event). goes es (advanced c rest)) (one_barrier (bit_and w 0x40 == 0) (bit_and w 0x100 == 0)))

        control_barrier_own : IsOwn (control_barrier_step s c rest i)
        unfolding control_barrier_step
        control_barrier_own = some_own (word_at s c.top (arg i 2)) (λ w. goes (memory_barriers w ++ control_barrier ∷ []) (advanced c rest)) (λ w e. ap (λ (es : List Event). goes es (advanced c rest)) (two_barriers (bit_and w 0x40 == 0) (bit_and w 0x100 == 0) (control_barrier ∷ []) refl))

        call_own : IsOwn (call_step s c rest i)
        unfolding call_step
        call_own = some_own (function_of s.of.functions (arg i 0)) _ (λ f is. some_own (each_one (held s c.top) (drop 1 i.args)) (λ arguments. goes [] (called s c rest i f arguments)) (λ arguments have. refl))

        return_own : (bs : List (Frame × ℕ)) → IsOwn (return_step c bs)
        unfolding return_step
        return_own [] = refl
        return_own (b ∷ bs) = refl

        given_own : (v : ValueTree) (bs : List (Frame × ℕ)) → IsOwn (given_to v c bs)
        given_own v [] = refl
        given_own v (b ∷ bs) = refl

        return_value_own : IsOwn (return_value_step s c i)
        unfolding return_value_step
        return_value_own = some_own (value_at s c.top (arg i 0)) _ (λ v e. given_own v c.below)

        edge_own : (label : ℕ) → IsOwn (edge_step s c label)
        unfolding edge_step
        edge_own label =
            some_own (block_in c.top.function label) _ (λ t to.
            some_own (slice_get c.top.function.blocks t) _ (λ b is.
            some_own (each_one (phi_value s c.top (present_label c.top)) (phis b)) (λ values. goes [] (gone_to c t b values)) (λ values have. refl)))

        branch_own : (o : Terminator) → IsOwn (branch_step o s c i)
        unfolding branch_step
        branch_own o = some_own (target_label o s c.top i) _ (λ label e. edge_own label)

        steps_own : (k : StepKind) → IsOwn (step_by k s c rest i)
        steps_own the.operation = operation_own
        steps_own the.chain = chain_own
        steps_own the.array_length = length_own
        steps_own the.variable = variable_own
        steps_own the.load = load_own
        steps_own the.store = store_own
        steps_own (the.atomic o) = atomic_own o
        steps_own the.memory_barrier = memory_barrier_own
        steps_own the.control_barrier = control_barrier_own
        steps_own the.call = call_own
        steps_own the.merge = refl
        steps_own (the.branch o) = branch_own o
        steps_own the.return = return_own c.below
        steps_own the.return_value = return_value_own
        steps_own the.unreachable = refl

      pub own_act : narrowed (act s c) ≡ act s c
      unfolding act
      own_act = by_rest c.top.rest
        where
          by_rest : (js : List Inst) → IsOwn (act_on s c js)
          by_rest [] = refl
          by_rest (i ∷ rest) = steps_own i rest (step_kind i.op)

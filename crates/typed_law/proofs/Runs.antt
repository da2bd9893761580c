-- The run of a conforming module keeps values in the shapes of their types.
use Rattle.std.proofs.Common.{◌≡◌, ◌==◌, ℕ, zero, suc, Bool, true, false, List, [], ◌∷◌, ◌++◌, length, map, drop, Option, Some, None, inl, inr, refl, sym, subst}
use Rattle.std.specs.Prelude.{option_and_then, slice_get, Contains}
use Rattle.std.proofs.lemmas.Option.{same_Some}
use Rattle.spv_ops.specs.declared.AtomicOp.{AtomicOp}
use Rattle.spv_ops.specs.declared.AtomicOp.TheVariants as atomics
use Rattle.spv_ops.specs.declared.Terminator.{Terminator}
use Rattle.spv_module.specs.State.{ModuleState}
use Rattle.spv_module.specs.declared.inst.Inst.{Inst}
use Rattle.spv_module.specs.declared.inst.Block.{Block}
use Rattle.spv_module.specs.declared.inst.Function.{Function}
use Rattle.spv_types.specs.Tree.{ValueTree, word}
use Rattle.spv_index.specs.Locals.{insts_of, block_in}
use Rattle.spv_index.specs.Pointers.{pointee_of}
use Rattle.op_semantics.specs.Component.{each_one}
use Rattle.op_semantics.specs.Composite.{extracted, inserted}
use Rattle.profile_rules.specs.Entry.{function_of}
use Rattle.traces.specs.Events.{updating, control_barrier}
use Rattle.traces.specs.Runs.{Act, goes, asks, stops, fails}
use Rattle.plan_law.specs.InOrder.{IsAmong}
use Rattle.plan_law.proofs.Listed.{flat}
use Rattle.module_semantics.specs.Setting.{Setting}
use Rattle.module_semantics.specs.State.{Root, global, own, lent, Held, pointer, Frame, Conf, call_at, with_call, with_variable}
use Rattle.module_semantics.specs.Memory.{location, shape_along, elements, are_allowed}
use Rattle.module_semantics.specs.Operands.{Target, held, value_at, pointer_at, word_at, words_at, arg}
use Rattle.module_semantics.specs.Accesses.{seen, kept, keeping, with_lent}
use Rattle.module_semantics.specs.Steps as the
use Rattle.module_semantics.specs.Steps.{with_some, advanced, set, set_value, computed, operation_step, base, lead_if, chain_step, length_step, variable_step, read_shape, load_from, load_step, store_to, store_step, atomic_operation, atomic_operands, set_found, atomic_step, memory_barriers, memory_barrier_step, control_barrier_step, phis, first_insts, entered, called, call_step, return_step, given_to, return_value_step, target_label, phi_value, present_label, gone_to, edge_step, branch_step, StepKind, step_kind, step_by, act_on, act}
use Rattle.module_semantics.specs.Run.{have_values, first_state, start_by, start}
use Rattle.fits_law.specs.State.{ConfFits, ActFits}
use Rattle.fits_law.proofs.Steps.{fits_step}
use Rattle.type_law.specs.Shaped.{HasConstants}
use Rattle.typed_law.specs.Conforms.{IsConforming}
use Rattle.typed_law.specs.Runs.{IsUnderWay, AreUnderWay, IsOfModule, IsTypedState, LeadsOn}
use Rattle.typed_law.proofs.Others.{contains_found, among_block}
use Rattle.typed_law.proofs.Calls.{initial_in_fits, initial_private_fits}
use Rattle.typed_law.proofs.Whole.{is_typed}
use Rattle.typed_law.proofs.Inputs.{conforming_fits}
use Rattle.typed_law.proofs.LowSteps.{no_arguments}

-- what is left behind some
among_drop : (n : ℕ) (js : List Inst) (i : Inst) → IsAmong i (drop n js) → IsAmong i js
among_drop zero js i there = there
among_drop (suc n) [] i there = there
among_drop (suc n) (j ∷ js) i there = inr (among_drop n js i there)

module _ (s : Setting) where
  abbrev M : ModuleState
  M = s.of

  abbrev Goes : Act Conf → Type 0
  Goes a = LeadsOn (IsOfModule M) a

  some_goes : {A : Type 0} (o : Option A) (f : A → Act Conf) → ((a : A) → o ≡ Some a → Goes (f a)) → Goes (with_some o f)
  some_goes None f on = tt
  some_goes (Some a) f on = on a refl

  -- calls whose variables change stay those of the module
  calls_changed : (depth id : ℕ) (v : ValueTree) (g : Frame) (bs : List (Frame × ℕ)) → AreUnderWay M bs → call_at depth bs ≡ Some g → AreUnderWay M (with_call depth (with_variable id v g) bs)
  calls_changed depth id v g [] all e = tt
  calls_changed depth id v g (b ∷ bs) all e = by_test (length bs == depth) e (λ there. calls_changed depth id v g bs all.1 there)
    where
      by_test : (t : Bool) → elim t [ true ↦ Some b.0 | false ↦ call_at depth bs ] ≡ Some g → (call_at depth bs ≡ Some g → AreUnderWay M (with_call depth (with_variable id v g) bs)) → AreUnderWay M (elim t [ true ↦ (with_variable id v g, b.1) ∷ bs | false ↦ b ∷ with_call depth (with_variable id v g) bs ])
      by_test true e next = let own : IsUnderWay M g = subst (IsUnderWay M) (same_Some b.0 g e) all.0 in ((own.0, own.1), all.1)
      by_test false e next = (all.0, next e)

  keeping_goes : (r : Root) (v : ValueTree) (c : Conf) → IsOfModule M c → IsOfModule M (keeping r v c)
  keeping_goes (global id) v c mine = mine
  keeping_goes (own id) v c mine = mine
  keeping_goes (lent depth id) v c mine = by_call (call_at depth c.below) refl
    where
      by_call : (o : Option Frame) → call_at depth c.below ≡ o → IsOfModule M (with_lent depth id v c o)
      by_call None e = mine
      by_call (Some g) e = (mine.0, calls_changed depth id v g c.below mine.1 e)

  -- the first moment of a call
  entered_goes : (f : Function) (arguments : List Held) → Contains M.functions f → IsUnderWay M (entered s f arguments)
  unfolding entered
  entered_goes f arguments in_it = (in_it, first_among f.blocks)
    where
      first_among : (bs : List Block) (i : Inst) → IsAmong i (first_insts bs) → IsAmong i (flat bs)
      first_among [] i there = there
      first_among (b ∷ bs) i there = among_block (b ∷ bs) 0 b i refl (among_drop (length (phis b)) b.insts i there)

  module _ (c : Conf) (mine : IsOfModule M c) (i : Inst) (rest : List Inst) (left : (j : Inst) → IsAmong j rest → IsAmong j (insts_of c.top.function)) where
    on : IsUnderWay M (record c.top { rest = rest })
    on = (mine.0.0, left)

    operation_goes : Goes (operation_step s c rest i)
    unfolding operation_step
    operation_goes = some_goes (computed s c.top i) (λ v. goes [] (set_value c rest i v)) (λ v e. (on, mine.1))

    chain_goes : Goes (chain_step s c rest i)
    unfolding chain_step
    chain_goes =
        some_goes (pointer_at s c.top (base i)) _ (λ p e.
        some_goes (words_at s c.top (drop 1 i.args)) _ (λ indexes at.
        some_goes (pointee_of M.globals c.top.function (base i)) _ (λ ty found. by_test p indexes (are_allowed s ty indexes))))
      where
        by_test : (p : Target) (indexes : List ℕ) (b : Bool) → Goes (lead_if b c rest i p indexes)
        by_test p indexes true = (on, mine.1)
        by_test p indexes false = tt

    length_goes : Goes (length_step s c rest i)
    unfolding length_step
    length_goes = some_goes (pointer_at s c.top (arg i 0)) _ (λ p e. some_goes (seen s p.0) (λ v. goes [] (set_value c rest i (word (elements s v (arg i 1))))) (λ v at. (on, mine.1)))

    variable_goes : Goes (variable_step s c rest i)
    unfolding variable_step
    variable_goes = some_goes (c.top.variables i.result) (λ v. goes [] (set c rest i (pointer (own i.result) []))) (λ v e. (on, mine.1))

    load_goes : Goes (load_step s c rest i)
    unfolding load_step
    load_goes = some_goes (pointer_at s c.top (arg i 0)) _ (λ p e. by_seen p (seen s p.0))
      where
        by_seen : (p : Target) (o : Option Inst) → Goes (load_from s c rest i p o)
        by_seen p None = some_goes (option_and_then (extracted p.1) (kept s c p.0)) (λ v. goes [] (set_value c rest i v)) (λ v e. (on, mine.1))
        by_seen p (Some v) = some_goes (shape_along s v p.1) (read_shape s c rest i v p) (λ t e words event told. (on, mine.1))

    store_goes : Goes (store_step s c rest i)
    unfolding store_step
    store_goes = some_goes (pointer_at s c.top (arg i 0)) _ (λ p e. some_goes (value_at s c.top (arg i 1)) _ (λ v at. by_seen p v (seen s p.0)))
      where
        by_seen : (p : Target) (v : ValueTree) (o : Option Inst) → Goes (store_to s c rest p v o)
        by_seen p v None = some_goes (option_and_then (inserted v p.1) (kept s c p.0)) (λ whole. goes [] (keeping p.0 whole (advanced c rest))) (λ whole e. keeping_goes p.0 whole (advanced c rest) (on, mine.1))
        by_seen p v (Some var) = (on, mine.1)

    found_goes : (o : AtomicOp) (words : List ℕ) → IsOfModule M (set_found c rest i o words)
    found_goes atomics.Store words = (on, mine.1)
    found_goes o words = (on, mine.1)

    atomic_goes : (o : AtomicOp) → Goes (atomic_step o s c rest i)
    unfolding atomic_step
    atomic_goes o =
        some_goes (pointer_at s c.top (arg i 0)) _ (λ p e.
        some_goes (seen s p.0) _ (λ v at.
        some_goes (atomic_operands o s c.top i) (λ operands. asks (updating (atomic_operation o) (location s v p.1) operands) (set_found c rest i o)) (λ operands have words event told. found_goes o words)))

    memory_barrier_goes : Goes (memory_barrier_step s c rest i)
    unfolding memory_barrier_step
    memory_barrier_goes = some_goes (word_at s c.top (arg i 1)) (λ w. goes (memory_barriers w) (advanced c rest)) (λ w e. (on, mine.1))

    control_barrier_goes : Goes (control_barrier_step s c rest i)
    unfolding control_barrier_step
    control_barrier_goes = some_goes (word_at s c.top (arg i 2)) (λ w. goes (memory_barriers w ++ control_barrier ∷ []) (advanced c rest)) (λ w e. (on, mine.1))

    call_goes : Goes (call_step s c rest i)
    unfolding call_step
    call_goes = some_goes (function_of M.functions (arg i 0)) _ (λ f e. some_goes (each_one (held s c.top) (drop 1 i.args)) (λ arguments. goes [] (called s c rest i f arguments)) (λ arguments at. (entered_goes f (map (the.passed (length c.below)) arguments) (contains_found M.functions (arg i 0) f e), (on, mine.1))))

    return_goes : (bs : List (Frame × ℕ)) → AreUnderWay M bs → Goes (return_step c bs)
    unfolding return_step
    return_goes [] all = tt
    return_goes (b ∷ bs) all = all

    given_goes : (v : ValueTree) (bs : List (Frame × ℕ)) → AreUnderWay M bs → Goes (given_to v c bs)
    given_goes v [] all = tt
    given_goes v (b ∷ bs) all = ((all.0.0, all.0.1), all.1)

    return_value_goes : Goes (return_value_step s c i)
    unfolding return_value_step
    return_value_goes = some_goes (value_at s c.top (arg i 0)) _ (λ v e. given_goes v c.below mine.1)

    edge_goes : (label : ℕ) → Goes (edge_step s c label)
    unfolding edge_step
    edge_goes label = some_goes (block_in c.top.function label) _ (λ t e. some_goes (slice_get c.top.function.blocks t) _ (λ b at. some_goes (each_one (phi_value s c.top (present_label c.top)) (phis b)) (λ values. goes [] (gone_to c t b values)) (λ values have. ((mine.0.0, λ j there. among_block c.top.function.blocks t b j at (among_drop (length (phis b)) b.insts j there)), mine.1))))

    branch_goes : (o : Terminator) → Goes (branch_step o s c i)
    unfolding branch_step
    branch_goes o = some_goes (target_label o s c.top i) _ (λ label e. edge_goes label)

    steps_go : (k : StepKind) → Goes (step_by k s c rest i)
    steps_go the.operation = operation_goes
    steps_go the.chain = chain_goes
    steps_go the.array_length = length_goes
    steps_go the.variable = variable_goes
    steps_go the.load = load_goes
    steps_go the.store = store_goes
    steps_go (the.atomic o) = atomic_goes o
    steps_go the.memory_barrier = memory_barrier_goes
    steps_go the.control_barrier = control_barrier_goes
    steps_go the.call = call_goes
    steps_go the.merge = (on, mine.1)
    steps_go (the.branch o) = branch_goes o
    steps_go the.return = return_goes c.below mine.1
    steps_go the.return_value = return_value_goes
    steps_go the.unreachable = tt

  -- each step leads to calls of the module
  pub act_goes : (c : Conf) → IsOfModule M c → Goes (act s c)
  unfolding act
  act_goes c mine = by_rest c.top.rest refl
    where
      by_rest : (js : List Inst) → c.top.rest ≡ js → Goes (act_on s c js)
      by_rest [] e = tt
      by_rest (i ∷ rest) e = steps_go c mine i rest (λ j there. mine.0.1 j (subst (IsAmong j) (sym e) (inr there))) (step_kind i.op)

  both_lead : (a : Act Conf) → ActFits s a → Goes a → LeadsOn (IsTypedState s) a
  both_lead (goes e c) fit mine = record { fit = fit; of_module = mine }
  both_lead (asks a f) fit mine = λ words e told. record { fit = fit words e told; of_module = mine words e told }
  both_lead stops fit mine = tt
  both_lead fails fit mine = tt

module _ (s : Setting) (entry : Option (List ℕ)) (right : IsConforming s.of entry) (chosen : ℕ → Option ℕ) (have : HasConstants s chosen) where
  -- each step of a run leads from a typed state to typed ones
  pub typed_step : (c : Conf) → IsTypedState s c → LeadsOn (IsTypedState s) (act s c)
  typed_step c state =
      both_lead s (act s c)
      (fits_step s (conforming_fits s entry right chosen have) c state.fit (λ i rest e. is_typed s entry right chosen have c.top.function state.of_module.0.0 i (state.of_module.0.1 i (subst (IsAmong i) (sym e) (inl refl)))))
      (act_goes s c state.of_module)

  -- and a run starts in one
  first_fits : (f : Function) → Contains s.of.functions f → ConfFits s (first_state s f)
  unfolding entered
  first_fits f in_it = record {
    top = (λ id h e. absurd (no_arguments f.params id h e), initial_in_fits s entry right chosen have f in_it);
    calls = tt;
    awaited = tt;
    privates = initial_private_fits s entry right chosen have;
  }

  pub typed_start : (c : Conf) → start s ≡ Some c → IsTypedState s c
  unfolding start
  typed_start c e = by_start (have_values s) (function_of s.of.functions s.entry) refl e
    where
      by_start : (b : Bool) (o : Option Function) → function_of s.of.functions s.entry ≡ o → start_by s b o ≡ Some c → IsTypedState s c
      by_start true (Some f) at e =
          let in_it = contains_found s.of.functions s.entry f at in
          subst (IsTypedState s) (same_Some (first_state s f) c e) (record { fit = first_fits f in_it; of_module = (entered_goes s f [] in_it, tt) })
      by_start true None at e = cc
      by_start false o at e = cc

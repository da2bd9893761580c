-- Each step keeps that pointers lead along parts that are there, as far as values fit their types.
use Rattle.std.proofs.Common.{◌≡◌, ◌==◌, ◌++◌, ℕ, Bool, true, false, List, [], ◌∷◌, length, map, drop, Option, Some, None, refl, sym, ap, ◌∙◌, subst}
use Rattle.std.specs.Prelude.{option_map, option_and_then, slice_get}
use Rattle.std.proofs.lemmas.Option.{same_Some}
use Rattle.spv_ops.specs.declared.AtomicOp.{AtomicOp}
use Rattle.spv_ops.specs.declared.AtomicOp.TheVariants as atomics
use Rattle.spv_ops.specs.declared.Terminator.{Terminator}
use Rattle.spv_module.specs.declared.inst.Inst.{Inst}
use Rattle.spv_types.specs.Tree.{Tree, ValueTree, word}
use Rattle.spv_types.specs.Types.{type_tree}
use Rattle.spv_index.specs.Locals.{block_in}
use Rattle.spv_index.specs.Pointers.{pointee_of}
use Rattle.op_semantics.specs.Component.{each_one}
use Rattle.op_semantics.specs.Composite.{extracted, inserted}
use Rattle.layout_rules.specs.declared.Kind.TheVariants.{Std430}
use Rattle.profile_rules.specs.Entry.{function_of}
use Rattle.value_words.specs.Words.{value_from}
use Rattle.traces.specs.Events.{updating, control_barrier}
use Rattle.traces.specs.Runs.{Act, goes, asks}
use Rattle.module_semantics.specs.Setting.{Setting, global_variable}
use Rattle.module_semantics.specs.State.{Root, global, own, lent, Held, value, pointer, Frame, Conf, call_at, with_call, with_variable}
use Rattle.module_semantics.specs.Memory.{location, shape_along, elements, are_allowed}
use Rattle.module_semantics.specs.Operands.{Target, as_pointer, of_module, held, value_at, pointer_at, word_at, words_at, arg}
use Rattle.module_semantics.specs.Accesses.{seen, kept, keeping, with_lent}
use Rattle.module_semantics.specs.Steps as the
use Rattle.module_semantics.specs.Steps.{with_some, advanced, set, set_value, computed, operation_step, base, lead_if, without_based, chain_step, length_step, variable_step, read_shape, load_from, load_step, store_to, store_step, atomic_operation, atomic_operands, set_found, atomic_step, memory_barriers, memory_barrier_step, control_barrier_step, phis, entered, called, call_step, return_step, given_to, return_value_step, target_label, phi_value, present_label, gone_to, edge_step, branch_step, StepKind, step_kind, step_by, act_on, act}
use Rattle.fits_law.specs.State.{place_shape, target_shape, root_shape, functions_of, LeadsTo, IdsFit, ModuleFits}
use Rattle.fits_law.proofs.Operations.{before_some}
use Rattle.type_law.specs.Shaped.{AreConstants}
use Rattle.typed_law.specs.Runs.{LeadsOn}
use Rattle.agree_law.specs.Agree.{IfPointer}
use Rattle.agree_law.proofs.Along.{put_along, phis_along, without_along, AllHeld, arguments_along}
use Rattle.narrow_law.specs.Reach.{Along}
use Rattle.narrow_law.proofs.Inside.{allowed_along}
use Rattle.narrow_law.proofs.Scalars.{along_more}
use Rattle.narrow_law.proofs.Places.{no_names}
use Rattle.places_law.specs.Pointing.{GoesAlong, IdsAlong, CallsAlong, IsAlong}

module _ (s : Setting) where
  abbrev Gs : List Inst
  Gs = s.of.globals

  abbrev Goes : Act Conf → Type 0
  Goes a = LeadsOn (IsAlong s) a

  some_goes : {A : Type 0} (o : Option A) (f : A → Act Conf) → ((a : A) → o ≡ Some a → Goes (f a)) → Goes (with_some o f)
  some_goes None f on = tt
  some_goes (Some a) f on = on a refl

  -- parts along which indexes lead are there
  along_there : (path : List ℕ) (t : Tree) → Along s t path → (u : Tree) × (place_shape t path ≡ Some u)
  along_there [] t along = (t, refl)
  along_there (i ∷ is) t (u, here, inside, short, along) =
      let later = along_there is u along in
      (later.0, ap (λ (o : Option Tree). option_and_then (λ z. place_shape z is) o) here ∙ later.1)

  -- calls whose variables change
  calls_changed : (depth id : ℕ) (v : ValueTree) (g : Frame) (bs : List (Frame × ℕ)) → CallsAlong s bs → call_at depth bs ≡ Some g → CallsAlong s (with_call depth (with_variable id v g) bs)
  calls_changed depth id v g [] all e = tt
  calls_changed depth id v g (b ∷ bs) all e = by_test (length bs == depth) e (λ there. calls_changed depth id v g bs all.1 there)
    where
      by_test : (t : Bool) → elim t [ true ↦ Some b.0 | false ↦ call_at depth bs ] ≡ Some g → (call_at depth bs ≡ Some g → CallsAlong s (with_call depth (with_variable id v g) bs)) → CallsAlong s (elim t [ true ↦ (with_variable id v g, b.1) ∷ bs | false ↦ b ∷ with_call depth (with_variable id v g) bs ])
      by_test true e next = let mine : IdsAlong s g.ids = subst (λ (f : Frame). IdsAlong s f.ids) (same_Some b.0 g e) all.0 in (mine, all.1)
      by_test false e next = (all.0, next e)

  keeping_goes : (r : Root) (v : ValueTree) (c : Conf) → IsAlong s c → IsAlong s (keeping r v c)
  keeping_goes (global id) v c at = at
  keeping_goes (own id) v c at = at
  keeping_goes (lent depth id) v c at = by_call (call_at depth c.below) refl
    where
      by_call : (o : Option Frame) → call_at depth c.below ≡ o → IsAlong s (with_lent depth id v c o)
      by_call None e = at
      by_call (Some g) e = (at.0, calls_changed depth id v g c.below at.1 e)

  module _ (fit : ModuleFits s) (right : AreConstants s) (c : Conf) (typed : IdsFit s (functions_of c.below) c.top.function c.top.ids) (at : IsAlong s c) where
    -- of what an operand leads to
    abbrev pub IsLed : ℕ → Target → Type 0
    IsLed n p = GoesAlong s p.0 p.1 × LeadsTo (root_shape s (functions_of c.below) c.top.function p.0) p.1 (target_shape s c.top.function n)

    pub pointer_led : (n : ℕ) (p : Target) → pointer_at s c.top n ≡ Some p → IsLed n p
    pointer_led n p e = by_own (c.top.ids n) refl e
      where
        by_constant : (k : Option ValueTree) → as_pointer (option_map value k) ≡ Some p → IsLed n p
        by_constant None e = cc
        by_constant (Some v) e = cc

        by_global : (g : Option Inst) → global_variable s n ≡ g → as_pointer (elim g as (λ g. Option Held) [ Some v ↦ Some (pointer (global n) []) | None ↦ option_map value (s.constants n) ]) ≡ Some p → IsLed n p
        by_global (Some v) is e = subst (IsLed n) (same_Some (global n, []) p e) ((λ t shape. tt), fit.globals c.top.function n v is)
        by_global None is e = by_constant (s.constants n) e

        by_own : (o : Option Held) → c.top.ids n ≡ o → as_pointer (elim o as (λ o. Option Held) [ Some h ↦ Some h | None ↦ of_module s n ]) ≡ Some p → IsLed n p
        by_own (Some (pointer r path)) is e = subst (IsLed n) (same_Some (r, path) p e) (subst (λ o. IfPointer o (GoesAlong s)) is (at.0 n), (typed n (pointer r path) is).1)
        by_own (Some (value v)) is e = cc
        by_own None is e = by_global (global_variable s n) refl e

    -- of what is an argument
    held_along : (n : ℕ) (h : Held) → held s c.top n ≡ Some h → IfPointer (Some h) (GoesAlong s)
    held_along n h e = by_own (c.top.ids n) refl e
      where
        by_constant : (k : Option ValueTree) → option_map value k ≡ Some h → IfPointer (Some h) (GoesAlong s)
        by_constant None e = cc
        by_constant (Some v) e = subst (λ o. IfPointer o (GoesAlong s)) e tt

        by_global : (g : Option Inst) → (elim g as (λ g. Option Held) [ Some v ↦ Some (pointer (global n) []) | None ↦ option_map value (s.constants n) ]) ≡ Some h → IfPointer (Some h) (GoesAlong s)
        by_global (Some v) e = subst (λ o. IfPointer o (GoesAlong s)) e (λ t shape. tt)
        by_global None e = by_constant (s.constants n) e

        by_own : (o : Option Held) → c.top.ids n ≡ o → (elim o as (λ o. Option Held) [ Some h ↦ Some h | None ↦ of_module s n ]) ≡ Some h → IfPointer (Some h) (GoesAlong s)
        by_own (Some x) is e = subst (λ o. IfPointer o (GoesAlong s)) (is ∙ e) (at.0 n)
        by_own None is e = by_global (global_variable s n) e

    passed_along : (depth : ℕ) (h : Held) → IfPointer (Some h) (GoesAlong s) → IfPointer (Some (the.passed depth h)) (GoesAlong s)
    passed_along depth (value v) a = tt
    passed_along depth (pointer (global id) path) a = a
    passed_along depth (pointer (own id) path) a = tt
    passed_along depth (pointer (lent d id) path) a = tt

    all_passed : (depth : ℕ) (ns : List ℕ) (hs : List Held) → each_one (held s c.top) ns ≡ Some hs → AllHeld (GoesAlong s) (map (the.passed depth) hs)
    all_passed depth [] hs e = subst (λ (l : List Held). AllHeld (GoesAlong s) (map (the.passed depth) l)) (same_Some [] hs e) tt
    all_passed depth (n ∷ ns) hs e =
        let b = before_some (held s c.top n) (each_one (held s c.top) ns) hs e in
        subst (λ (l : List Held). AllHeld (GoesAlong s) (map (the.passed depth) l)) (sym b.4) (passed_along depth b.0 (held_along n b.0 b.2), all_passed depth ns b.1 b.3)

    -- a chain leads along parts, as far as its base does
    further : (n ty : ℕ) (r : Root) (path indexes : List ℕ) → IsLed n (r, path) → pointee_of Gs c.top.function n ≡ Some ty → are_allowed s ty indexes ≡ true → GoesAlong s r (path ++ indexes)
    further n ty (global id) path indexes led points allowed = λ t shape.
        let along : Along s t path = led.0 t shape in
        let there = along_there path t along in
        let placed : place_shape t path ≡ target_shape s c.top.function n = subst (λ o. LeadsTo o path (target_shape s c.top.function n)) shape led.1 in
        let part : type_tree Gs ty ≡ Some there.0 = sym (ap (option_and_then (type_tree Gs)) points) ∙ sym placed ∙ there.1 in
        along_more s path t there.0 indexes along there.1 (allowed_along s no_names Std430 indexes ty there.0 right part allowed)
    further n ty (own id) path indexes led points allowed = tt
    further n ty (lent depth id) path indexes led points allowed = tt

    module _ (i : Inst) (rest : List Inst) where
      gets : (v : ValueTree) → IsAlong s (set_value c rest i v)
      gets v = (put_along (GoesAlong s) c.top.ids i.result (value v) at.0 tt, at.1)

      operation_goes : Goes (operation_step s c rest i)
      unfolding operation_step
      operation_goes = some_goes (computed s c.top i) (λ v. goes [] (set_value c rest i v)) (λ v e. gets v)

      led_goes : (p : Target) (indexes : List ℕ) (ty : ℕ) (b : Bool) → are_allowed s ty indexes ≡ b → pointer_at s c.top (base i) ≡ Some p → pointee_of Gs c.top.function (base i) ≡ Some ty → Goes (lead_if b c rest i p indexes)
      led_goes p indexes ty false allowed is points = tt
      led_goes p indexes ty true allowed is points =
          (put_along (GoesAlong s) (without_based c.top.function i.result c.top.ids) i.result (pointer p.0 (p.1 ++ indexes)) (without_along (GoesAlong s) c.top i.result at.0) (further (base i) ty p.0 p.1 indexes (pointer_led (base i) p is) points allowed), at.1)

      chain_goes : Goes (chain_step s c rest i)
      unfolding chain_step
      chain_goes =
          some_goes (pointer_at s c.top (base i)) _ (λ p is.
          some_goes (words_at s c.top (drop 1 i.args)) _ (λ indexes have.
          some_goes (pointee_of Gs c.top.function (base i)) _ (λ ty points. led_goes p indexes ty (are_allowed s ty indexes) refl is points)))

      length_goes : Goes (length_step s c rest i)
      unfolding length_step
      length_goes = some_goes (pointer_at s c.top (arg i 0)) _ (λ p e. some_goes (seen s p.0) (λ v. goes [] (set_value c rest i (word (elements s v (arg i 1))))) (λ v is. gets (word (elements s v (arg i 1)))))

      variable_goes : Goes (variable_step s c rest i)
      unfolding variable_step
      variable_goes = some_goes (c.top.variables i.result) (λ v. goes [] (set c rest i (pointer (own i.result) []))) (λ v e. (put_along (GoesAlong s) c.top.ids i.result (pointer (own i.result) []) at.0 tt, at.1))

      load_goes : Goes (load_step s c rest i)
      unfolding load_step
      load_goes = some_goes (pointer_at s c.top (arg i 0)) _ (λ p e. by_seen p (seen s p.0))
        where
          by_seen : (p : Target) (o : Option Inst) → Goes (load_from s c rest i p o)
          by_seen p None = some_goes (option_and_then (extracted p.1) (kept s c p.0)) (λ v. goes [] (set_value c rest i v)) (λ v e. gets v)
          by_seen p (Some v) = some_goes (shape_along s v p.1) (read_shape s c rest i v p) (λ t e words event told. gets (value_from t words))

      store_goes : Goes (store_step s c rest i)
      unfolding store_step
      store_goes = some_goes (pointer_at s c.top (arg i 0)) _ (λ p e. some_goes (value_at s c.top (arg i 1)) _ (λ v is. by_seen p v (seen s p.0)))
        where
          by_seen : (p : Target) (v : ValueTree) (o : Option Inst) → Goes (store_to s c rest p v o)
          by_seen p v None = some_goes (option_and_then (inserted v p.1) (kept s c p.0)) (λ whole. goes [] (keeping p.0 whole (advanced c rest))) (λ whole e. keeping_goes p.0 whole (advanced c rest) at)
          by_seen p v (Some var) = at

      found_goes : (o : AtomicOp) (words : List ℕ) → IsAlong s (set_found c rest i o words)
      found_goes atomics.Store words = at
      found_goes o words = gets _

      atomic_goes : (o : AtomicOp) → Goes (atomic_step o s c rest i)
      unfolding atomic_step
      atomic_goes o =
          some_goes (pointer_at s c.top (arg i 0)) _ (λ p e.
          some_goes (seen s p.0) _ (λ v is.
          some_goes (atomic_operands o s c.top i) (λ operands. asks (updating (atomic_operation o) (location s v p.1) operands) (set_found c rest i o)) (λ operands have words event told. found_goes o words)))

      memory_barrier_goes : Goes (memory_barrier_step s c rest i)
      unfolding memory_barrier_step
      memory_barrier_goes = some_goes (word_at s c.top (arg i 1)) (λ w. goes (memory_barriers w) (advanced c rest)) (λ w e. at)

      control_barrier_goes : Goes (control_barrier_step s c rest i)
      unfolding control_barrier_step
      control_barrier_goes = some_goes (word_at s c.top (arg i 2)) (λ w. goes (memory_barriers w ++ control_barrier ∷ []) (advanced c rest)) (λ w e. at)

      call_goes : Goes (call_step s c rest i)
      unfolding call_step entered
      call_goes =
          some_goes (function_of s.of.functions (arg i 0)) _ (λ f is.
          some_goes (each_one (held s c.top) (drop 1 i.args)) (λ arguments. goes [] (called s c rest i f arguments)) (λ arguments have.
          (arguments_along (GoesAlong s) f.params (map (the.passed (length c.below)) arguments) (all_passed (length c.below) (drop 1 i.args) arguments have), at)))

      return_goes : (bs : List (Frame × ℕ)) → CallsAlong s bs → Goes (return_step c bs)
      unfolding return_step
      return_goes [] all = tt
      return_goes (b ∷ bs) all = all

      given_goes : (v : ValueTree) (bs : List (Frame × ℕ)) → CallsAlong s bs → Goes (given_to v c bs)
      given_goes v [] all = tt
      given_goes v (b ∷ bs) all = (put_along (GoesAlong s) b.0.ids b.1 (value v) all.0 tt, all.1)

      return_value_goes : Goes (return_value_step s c i)
      unfolding return_value_step
      return_value_goes = some_goes (value_at s c.top (arg i 0)) _ (λ v e. given_goes v c.below at.1)

      edge_goes : (label : ℕ) → Goes (edge_step s c label)
      unfolding edge_step
      edge_goes label =
          some_goes (block_in c.top.function label) _ (λ t to.
          some_goes (slice_get c.top.function.blocks t) _ (λ b is.
          some_goes (each_one (phi_value s c.top (present_label c.top)) (phis b)) (λ values. goes [] (gone_to c t b values)) (λ values have. (phis_along (GoesAlong s) (phis b) values c.top.ids at.0, at.1))))

      branch_goes : (o : Terminator) → Goes (branch_step o s c i)
      unfolding branch_step
      branch_goes o = some_goes (target_label o s c.top i) _ (λ label e. edge_goes label)

      steps_go : (k : StepKind) → Goes (step_by k s c rest i)
      steps_go the.operation = operation_goes
      steps_go the.chain = chain_goes
      steps_go the.array_length = length_goes
      steps_go the.variable = variable_goes
      steps_go the.load = load_goes
      steps_go the.store = store_goes
      steps_go (the.atomic o) = atomic_goes o
      steps_go the.memory_barrier = memory_barrier_goes
      steps_go the.control_barrier = control_barrier_goes
      steps_go the.call = call_goes
      steps_go the.merge = at
      steps_go (the.branch o) = branch_goes o
      steps_go the.return = return_goes c.below at.1
      steps_go the.return_value = return_value_goes
      steps_go the.unreachable = tt

    -- so does each step
    pub along_step : Goes (act s c)
    unfolding act
    along_step = by_rest c.top.rest
      where
        by_rest : (js : List Inst) → Goes (act_on s c js)
        by_rest [] = tt
        by_rest (i ∷ rest) = steps_go i rest (step_kind i.op)

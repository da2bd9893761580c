-- Each step of a module inside a call leaves the calls that wait as they were, but for what was lent.
use Rattle.std.proofs.Common.{◌≡◌, ◌≤◌, ◌⊎◌, ◌==◌, ℕ, suc, Bool, true, false, List, [], ◌∷◌, ◌++◌, length, map, drop, Option, Some, None, inl, inr, refl, sym, ap, ◌∙◌, subst, arith}
use Rattle.std.specs.Prelude.{option_map, option_and_then, slice_get}
use Rattle.std.proofs.lemmas.Bool.Decides.{eqb_tells}
use Rattle.std.proofs.lemmas.Option.{same_Some}
use Rattle.spv_ops.specs.declared.AtomicOp.{AtomicOp}
use Rattle.spv_ops.specs.declared.AtomicOp.TheVariants as atomics
use Rattle.spv_ops.specs.declared.Terminator.{Terminator}
use Rattle.spv_module.specs.declared.inst.Inst.{Inst}
use Rattle.spv_types.specs.Tree.{ValueTree, word}
use Rattle.spv_index.specs.Locals.{block_in}
use Rattle.spv_index.specs.Pointers.{pointee_of}
use Rattle.op_semantics.specs.Component.{each_one}
use Rattle.op_semantics.specs.Composite.{extracted, inserted}
use Rattle.profile_rules.specs.Entry.{function_of}
use Rattle.traces.specs.Events.{Event, event_of, control_barrier}
use Rattle.traces.specs.Runs.{go, told, Act, goes, asks, stops, fails, Supplied, supplied}
use Rattle.module_semantics.specs.Setting.{Setting, global_variable}
use Rattle.module_semantics.specs.Memory.{shape_along, are_allowed, elements}
use Rattle.module_semantics.specs.State.{Root, global, own, lent, Held, value, pointer, Frame, Conf, call_at, with_call, with_variable}
use Rattle.module_semantics.specs.Operands.{of_module, held, as_pointer, value_at, pointer_at, Target, arg, word_at, words_at}
use Rattle.module_semantics.specs.Accesses.{seen, kept, keeping, with_lent}
use Rattle.module_semantics.specs.Steps as the
use Rattle.module_semantics.specs.Steps.{with_some, advanced, set, set_value, computed, operation_step, base, without_based, lead_if, chain_step, length_step, variable_step, read_shape, load_from, load_step, store_to, store_step, atomic_operands, set_found, atomic_step, memory_barriers, memory_barrier_step, control_barrier_step, phis, passed, entered, call_step, return_step, given_to, return_value_step, target_label, phi_value, present_label, edge_step, branch_step, StepKind, step_kind, step_by, act_on, act}
use Rattle.fits_law.proofs.Operations.{before_some}
use Rattle.agree_law.specs.Answers.{are_words, told_words, move}
use Rattle.agree_law.specs.Agree.{IfPointer}
use Rattle.agree_law.proofs.Machine.{machine}
use Rattle.agree_law.proofs.Along.{put_along, without_along, phis_along, AllHeld, arguments_along}
use Rattle.call_law.specs.Waits.{IsAsBefore, Wait, IsWithin, FrameWithin, Within, IsInside, ActInside}

-- a call that is not there is not changed
call_out : (depth : ℕ) (f : Frame) (ds : List (Frame × ℕ)) → length ds ≤ depth → with_call depth f ds ≡ ds
call_out depth f [] le = refl
call_out depth f (d ∷ ds) le = by_test (length ds == depth) (eqb_tells (length ds) depth) (call_out depth f ds (let less : length ds ≤ depth = omega (arith, le) in less))
  where
    by_test : (t : Bool) → ((t ≡ true) × (length ds ≡ depth)) ⊎ ((t ≡ false) × (length ds ≡ depth → ⊥)) → with_call depth f ds ≡ ds → elim t as (λ t. List (Frame × ℕ)) [ true ↦ (f, d.1) ∷ ds | false ↦ d ∷ with_call depth f ds ] ≡ d ∷ ds
    by_test true (inl w) later = let same = w.1 in absurd (omega (arith, le, same))
    by_test true (inr w) later = cc
    by_test false w later = ap (λ l. d ∷ l) later

module _ (s : Setting) (IsLent : ℕ → ℕ → Type 0) (start : List (Frame × ℕ)) where
  abbrev P : Root → List ℕ → Type 0
  P r path = IsWithin IsLent start r

  pub wait_length : (bs ds : List (Frame × ℕ)) → Wait IsLent bs ds → length ds ≡ length bs
  wait_length [] [] w = refl
  wait_length [] (d ∷ ds) w = absurd w
  wait_length (b ∷ bs) [] w = absurd w
  wait_length (b ∷ bs) (d ∷ ds) w = ap suc (wait_length bs ds w.2)

  wait_in : (ds : List (Frame × ℕ)) → Wait IsLent start ds → Within IsLent start ds
  wait_in [] w = w
  wait_in (d ∷ ds) w = inl w

  pub within_length : (ds : List (Frame × ℕ)) → Within IsLent start ds → length start ≤ length ds
  within_length [] w = let same = wait_length start [] w in omega (arith, same)
  within_length (d ∷ ds) (inl w) = let same = wait_length start (d ∷ ds) w in omega (arith, same)
  within_length (d ∷ ds) (inr w) = let le = within_length ds w.1 in omega (arith, le)

  some_inside : {A : Type 0} (o : Option A) (f : A → Act Conf) → ((a : A) → o ≡ Some a → ActInside IsLent start (f a)) → ActInside IsLent start (with_some o f)
  some_inside None f on = tt
  some_inside (Some a) f on = on a refl

  -- what ids have
  held_within : (c : Frame) (n : ℕ) → FrameWithin IsLent start c → IfPointer (held s c n) P
  held_within c n all = by_own (c.ids n) (all n)
    where
      by_constant : (k : Option ValueTree) → IfPointer (option_map value k) P
      by_constant None = tt
      by_constant (Some v) = tt

      by_global : (g : Option Inst) → IfPointer (elim g [ Some v ↦ Some (pointer (global n) []) | None ↦ option_map value (s.constants n) ]) P
      by_global (Some v) = tt
      by_global None = by_constant (s.constants n)

      by_own : (o : Option Held) → IfPointer o P → IfPointer (elim o [ Some h ↦ Some h | None ↦ of_module s n ]) P
      by_own (Some h) a = a
      by_own None a = by_global (global_variable s n)

  pointer_within : (c : Frame) (n : ℕ) (p : Target) → FrameWithin IsLent start c → pointer_at s c n ≡ Some p → IsWithin IsLent start p.0
  pointer_within c n p all e = by_held (held s c n) (held_within c n all) e
    where
      by_held : (o : Option Held) → IfPointer o P → as_pointer o ≡ Some p → IsWithin IsLent start p.0
      by_held None a e = cc
      by_held (Some (value v)) a e = cc
      by_held (Some (pointer r path)) a e = subst (λ (q : Target). IsWithin IsLent start q.0) (same_Some (r, path) p e) a

  set_inside : (c : Conf) (rest : List Inst) (i : Inst) (h : Held) → IsInside IsLent start c → IfPointer (Some h) P → IsInside IsLent start (set c rest i h)
  set_inside c rest i h at mine = record { top = put_along P c.top.ids i.result h at.top mine; below = at.below }

  advanced_inside : (c : Conf) (rest : List Inst) → IsInside IsLent start c → IsInside IsLent start (advanced c rest)
  advanced_inside c rest at = record { top = at.top; below = at.below }

  operation_inside : (c : Conf) (rest : List Inst) (i : Inst) → IsInside IsLent start c → ActInside IsLent start (operation_step s c rest i)
  unfolding operation_step
  operation_inside c rest i at = some_inside (computed s c.top i) (λ v. goes [] (set_value c rest i v)) (λ v e. inl (set_inside c rest i (value v) at tt))

  -- chains
  led_inside : (c : Conf) (rest : List Inst) (i : Inst) (p : Target) (indexes : List ℕ) (t : Bool) → IsInside IsLent start c → IsWithin IsLent start p.0 → ActInside IsLent start (lead_if t c rest i p indexes)
  led_inside c rest i p indexes false at in_it = tt
  led_inside c rest i p indexes true at in_it = inl (record { top = put_along P (without_based c.top.function i.result c.top.ids) i.result (pointer p.0 (p.1 ++ indexes)) (without_along P c.top i.result at.top) in_it; below = at.below })

  chain_inside : (c : Conf) (rest : List Inst) (i : Inst) → IsInside IsLent start c → ActInside IsLent start (chain_step s c rest i)
  unfolding chain_step
  chain_inside c rest i at =
      some_inside (pointer_at s c.top (base i)) _ (λ p is.
      some_inside (words_at s c.top (drop 1 i.args)) _ (λ indexes have.
      some_inside (pointee_of s.of.globals c.top.function (base i)) _ (λ ty leads. led_inside c rest i p indexes (are_allowed s ty indexes) at (pointer_within c.top (base i) p at.top is))))

  length_inside : (c : Conf) (rest : List Inst) (i : Inst) → IsInside IsLent start c → ActInside IsLent start (length_step s c rest i)
  unfolding length_step
  length_inside c rest i at = some_inside (pointer_at s c.top (arg i 0)) _ (λ p e. some_inside (seen s p.0) _ (λ v is. inl (set_inside c rest i (value (word (elements s v (arg i 1)))) at tt)))

  variable_inside : (c : Conf) (rest : List Inst) (i : Inst) → IsInside IsLent start c → ActInside IsLent start (variable_step s c rest i)
  unfolding variable_step
  variable_inside c rest i at = some_inside (c.top.variables i.result) _ (λ v e. inl (set_inside c rest i (pointer (own i.result) []) at tt))

  -- loads
  loaded_inside : (c : Conf) (rest : List Inst) (i : Inst) (p : Target) (o : Option Inst) → IsInside IsLent start c → ActInside IsLent start (load_from s c rest i p o)
  loaded_inside c rest i p (Some v) at = some_inside (shape_along s v p.1) (read_shape s c rest i v p) (λ t e words. set_inside c rest i (value _) at tt)
  loaded_inside c rest i p None at = some_inside (option_and_then (extracted p.1) (kept s c p.0)) _ (λ v e. inl (set_inside c rest i (value v) at tt))

  load_inside : (c : Conf) (rest : List Inst) (i : Inst) → IsInside IsLent start c → ActInside IsLent start (load_step s c rest i)
  unfolding load_step
  load_inside c rest i at = some_inside (pointer_at s c.top (arg i 0)) _ (λ p e. loaded_inside c rest i p (seen s p.0) at)

  -- another value of a variable of a call below
  as_before_put : (depth n : ℕ) (v : ValueTree) (f g : Frame) → IsLent depth n → IsAsBefore IsLent depth f g → IsAsBefore IsLent depth f (with_variable n v g)
  as_before_put depth n v f g is a = record { function = a.function; block = a.block; rest = a.rest; ids = a.ids; variables = λ k. by_test k (k == n) (eqb_tells k n) (a.variables k) }
    where
      by_test : (k : ℕ) (t : Bool) → ((t ≡ true) × (k ≡ n)) ⊎ ((t ≡ false) × (k ≡ n → ⊥)) → IsLent depth k ⊎ (g.variables k ≡ f.variables k) → IsLent depth k ⊎ (elim t as (λ t. Option ValueTree) [ true ↦ Some v | false ↦ g.variables k ] ≡ f.variables k)
      by_test k true (inl w) old = inl (subst (IsLent depth) (sym w.1) is)
      by_test k true (inr w) old = cc
      by_test k false w old = old

  wait_with : (depth n : ℕ) (v : ValueTree) (g : Frame) (bs ds : List (Frame × ℕ)) → IsLent depth n → Wait IsLent bs ds → call_at depth ds ≡ Some g → Wait IsLent bs (with_call depth (with_variable n v g) ds)
  wait_with depth n v g [] [] is w e = w
  wait_with depth n v g [] (d ∷ ds) is w e = absurd w
  wait_with depth n v g (b ∷ bs) [] is w e = absurd w
  wait_with depth n v g (b ∷ bs) (d ∷ ds) is w e = by_test (length ds == depth) (eqb_tells (length ds) depth) (wait_with depth n v g bs ds is w.2) e
    where
      by_test : (t : Bool) → ((t ≡ true) × (length ds ≡ depth)) ⊎ ((t ≡ false) × (length ds ≡ depth → ⊥)) → (call_at depth ds ≡ Some g → Wait IsLent bs (with_call depth (with_variable n v g) ds)) → elim t [ true ↦ Some d.0 | false ↦ call_at depth ds ] ≡ Some g
          → Wait IsLent (b ∷ bs) (elim t as (λ t. List (Frame × ℕ)) [ true ↦ (with_variable n v g, d.1) ∷ ds | false ↦ d ∷ with_call depth (with_variable n v g) ds ])
      by_test true (inl t) later e = (w.0, as_before_put (length bs) n v b.0 g (subst (λ k. IsLent k n) (sym t.1 ∙ wait_length bs ds w.2) is) (subst (IsAsBefore IsLent (length bs) b.0) (same_Some d.0 g e) w.1), w.2)
      by_test true (inr t) later e = cc
      by_test false t later e = (w.0, w.1, later e)

  within_with : (depth n : ℕ) (v : ValueTree) (g : Frame) (ds : List (Frame × ℕ)) → IsWithin IsLent start (lent depth n) → Within IsLent start ds → call_at depth ds ≡ Some g → Within IsLent start (with_call depth (with_variable n v g) ds)
  within_with depth n v g [] is w e = w
  within_with depth n v g (d ∷ ds) (inl far) (inl w) e =
      let le : length (d ∷ ds) ≤ depth = (let same = wait_length start (d ∷ ds) w in omega (arith, far, same)) in
      subst (Within IsLent start) (sym (call_out depth (with_variable n v g) (d ∷ ds) le)) (inl w)
  within_with depth n v g (d ∷ ds) (inr is) (inl w) e = wait_in (with_call depth (with_variable n v g) (d ∷ ds)) (wait_with depth n v g start (d ∷ ds) is w e)
  within_with depth n v g (d ∷ ds) is (inr w) e = by_test (length ds == depth) (within_with depth n v g ds is w.1) e
    where
      by_test : (t : Bool) → (call_at depth ds ≡ Some g → Within IsLent start (with_call depth (with_variable n v g) ds)) → elim t [ true ↦ Some d.0 | false ↦ call_at depth ds ] ≡ Some g
          → Within IsLent start (elim t as (λ t. List (Frame × ℕ)) [ true ↦ (with_variable n v g, d.1) ∷ ds | false ↦ d ∷ with_call depth (with_variable n v g) ds ])
      by_test true later e = inr (subst (FrameWithin IsLent start) (same_Some d.0 g e) w.0, w.1)
      by_test false later e = inr (w.0, later e)

  keeping_inside : (c : Conf) (r : Root) (v : ValueTree) → IsInside IsLent start c → IsWithin IsLent start r → IsInside IsLent start (keeping r v c)
  keeping_inside c (global n) v at is = record { top = at.top; below = at.below }
  keeping_inside c (own n) v at is = record { top = at.top; below = at.below }
  keeping_inside c (lent depth n) v at is = by_call (call_at depth c.below) refl
    where
      by_call : (o : Option Frame) → call_at depth c.below ≡ o → IsInside IsLent start (with_lent depth n v c o)
      by_call None e = at
      by_call (Some g) e = record { top = at.top; below = within_with depth n v g c.below is at.below e }

  stored_inside : (c : Conf) (rest : List Inst) (p : Target) (v : ValueTree) (o : Option Inst) → IsInside IsLent start c → IsWithin IsLent start p.0 → ActInside IsLent start (store_to s c rest p v o)
  stored_inside c rest p v (Some var) at is = inl (advanced_inside c rest at)
  stored_inside c rest p v None at is = some_inside (option_and_then (inserted v p.1) (kept s c p.0)) _ (λ whole e. inl (keeping_inside (advanced c rest) p.0 whole (advanced_inside c rest at) is))

  store_inside : (c : Conf) (rest : List Inst) (i : Inst) → IsInside IsLent start c → ActInside IsLent start (store_step s c rest i)
  unfolding store_step
  store_inside c rest i at =
      some_inside (pointer_at s c.top (arg i 0)) _ (λ p e. some_inside (value_at s c.top (arg i 1)) _ (λ v is. stored_inside c rest p v (seen s p.0) at (pointer_within c.top (arg i 0) p at.top e)))

  -- atomics and barriers
  found_inside : (o : AtomicOp) (c : Conf) (rest : List Inst) (i : Inst) (words : List ℕ) → IsInside IsLent start c → IsInside IsLent start (set_found c rest i o words)
  found_inside atomics.Store c rest i words at = advanced_inside c rest at
  found_inside o c rest i words at = set_inside c rest i (value (word _)) at tt

  atomic_inside : (o : AtomicOp) (c : Conf) (rest : List Inst) (i : Inst) → IsInside IsLent start c → ActInside IsLent start (atomic_step o s c rest i)
  unfolding atomic_step
  atomic_inside o c rest i at = some_inside (pointer_at s c.top (arg i 0)) _ (λ p e. some_inside (seen s p.0) _ (λ v is. some_inside (atomic_operands o s c.top i) _ (λ operands have words. found_inside o c rest i words at)))

  memory_barrier_inside : (c : Conf) (rest : List Inst) (i : Inst) → IsInside IsLent start c → ActInside IsLent start (memory_barrier_step s c rest i)
  unfolding memory_barrier_step
  memory_barrier_inside c rest i at = some_inside (word_at s c.top (arg i 1)) (λ w. goes (memory_barriers w) (advanced c rest)) (λ w e. inl (advanced_inside c rest at))

  control_barrier_inside : (c : Conf) (rest : List Inst) (i : Inst) → IsInside IsLent start c → ActInside IsLent start (control_barrier_step s c rest i)
  unfolding control_barrier_step
  control_barrier_inside c rest i at = some_inside (word_at s c.top (arg i 2)) (λ w. goes (memory_barriers w ++ control_barrier ∷ []) (advanced c rest)) (λ w e. inl (advanced_inside c rest at))

  -- calls
  abbrev pub AllWithin : List Held → Type 0
  AllWithin hs = AllHeld P hs

  passed_within : (depth : ℕ) (h : Held) → length start ≤ depth → IfPointer (Some h) P → IfPointer (Some (passed depth h)) P
  passed_within depth (value v) le a = tt
  passed_within depth (pointer (global n) path) le a = tt
  passed_within depth (pointer (own n) path) le a = inl le
  passed_within depth (pointer (lent d n) path) le a = a

  all_passed : (depth : ℕ) (hs : List Held) → length start ≤ depth → AllWithin hs → AllWithin (map (passed depth) hs)
  all_passed depth [] le all = tt
  all_passed depth (h ∷ hs) le all = (passed_within depth h le all.0, all_passed depth hs le all.1)

  all_held : (c : Frame) → FrameWithin IsLent start c → (ns : List ℕ) (hs : List Held) → each_one (held s c) ns ≡ Some hs → AllWithin hs
  all_held c all [] [] e = tt
  all_held c all [] (h ∷ hs) e = cc
  all_held c all (n ∷ ns) hs e =
      let b = before_some (held s c n) (each_one (held s c) ns) hs e in
      subst AllWithin (sym b.4) (subst (λ o. IfPointer o P) b.2 (held_within c n all), all_held c all ns b.1 b.3)

  call_inside : (c : Conf) (rest : List Inst) (i : Inst) → IsInside IsLent start c → ActInside IsLent start (call_step s c rest i)
  unfolding call_step entered
  call_inside c rest i at =
      some_inside (function_of s.of.functions (arg i 0)) _ (λ f is.
      some_inside (each_one (held s c.top) (drop 1 i.args)) _ (λ arguments have.
      inl (record {
        top = arguments_along P f.params (map (passed (length c.below)) arguments) (all_passed (length c.below) arguments (within_length c.below at.below) (all_held c.top at.top (drop 1 i.args) arguments have));
        below = inr (at.top, at.below);
      })))

  -- out of a call: of one inside this one, or of this one
  out_length : (d : Frame × ℕ) (ds : List (Frame × ℕ)) → Wait IsLent start (d ∷ ds) → suc (length ds) ≤ length start
  out_length d ds w = let same = wait_length start (d ∷ ds) w in omega (arith, same)

  return_inside : (c : Conf) (ds : List (Frame × ℕ)) → Within IsLent start ds → ActInside IsLent start (return_step c ds)
  unfolding return_step
  return_inside c [] w = tt
  return_inside c (d ∷ ds) (inl w) = inr (out_length d ds w)
  return_inside c (d ∷ ds) (inr w) = inl (record { top = w.0; below = w.1 })

  given_inside : (c : Conf) (v : ValueTree) (ds : List (Frame × ℕ)) → Within IsLent start ds → ActInside IsLent start (given_to v c ds)
  given_inside c v [] w = tt
  given_inside c v (d ∷ ds) (inl w) = inr (out_length d ds w)
  given_inside c v (d ∷ ds) (inr w) = inl (record { top = put_along P d.0.ids d.1 (value v) w.0 tt; below = w.1 })

  return_value_inside : (c : Conf) (i : Inst) → IsInside IsLent start c → ActInside IsLent start (return_value_step s c i)
  unfolding return_value_step
  return_value_inside c i at = some_inside (value_at s c.top (arg i 0)) _ (λ v e. given_inside c v c.below at.below)

  -- edges
  edge_inside : (c : Conf) (label : ℕ) → IsInside IsLent start c → ActInside IsLent start (edge_step s c label)
  unfolding edge_step
  edge_inside c label at =
      some_inside (block_in c.top.function label) _ (λ t to.
      some_inside (slice_get c.top.function.blocks t) _ (λ b is.
      some_inside (each_one (phi_value s c.top (present_label c.top)) (phis b)) _ (λ values have.
      inl (record { top = phis_along P (phis b) values c.top.ids at.top; below = at.below }))))

  branch_inside : (o : Terminator) (c : Conf) (i : Inst) → IsInside IsLent start c → ActInside IsLent start (branch_step o s c i)
  unfolding branch_step
  branch_inside o c i at = some_inside (target_label o s c.top i) _ (λ label e. edge_inside c label at)

  steps_inside : (k : StepKind) (c : Conf) (rest : List Inst) (i : Inst) → IsInside IsLent start c → ActInside IsLent start (step_by k s c rest i)
  steps_inside the.operation c rest i at = operation_inside c rest i at
  steps_inside the.chain c rest i at = chain_inside c rest i at
  steps_inside the.array_length c rest i at = length_inside c rest i at
  steps_inside the.variable c rest i at = variable_inside c rest i at
  steps_inside the.load c rest i at = load_inside c rest i at
  steps_inside the.store c rest i at = store_inside c rest i at
  steps_inside (the.atomic o) c rest i at = atomic_inside o c rest i at
  steps_inside the.memory_barrier c rest i at = memory_barrier_inside c rest i at
  steps_inside the.control_barrier c rest i at = control_barrier_inside c rest i at
  steps_inside the.call c rest i at = call_inside c rest i at
  steps_inside the.merge c rest i at = inl (advanced_inside c rest at)
  steps_inside (the.branch o) c rest i at = branch_inside o c i at
  steps_inside the.return c rest i at = return_inside c c.below at.below
  steps_inside the.return_value c rest i at = return_value_inside c i at
  steps_inside the.unreachable c rest i at = tt

  -- from a state inside the call the module comes to states inside it, or out of it
  pub inside_step : (c : Conf) → IsInside IsLent start c → ActInside IsLent start (act s c)
  unfolding act
  inside_step c at = by_rest c.top.rest
    where
      by_rest : (is : List Inst) → ActInside IsLent start (act_on s c is)
      by_rest [] = tt
      by_rest (i ∷ rest) = steps_inside (step_kind i.op) c rest i at

  -- so each step of the machine keeps this while the call is under way
  pub inside_kept : (c d : Supplied Conf) (e : List Event) → length start ≤ length d.at.below → machine s c ≡ go e d → IsInside IsLent start c.at → IsInside IsLent start d.at
  inside_kept c d e le is at = by_act (act s c.at) (inside_step c.at at) c.answers is
    where
      to : (f : Conf) (answers : List (List ℕ)) → IsInside IsLent start f → supplied f answers ≡ d → IsInside IsLent start d.at
      to f answers there same = subst (λ (q : Supplied Conf). IsInside IsLent start q.at) same there

      by_event : (o : Option Event) (f : Conf) (more : List (List ℕ)) → IsInside IsLent start f → told o f more ≡ go e d → IsInside IsLent start d.at
      by_event None f more there is = cc
      by_event (Some x) f more there is = to f more there (let same : supplied f more ≡ d = cc in same)

      by_act : (a : Act Conf) → ActInside IsLent start a → (answers : List (List ℕ)) → move a answers ≡ go e d → IsInside IsLent start d.at
      by_act (goes x f) (inl there) answers is = to f answers there (let same : supplied f answers ≡ d = cc in same)
      by_act (goes x f) (inr out) answers is =
          let same : d ≡ supplied f answers = cc in
          let stays : length start ≤ length f.below = subst (λ (q : Supplied Conf). length start ≤ length q.at.below) same le in
          absurd (omega (arith, out, stays))
      by_act (asks a f) there [] is = cc
      by_act (asks a f) there (words ∷ more) is = by_words (are_words words) is
        where
          by_words : (b : Bool) → told_words b a f words more ≡ go e d → IsInside IsLent start d.at
          by_words true is = by_event (event_of a words) (f words) more (there words) is
          by_words false is = cc
      by_act stops there answers is = cc
      by_act fails there answers is = cc

  -- at a return of the call itself all that waits is as it was, but for what was lent
  pub waits_there : (ds : List (Frame × ℕ)) → Within IsLent start ds → length ds ≡ length start → Wait IsLent start ds
  waits_there [] w same = w
  waits_there (d ∷ ds) (inl w) same = w
  waits_there (d ∷ ds) (inr w) same = let le = within_length ds w.1 in absurd (omega (arith, same, le))

-- What each instruction keeps of a call, and gives to one that begins, holds of all calls under way at each step.
use Rattle.std.proofs.Common.{◌≡◌, ◌≤◌, ◌==◌, ℕ, Bool, true, false, List, [], ◌∷◌, ◌++◌, length, drop, Option, Some, None, refl, ap, subst}
use Rattle.std.specs.Prelude.{option_and_then, slice_get}
use Rattle.std.proofs.lemmas.Option.{same_Some}
use Rattle.spv_ops.specs.declared.AtomicOp.{AtomicOp}
use Rattle.spv_ops.specs.declared.AtomicOp.TheVariants as atomics
use Rattle.spv_ops.specs.declared.Terminator.{Terminator}
use Rattle.spv_module.specs.declared.inst.Inst.{Inst}
use Rattle.spv_types.specs.Tree.{ValueTree, word}
use Rattle.spv_index.specs.Locals.{block_in}
use Rattle.spv_index.specs.Pointers.{pointee_of}
use Rattle.op_semantics.specs.Component.{each_one}
use Rattle.op_semantics.specs.Composite.{extracted, inserted}
use Rattle.profile_rules.specs.Entry.{function_of}
use Rattle.traces.specs.Events.{Event, event_of, control_barrier}
use Rattle.traces.specs.Runs.{go, told, Act, goes, asks, stops, fails, Supplied, supplied}
use Rattle.module_semantics.specs.Setting.{Setting}
use Rattle.module_semantics.specs.Memory.{shape_along, are_allowed, elements}
use Rattle.module_semantics.specs.State.{Root, global, own, lent, value, Frame, Conf, put, call_at, with_call, with_variable}
use Rattle.module_semantics.specs.Operands.{held, value_at, pointer_at, Target, arg, word_at, words_at}
use Rattle.module_semantics.specs.Accesses.{seen, kept, keeping, with_lent}
use Rattle.module_semantics.specs.Steps as the
use Rattle.module_semantics.specs.Steps.{with_some, advanced, set_value, computed, operation_step, lead_if, base, chain_step, length_step, variable_step, read_shape, load_from, load_step, store_to, store_step, atomic_operands, set_found, atomic_step, memory_barriers, memory_barrier_step, control_barrier_step, phis, call_step, return_step, given_to, return_value_step, target_label, phi_value, present_label, edge_step, branch_step, StepKind, step_kind, step_by, act_on, act}
use Rattle.agree_law.proofs.Stores.{length_with}
use Rattle.agree_law.proofs.Machine.{machine}
use Rattle.call_law.specs.Frames.{Waits, AllWait, HoldsOfAll, ActKeeps, makes_pointer, IsClosed}
use Rattle.agree_law.specs.Answers.{are_words, told_words, move}

module _ (h : ℕ) (J : List (Frame × ℕ) → Frame → Type 0) (s : Setting) (closed : IsClosed J s) where
  abbrev Inv : Conf → Type 0
  Inv = HoldsOfAll h J

  abbrev Keeps : Act Conf → Type 0
  Keeps = ActKeeps h J

  some_keeps : {A : Type 0} (o : Option A) (f : A → Act Conf) → ((a : A) → o ≡ Some a → Keeps (f a)) → Keeps (with_some o f)
  some_keeps None f on = tt
  some_keeps (Some a) f on = on a refl

  module _ (c : Conf) (rest : List Inst) (i : Inst) (next : c.top.rest ≡ i ∷ rest) where
    passes : Inv c → Inv (advanced c rest)
    passes at = record { top = λ le. closed.passes c.below c.top i rest next (at.top le); below = at.below }

    gets : (v : ValueTree) → makes_pointer (step_kind i.op) ≡ false → Inv c → Inv (set_value c rest i v)
    gets v kind at = record { top = λ le. closed.gets c.below c.top i rest v next kind (at.top le); below = at.below }

    operation_keeps : makes_pointer (step_kind i.op) ≡ false → Inv c → Keeps (operation_step s c rest i)
    unfolding operation_step
    operation_keeps kind at = some_keeps (computed s c.top i) (λ v. goes [] (set_value c rest i v)) (λ v e. gets v kind at)

    led_keeps : (p : Target) (indexes : List ℕ) (ty : ℕ) (t : Bool) → step_kind i.op ≡ the.chain → pointer_at s c.top (base i) ≡ Some p → words_at s c.top (drop 1 i.args) ≡ Some indexes → pointee_of s.of.globals c.top.function (base i) ≡ Some ty → are_allowed s ty indexes ≡ t → Inv c → Keeps (lead_if t c rest i p indexes)
    led_keeps p indexes ty false kind is have leads allowed at = tt
    led_keeps p indexes ty true kind is have leads allowed at = record { top = λ le. closed.leads c.below c.top i rest p indexes ty next kind is have leads allowed (at.top le); below = at.below }

    chain_keeps : step_kind i.op ≡ the.chain → Inv c → Keeps (chain_step s c rest i)
    unfolding chain_step
    chain_keeps kind at =
        some_keeps (pointer_at s c.top (base i)) _ (λ p is.
        some_keeps (words_at s c.top (drop 1 i.args)) _ (λ indexes have.
        some_keeps (pointee_of s.of.globals c.top.function (base i)) _ (λ ty leads. led_keeps p indexes ty (are_allowed s ty indexes) kind is have leads refl at)))

    length_keeps : makes_pointer (step_kind i.op) ≡ false → Inv c → Keeps (length_step s c rest i)
    unfolding length_step
    length_keeps kind at = some_keeps (pointer_at s c.top (arg i 0)) _ (λ p e. some_keeps (seen s p.0) _ (λ v is. gets (word (elements s v (arg i 1))) kind at))

    variable_keeps : step_kind i.op ≡ the.variable → Inv c → Keeps (variable_step s c rest i)
    unfolding variable_step
    variable_keeps kind at = some_keeps (c.top.variables i.result) _ (λ v e. record { top = λ le. closed.declares c.below c.top i rest v next kind e (at.top le); below = at.below })

    -- loads
    loaded_keeps : (p : Target) (o : Option Inst) → makes_pointer (step_kind i.op) ≡ false → Inv c → Keeps (load_from s c rest i p o)
    loaded_keeps p (Some v) kind at = some_keeps (shape_along s v p.1) (read_shape s c rest i v p) (λ t e words. gets _ kind at)
    loaded_keeps p None kind at = some_keeps (option_and_then (extracted p.1) (kept s c p.0)) _ (λ v e. gets v kind at)

    load_keeps : makes_pointer (step_kind i.op) ≡ false → Inv c → Keeps (load_step s c rest i)
    unfolding load_step
    load_keeps kind at = some_keeps (pointer_at s c.top (arg i 0)) _ (λ p e. loaded_keeps p (seen s p.0) kind at)

  -- stores
  all_with : (depth n : ℕ) (v : ValueTree) (g : Frame) (ds : List (Frame × ℕ)) → AllWait h J ds → call_at depth ds ≡ Some g → AllWait h J (with_call depth (with_variable n v g) ds)
  all_with depth n v g [] w e = w
  all_with depth n v g (d ∷ ds) w e = by_test (length ds == depth) (all_with depth n v g ds w.1) e
    where
      by_test : (t : Bool) → (call_at depth ds ≡ Some g → AllWait h J (with_call depth (with_variable n v g) ds)) → elim t [ true ↦ Some d.0 | false ↦ call_at depth ds ] ≡ Some g
          → AllWait h J (elim t as (λ t. List (Frame × ℕ)) [ true ↦ (with_variable n v g, d.1) ∷ ds | false ↦ d ∷ with_call depth (with_variable n v g) ds ])
      by_test true later e = ((λ le. let here : Waits h J ds (g, d.1) = subst (λ (f : Frame). Waits h J ds (f, d.1)) (same_Some d.0 g e) (w.0 le) in (closed.stores ds g n v here.0, λ u. closed.stores ds (record g { ids = put g.ids d.1 (value u) }) n v (here.1 u))), w.1)
      by_test false later e = (
        (λ le. let there = w.0 (subst (λ l. h ≤ l) (length_with depth (with_variable n v g) ds) le) in (closed.lends ds d.0 depth n v g e there.0, λ u. closed.lends ds (record d.0 { ids = put d.0.ids d.1 (value u) }) depth n v g e (there.1 u))),
        later e,
      )

  keeping_keeps : (c : Conf) (r : Root) (v : ValueTree) → Inv c → Inv (keeping r v c)
  keeping_keeps c (global n) v at = record { top = at.top; below = at.below }
  keeping_keeps c (own n) v at = record { top = λ le. closed.stores c.below c.top n v (at.top le); below = at.below }
  keeping_keeps c (lent depth n) v at = by_call (call_at depth c.below) refl
    where
      by_call : (o : Option Frame) → call_at depth c.below ≡ o → Inv (with_lent depth n v c o)
      by_call None e = at
      by_call (Some g) e = record { top = λ le. closed.lends c.below c.top depth n v g e (at.top (subst (λ l. h ≤ l) (length_with depth (with_variable n v g) c.below) le)); below = all_with depth n v g c.below at.below e }

  module _ (c : Conf) (rest : List Inst) (i : Inst) (next : c.top.rest ≡ i ∷ rest) where
    stored_keeps : (p : Target) (v : ValueTree) (o : Option Inst) → Inv c → Keeps (store_to s c rest p v o)
    stored_keeps p v (Some var) at = passes c rest i next at
    stored_keeps p v None at = some_keeps (option_and_then (inserted v p.1) (kept s c p.0)) _ (λ whole e. keeping_keeps (advanced c rest) p.0 whole (passes c rest i next at))

    store_keeps : Inv c → Keeps (store_step s c rest i)
    unfolding store_step
    store_keeps at = some_keeps (pointer_at s c.top (arg i 0)) _ (λ p e. some_keeps (value_at s c.top (arg i 1)) _ (λ v is. stored_keeps p v (seen s p.0) at))

    -- atomics and barriers
    found_keeps : (o : AtomicOp) (words : List ℕ) → makes_pointer (step_kind i.op) ≡ false → Inv c → Inv (set_found c rest i o words)
    found_keeps atomics.Store words kind at = passes c rest i next at
    found_keeps o words kind at = gets c rest i next _ kind at

    atomic_keeps : (o : AtomicOp) → makes_pointer (step_kind i.op) ≡ false → Inv c → Keeps (atomic_step o s c rest i)
    unfolding atomic_step
    atomic_keeps o kind at = some_keeps (pointer_at s c.top (arg i 0)) _ (λ p e. some_keeps (seen s p.0) _ (λ v is. some_keeps (atomic_operands o s c.top i) _ (λ operands have words. found_keeps o words kind at)))

    memory_barrier_keeps : Inv c → Keeps (memory_barrier_step s c rest i)
    unfolding memory_barrier_step
    memory_barrier_keeps at = some_keeps (word_at s c.top (arg i 1)) (λ w. goes (memory_barriers w) (advanced c rest)) (λ w e. passes c rest i next at)

    control_barrier_keeps : Inv c → Keeps (control_barrier_step s c rest i)
    unfolding control_barrier_step
    control_barrier_keeps at = some_keeps (word_at s c.top (arg i 2)) (λ w. goes (memory_barriers w ++ control_barrier ∷ []) (advanced c rest)) (λ w e. passes c rest i next at)

    -- calls
    call_keeps : step_kind i.op ≡ the.call → h ≤ length c.below → Inv c → Keeps (call_step s c rest i)
    unfolding call_step
    call_keeps kind le at =
        some_keeps (function_of s.of.functions (arg i 0)) _ (λ g is.
        some_keeps (each_one (held s c.top) (drop 1 i.args)) _ (λ hs have.
        record {
          top = λ more. closed.calls c.below c.top i rest g hs next kind is have (at.top le);
          below = ((λ more. (closed.passes c.below c.top i rest next (at.top le), λ v. closed.gets c.below c.top i rest v next (ap makes_pointer kind) (at.top le))), at.below);
        }))

  return_keeps : (c : Conf) (ds : List (Frame × ℕ)) → AllWait h J ds → Keeps (return_step c ds)
  unfolding return_step
  return_keeps c [] w = tt
  return_keeps c (d ∷ ds) w = record { top = λ le. (w.0 le).0; below = w.1 }

  given_keeps : (c : Conf) (v : ValueTree) (ds : List (Frame × ℕ)) → AllWait h J ds → Keeps (given_to v c ds)
  given_keeps c v [] w = tt
  given_keeps c v (d ∷ ds) w = record { top = λ le. (w.0 le).1 v; below = w.1 }

  return_value_keeps : (c : Conf) (i : Inst) → Inv c → Keeps (return_value_step s c i)
  unfolding return_value_step
  return_value_keeps c i at = some_keeps (value_at s c.top (arg i 0)) _ (λ v e. given_keeps c v c.below at.below)

  -- edges
  edge_keeps : (o : Terminator) (c : Conf) (rest : List Inst) (i : Inst) (label : ℕ) → c.top.rest ≡ i ∷ rest → step_kind i.op ≡ the.branch o → target_label o s c.top i ≡ Some label → Inv c → Keeps (edge_step s c label)
  unfolding edge_step
  edge_keeps o c rest i label next kind leads at =
      some_keeps (block_in c.top.function label) _ (λ t to.
      some_keeps (slice_get c.top.function.blocks t) _ (λ b is.
      some_keeps (each_one (phi_value s c.top (present_label c.top)) (phis b)) _ (λ values have.
      record { top = λ le. closed.goes_to c.below c.top i rest o label t b values next kind leads to is have (at.top le); below = at.below })))

  branch_keeps : (o : Terminator) (c : Conf) (rest : List Inst) (i : Inst) → c.top.rest ≡ i ∷ rest → step_kind i.op ≡ the.branch o → Inv c → Keeps (branch_step o s c i)
  unfolding branch_step
  branch_keeps o c rest i next kind at = some_keeps (target_label o s c.top i) _ (λ label leads. edge_keeps o c rest i label next kind leads at)

  steps_keep : (k : StepKind) (c : Conf) (rest : List Inst) (i : Inst) → c.top.rest ≡ i ∷ rest → step_kind i.op ≡ k → h ≤ length c.below → Inv c → Keeps (step_by k s c rest i)
  steps_keep the.operation c rest i next kind le at = operation_keeps c rest i next (ap makes_pointer kind) at
  steps_keep the.chain c rest i next kind le at = chain_keeps c rest i next kind at
  steps_keep the.array_length c rest i next kind le at = length_keeps c rest i next (ap makes_pointer kind) at
  steps_keep the.variable c rest i next kind le at = variable_keeps c rest i next kind at
  steps_keep the.load c rest i next kind le at = load_keeps c rest i next (ap makes_pointer kind) at
  steps_keep the.store c rest i next kind le at = store_keeps c rest i next at
  steps_keep (the.atomic o) c rest i next kind le at = atomic_keeps c rest i next o (ap makes_pointer kind) at
  steps_keep the.memory_barrier c rest i next kind le at = memory_barrier_keeps c rest i next at
  steps_keep the.control_barrier c rest i next kind le at = control_barrier_keeps c rest i next at
  steps_keep the.call c rest i next kind le at = call_keeps c rest i next kind le at
  steps_keep the.merge c rest i next kind le at = passes c rest i next at
  steps_keep (the.branch o) c rest i next kind le at = branch_keeps o c rest i next kind at
  steps_keep the.return c rest i next kind le at = return_keeps c c.below at.below
  steps_keep the.return_value c rest i next kind le at = return_value_keeps c i at
  steps_keep the.unreachable c rest i next kind le at = tt

  act_keeps : (c : Conf) → h ≤ length c.below → Inv c → Keeps (act s c)
  unfolding act
  act_keeps c le at = by_rest c.top.rest refl
    where
      by_rest : (is : List Inst) → c.top.rest ≡ is → Keeps (act_on s c is)
      by_rest [] e = tt
      by_rest (i ∷ rest) e = steps_keep (step_kind i.op) c rest i e refl le at

  -- so each step of the machine keeps it, from a state with at least h calls below the present one
  pub all_kept : (c d : Supplied Conf) (e : List Event) → machine s c ≡ go e d → h ≤ length c.at.below → HoldsOfAll h J c.at → HoldsOfAll h J d.at
  all_kept c d e is le at = by_act (act s c.at) (act_keeps c.at le at) c.answers is
    where
      to : (f : Conf) (answers : List (List ℕ)) → Inv f → supplied f answers ≡ d → Inv d.at
      to f answers there same = subst (λ (q : Supplied Conf). HoldsOfAll h J q.at) same there

      by_event : (o : Option Event) (f : Conf) (more : List (List ℕ)) → Inv f → told o f more ≡ go e d → Inv d.at
      by_event None f more there is = cc
      by_event (Some x) f more there is = to f more there (let same : supplied f more ≡ d = cc in same)

      by_act : (a : Act Conf) → Keeps a → (answers : List (List ℕ)) → move a answers ≡ go e d → Inv d.at
      by_act (goes x f) there answers is = to f answers there (let same : supplied f answers ≡ d = cc in same)
      by_act (asks a f) there [] is = cc
      by_act (asks a f) there (words ∷ more) is = by_words (are_words words) is
        where
          by_words : (b : Bool) → told_words b a f words more ≡ go e d → Inv d.at
          by_words true is = by_event (event_of a words) (f words) more (there words) is
          by_words false is = cc
      by_act stops there answers is = cc
      by_act fails there answers is = cc

-- Barriers: no place is told, and no words are taken.
use Rattle.std.proofs.Common.{◌≡◌, ◌==◌, ◌++◌, ℕ, Bool, true, false, List, [], ◌∷◌, refl, ap, sym, ◌∙◌, map}
use Rattle.std.specs.Prelude.{Option, Some, None, bit_and, if◌then◌else◌}
use Rattle.spv_module.specs.declared.inst.Inst.{Inst}
use Rattle.traces.specs.Events as trace
use Rattle.traces.specs.Events.{Event}
use Rattle.traces.specs.Runs.{goes, fails}
use Rattle.step_run.specs.Answers.{answers_in}
use Rattle.module_semantics.specs.Setting.{Setting}
use Rattle.module_semantics.specs.State.{Conf}
use Rattle.module_semantics.specs.Operands.{arg, word_at}
use Rattle.module_semantics.specs.Steps.{with_some, advanced, memory_barriers, memory_barrier_step, control_barrier_step}
use Rattle.run_acts.specs.Narrowed.{narrow_event, narrowed}
use Rattle.run_memory.specs.declared.barriers.Barrier.{Barrier}
use Rattle.run_memory.specs.declared.barriers.Barrier.TheVariants as kind
use Rattle.run_memory.specs.Barriers.{semantics_place, barrier_events, barrier_by}

-- neither, where these bits are not set
abbrev barriers_by : Bool → Bool → List Event
barriers_by buffer shared = (if buffer then [] else trace.buffer_barrier ∷ []) ++ (if shared then [] else trace.shared_barrier ∷ [])

narrow_by : (a b : Bool) → map narrow_event (barriers_by a b) ≡ barriers_by a b
narrow_by true true = refl
narrow_by true false = refl
narrow_by false true = refl
narrow_by false false = refl

narrow_by_control : (a b : Bool) → map narrow_event (barriers_by a b ++ trace.control_barrier ∷ []) ≡ barriers_by a b ++ trace.control_barrier ∷ []
narrow_by_control true true = refl
narrow_by_control true false = refl
narrow_by_control false true = refl
narrow_by_control false false = refl

none_by : (a b : Bool) → answers_in (barriers_by a b) ≡ []
none_by true true = refl
none_by true false = refl
none_by false true = refl
none_by false false = refl

none_by_control : (a b : Bool) → answers_in (barriers_by a b ++ trace.control_barrier ∷ []) ≡ []
none_by_control true true = refl
none_by_control true false = refl
none_by_control false true = refl
none_by_control false false = refl

memory_takes_none : (w : ℕ) → answers_in (memory_barriers w) ≡ []
memory_takes_none w = none_by (bit_and w 0x40 == 0) (bit_and w 0x100 == 0)

control_takes_none : (w : ℕ) → answers_in (memory_barriers w ++ trace.control_barrier ∷ []) ≡ []
control_takes_none w = none_by_control (bit_and w 0x40 == 0) (bit_and w 0x100 == 0)

pub barrier_takes_none : (b : Barrier) (w : ℕ) → answers_in (barrier_events b w) ≡ []
barrier_takes_none kind.Memory w = memory_takes_none w
barrier_takes_none kind.Control w = control_takes_none w

memory_narrow : (w : ℕ) → map narrow_event (memory_barriers w) ≡ memory_barriers w
memory_narrow w = narrow_by (bit_and w 0x40 == 0) (bit_and w 0x100 == 0)

control_narrow : (w : ℕ) → map narrow_event (memory_barriers w ++ trace.control_barrier ∷ []) ≡ memory_barriers w ++ trace.control_barrier ∷ []
control_narrow w = narrow_by_control (bit_and w 0x40 == 0) (bit_and w 0x100 == 0)

module _ (s : Setting) (c : Conf) (rest : List Inst) (i : Inst) where
  memory_goes : (w : ℕ) → Some w ≡ word_at s c.top (arg i 1) → narrowed (memory_barrier_step s c rest i) ≡ goes (memory_barriers w) (advanced c rest)
  unfolding memory_barrier_step
  memory_goes w is =
      ap (λ (o : Option ℕ). narrowed (with_some o (λ w. goes (memory_barriers w) (advanced c rest)))) (sym is)
      ∙ ap (λ (es : List Event). goes es (advanced c rest)) (memory_narrow w)

  memory_fails : None ≡ word_at s c.top (arg i 1) → narrowed (memory_barrier_step s c rest i) ≡ fails
  unfolding memory_barrier_step
  memory_fails is = ap (λ (o : Option ℕ). narrowed (with_some o (λ w. goes (memory_barriers w) (advanced c rest)))) (sym is)

  control_goes : (w : ℕ) → Some w ≡ word_at s c.top (arg i 2) → narrowed (control_barrier_step s c rest i) ≡ goes (memory_barriers w ++ trace.control_barrier ∷ []) (advanced c rest)
  unfolding control_barrier_step
  control_goes w is =
      ap (λ (o : Option ℕ). narrowed (with_some o (λ w. goes (memory_barriers w ++ trace.control_barrier ∷ []) (advanced c rest)))) (sym is)
      ∙ ap (λ (es : List Event). goes es (advanced c rest)) (control_narrow w)

  control_fails : None ≡ word_at s c.top (arg i 2) → narrowed (control_barrier_step s c rest i) ≡ fails
  unfolding control_barrier_step
  control_fails is = ap (λ (o : Option ℕ). narrowed (with_some o (λ w. goes (memory_barriers w ++ trace.control_barrier ∷ []) (advanced c rest)))) (sym is)

  pub barrier_goes : (b : Barrier) (w : ℕ) → Some w ≡ word_at s c.top (arg i (semantics_place b)) → narrowed (barrier_by b s c rest i) ≡ goes (barrier_events b w) (advanced c rest)
  barrier_goes kind.Memory w is = memory_goes w is
  barrier_goes kind.Control w is = control_goes w is

  pub barrier_fails : (b : Barrier) → None ≡ word_at s c.top (arg i (semantics_place b)) → narrowed (barrier_by b s c rest i) ≡ fails
  barrier_fails kind.Memory is = memory_fails is
  barrier_fails kind.Control is = control_fails is

-- A module whose words break no rule keeps values in the shapes of their types, whatever its overrides, its invocation and the answers to its accesses.
use Rattle.std.proofs.Common.{◌≡◌, ◌<◌, ℕ, zero, suc, List, Option, Some, None, refl, sym, subst, arith}
use Rattle.std.specs.Prelude.{Contains, IsSomeAnd}
use Rattle.spv_words.specs.declared.words.Inst1.{Inst1}
use Rattle.spv_words.specs.Words.{words, first_fault}
use Rattle.spv_words.specs.Breaks.{AreWords}
use Rattle.spv_module.specs.Lists.{module_of, functions}
use Rattle.spv_module.specs.declared.inst.Inst.{Inst}
use Rattle.spv_module.specs.declared.inst.Function.{Function}
use Rattle.spv_index.specs.Locals.{insts_of}
use Rattle.profile_rules.specs.declared.given.Given.{Given}
use Rattle.profile_rules.specs.Constants.{chosen_word}
use Rattle.plan_law.specs.InOrder.{IsAmong}
use Rattle.traces.specs.Invocations.{Invocation}
use Rattle.module_semantics.specs.Setting.{Setting, setting}
use Rattle.module_semantics.specs.State.{Conf}
use Rattle.module_semantics.specs.Steps.{step_kind, act}
use Rattle.module_semantics.specs.Run.{start}
use Rattle.fits_law.specs.State.{ModuleFits}
use Rattle.fits_law.specs.Typed.{IsTyped}
use Rattle.typed_law.specs.Conforms.{BreakNone, IsConforming}
use Rattle.typed_law.specs.Runs.{IsTypedState, LeadsOn, Reaches, here, by_step, by_answer}
use Rattle.typed_law.proofs.Words.{conforms}
use Rattle.typed_law.proofs.Whole.{is_typed}
use Rattle.typed_law.proofs.Inputs.{conforming_fits}
use Rattle.typed_law.proofs.Runs.{typed_step, typed_start}

-- bytes that break no rule on words have no instruction that is empty or cut short (W7, W8)
pub uncut_words : (bytes : List ℕ) → AreWords bytes → first_fault (words bytes) ≡ None
uncut_words bytes right = by_fault (first_fault (words bytes)) refl
  where
    by_length : (i : Inst1) (n : ℕ) → i.len ≡ n → first_fault (words bytes) ≡ Some i → ⊥
    by_length i zero len at = right.1.1.1.1.1.1.0 i.start (subst (λ o. IsSomeAnd o (λ (x : Inst1). (x.len ≡ 0) × (i.start ≡ x.start))) (sym at) (len, refl))
    by_length i (suc n) len at = right.1.1.1.1.1.1.1.0 i.start (subst (λ o. IsSomeAnd o (λ (x : Inst1). (0 < x.len) × (i.start ≡ x.start))) (sym at) ((let more : 0 < i.len = omega (arith, len) in more), refl))

    by_fault : (o : Option Inst1) → first_fault (words bytes) ≡ o → o ≡ None
    by_fault None at = refl
    by_fault (Some i) at = absurd (by_length i i.len refl at)

module _ (ws : List ℕ) (entry : Option (List ℕ)) (right : BreakNone ws entry) (function : ℕ) (overrides : List (ℕ × Given)) (inv : Invocation) where
  abbrev S : Setting
  S = setting (module_of ws) function overrides inv

  conforming : IsConforming S.of entry
  conforming = conforms ws entry right

  -- each instruction of its functions is typed, its constants and variables fit their types
  pub conforming_inst : (f : Function) → Contains (functions ws) f → (i : Inst) → IsAmong i (insts_of f) → IsTyped S f i (step_kind i.op)
  conforming_inst f in_it i there = is_typed S entry conforming (chosen_word S.of.heads overrides inv.specialization) (λ id. refl) f in_it i there

  pub conforming_module : ModuleFits S
  conforming_module = conforming_fits S entry conforming (chosen_word S.of.heads overrides inv.specialization) (λ id. refl)

  -- a run starts in a state that is typed, and each of its steps leads to such states
  pub conforming_start : (c : Conf) → start S ≡ Some c → IsTypedState S c
  conforming_start c e = typed_start S entry conforming (chosen_word S.of.heads overrides inv.specialization) (λ id. refl) c e

  pub conforming_step : (c : Conf) → IsTypedState S c → LeadsOn (IsTypedState S) (act S c)
  conforming_step c state = typed_step S entry conforming (chosen_word S.of.heads overrides inv.specialization) (λ id. refl) c state

  -- so is each state that it comes to
  pub conforming_reached : (d c : Conf) → IsTypedState S c → Reaches S d c → IsTypedState S d
  conforming_reached d c state here = state
  conforming_reached d c state (by_step b next e at on) = conforming_reached d next (subst (LeadsOn (IsTypedState S)) at (conforming_step c state)) on
  conforming_reached d c state (by_answer b a f answer e at told on) = conforming_reached d (f answer) (subst (LeadsOn (IsTypedState S)) at (conforming_step c state) answer e told) on

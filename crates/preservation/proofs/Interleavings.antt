-- A dispatch of a module, by any schedule, is one of a text that preserves it in each of its invocations: the same events in the same order, and the same memory.
use Rattle.std.proofs.Common.{◌≡◌, ℕ, ◌+◌, ◌<◌, ◌≤◌, true, false, List, Option, Some, None, refl, sym, subst}
use Rattle.spv_module.specs.State.{ModuleState}
use Rattle.profile_rules.specs.declared.given.Given.{Given}
use Rattle.glsl_ast.specs.Tree.{TranslationUnit}
use Rattle.traces.specs.Events.{Event}
use Rattle.traces.specs.Runs.{supplied, step_of}
use Rattle.traces.specs.Simulation.{IsPrefix}
use Rattle.traces.specs.Preservation.{TextEnd, has_ended, was_cut, is_waiting, is_stuck, TextRun, PreservesEvents}
use Rattle.traces.proofs.Clauses.{prefix_all}
use Rattle.module_semantics.specs.Setting.{Setting, setting}
use Rattle.module_semantics.specs.State.{Conf}
use Rattle.module_semantics.specs.Steps.{act}
use Rattle.module_semantics.specs.Run.{start, run_from}
use Rattle.glsl_semantics.specs.Run.{text_run}
use Rattle.glsl_semantics.proofs.MoreTurns.{MoreText, more_turns}
use Rattle.dispatch_semantics.specs.Store.{Store, AreAnswers}
use Rattle.dispatch_semantics.specs.Grid.{Grid, group_of, count, invocation}
use Rattle.dispatch_semantics.specs.Dispatch.{of_module, of_text, DispatchRun}
use Rattle.dispatch_semantics.proofs.Carried.{Carries, carries_from, every_interleaving}
use Rattle.preservation.specs.Preserves.{PreservesIn, module_side, text_side, first_state}

-- a run of a text with more turns has at least its events
more_events : (e : List Event) (end : TextEnd) (t : TextRun) → MoreText e end t → IsPrefix e t.events
more_events e was_cut t h = h
more_events e has_ended t h = subst (λ (x : TextRun). IsPrefix e x.events) (sym h) (prefix_all e)
more_events e is_waiting t h = subst (λ (x : TextRun). IsPrefix e x.events) (sym h) (prefix_all e)
more_events e is_stuck t h = subst (λ (x : TextRun). IsPrefix e x.events) (sym h) (prefix_all e)

module _ (s : Setting) (answers : List (List ℕ)) (text : ℕ → TextRun) (more : (k l : ℕ) → k ≤ l → IsPrefix (text k).events (text l).events) where
  -- by whether there is a start
  carried_by : (o : Option Conf) → PreservesEvents (run_from s o answers) text → (n : ℕ) → Carries (of_module (run_from s o answers n)) (of_text (text (n + 1)))
  carried_by None keeps n = record { events = ((text (n + 1)).events, refl); ends = λ e. let never : false ≡ true = e in cc }
  carried_by (Some c) keeps n = carries_from _ (step_of (act s)) (supplied c answers) text keeps more n

module _ (m : ModuleState) (entry : ℕ) (overrides : List (ℕ × Given)) (unit : TranslationUnit) (g : Grid) (keeps : (i : ℕ) → i < count g → PreservesIn m entry overrides unit (invocation g i)) (n : ℕ) where
  one_carried : (i : ℕ) (answers : List (List ℕ)) → i < count g → AreAnswers answers → Carries (module_side m entry overrides g n i answers) (text_side unit g (n + 1) i answers)
  one_carried i answers lt words =
      carried_by (setting m entry overrides (invocation g i)) answers (text_run unit (invocation g i) answers)
      (λ k l le. more_events _ _ _ (more_turns unit (invocation g i) answers k l le))
      (start (setting m entry overrides (invocation g i))) (keeps i lt answers words) n

  pub dispatches_agree : (store : Store) (schedule : List ℕ) (events : List (ℕ × Event)) (last : Store)
      → DispatchRun (count g) (group_of g) (module_side m entry overrides g n) (first_state store) schedule events last
      → DispatchRun (count g) (group_of g) (text_side unit g (n + 1)) (first_state store) schedule events last
  dispatches_agree store schedule events last r =
      every_interleaving (count g) (group_of g) (module_side m entry overrides g n) (text_side unit g (n + 1)) one_carried (first_state store) (λ j. tt) schedule events last r

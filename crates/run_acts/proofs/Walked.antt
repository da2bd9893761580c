-- What is done from where a machine stands, by the step that it makes there.
use Rattle.std.proofs.Common.{◌≡◌, ℕ, suc, List, [], ◌∷◌, refl, ap, sym, ◌∙◌}
use Rattle.std.specs.Prelude.{Option, Some, None, IfSome}
use Rattle.traces.specs.Events as trace
use Rattle.traces.specs.Events.{Access}
use Rattle.traces.specs.Runs.{Run, Act, goes, asks, stops, fails, before, after, exec, move, told, step_of}
use Rattle.traces.specs.Simulation.{IsPrefix}
use Rattle.run_law.specs.Walks.{walk_from}
use Rattle.step_run.specs.Steps.{Goes, Waits, IsStep, IsResumed}
use Rattle.step_run.specs.declared.program.Step.{Step}
use Rattle.step_run.specs.declared.program.Step.TheVariants.{Moves, Makes, Asks, Stops, Fails}
use Rattle.module_semantics.specs.State.{Conf}
use Rattle.run_acts.specs.Narrowed.{told_words}
use Rattle.run_acts.specs.Acts.{IsAct}
use Rattle.run_acts.specs.Ready.{IsReady}

module _ (act : Conf → Act Conf) where
  -- one step, by what it is
  behind_act : (c : Conf) (answers : List (List ℕ)) (n : ℕ) (a : Act Conf) → act c ≡ a → walk_from act c answers (suc n) ≡ after (move a answers) (exec (step_of act) n)
  behind_act c answers n a is = ap (λ (a : Act Conf). after (move a answers) (exec (step_of act) n)) is

  goes_on : (old new : Conf) (es : List trace.Event) → act old ≡ goes es new → Goes (walk_from act old) (walk_from act new) es
  goes_on old new es is answers n = behind_act old answers n (goes es new) is

  -- with the words that it is told it makes the event of these first
  with_words : (c : Conf) (a : Access) (f : List ℕ → Conf) (words : List ℕ) (more : List (List ℕ)) (e : trace.Event) (n : ℕ) → act c ≡ asks a f → trace.event_of a words ≡ Some e → walk_from act c (words ∷ more) (suc n) ≡ before (e ∷ []) (walk_from act (f words) more n)
  with_words c a f words more e n is made_is =
      behind_act c (words ∷ more) n (asks a f) is ∙ ap (λ (o : Option trace.Event). after (told o (f words) more) (exec (step_of act) n)) made_is

  first_event : (c : Conf) (a : Access) (f : List ℕ → Conf) (words : List ℕ) → act c ≡ asks a f → (o : Option trace.Event) → trace.event_of a words ≡ o → IfSome o (λ (e : trace.Event). (n : ℕ) → IsPrefix (e ∷ []) (walk_from act c (words ∷ []) (suc n)).events)
  first_event c a f words is None made_is = tt
  first_event c a f words is (Some e) made_is = λ n. ((walk_from act (f words) [] n).events, ap (λ (r : Run). r.events) (with_words c a f words [] e n is made_is))

  waits : (old new : Conf) (a : Access) (f : List ℕ → Conf) → act old ≡ asks a f → new ≡ old → Waits (walk_from act old) (walk_from act new) a
  waits old new a f is same = (ap (walk_from act) same, (λ n. behind_act old [] n (asks a f) is, λ words are. first_event old a f words is (trace.event_of a words) refl))

  -- a step of the program is one of the machine
  pub is_step : (old new : Conf) (asked : Option Access) (step : Step) → IsAct (act old) old new step → IsReady asked step → IsStep (walk_from act old) (walk_from act new) asked step
  is_step old new asked Moves is ready = goes_on old new [] is
  is_step old new asked (Makes es) is ready = (is.1, goes_on old new _ is.0)
  is_step old new asked (Asks e) is ready = (is.0, (is.1.1.1.0, (sym ready ∙ is.1.1.1.0, waits old new is.0 is.1.0 is.1.1.0 is.1.1.1.1)))
  is_step old new asked Stops is ready = (ap (walk_from act) is.1, λ answers n. behind_act old answers n stops is.0)
  is_step old new asked Fails is ready = (ap (walk_from act) is.1, λ answers n. behind_act old answers n fails is.0)

  -- behind the words that it asked for
  pub is_resumed : (c : Conf) (a : Access) (f : List ℕ → Conf) (words : List ℕ) → act c ≡ asks a f → (o : Option trace.Event) → trace.event_of a words ≡ o → IsResumed (walk_from act c) (walk_from act (told_words (act c) words c)) words o
  is_resumed c a f words is None made_is = tt
  is_resumed c a f words is (Some e) made_is = λ more n. with_words c a f words more e n is made_is ∙ ap (λ (x : Act Conf). before (e ∷ []) (walk_from act (told_words x words c) more n)) (sym is)

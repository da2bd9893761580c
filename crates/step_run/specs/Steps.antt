-- What one step of a machine is.
use Rattle.std.specs.Prelude.{◌≡◌, ℕ, suc, List, [], ◌∷◌, map, Option, Some, None, IfSome, option_and_then}
use Rattle.traces.specs.Events as trace
use Rattle.traces.specs.Runs as run
use Rattle.traces.specs.Runs.{made, before}
use Rattle.traces.specs.Simulation.{IsPrefix}
use Rattle.dispatch_semantics.specs.Store.{AreWords}
use Rattle.group_items.specs.Events.{event_of, access_of}
use Rattle.run_law.specs.Walks.{Walk}
use Rattle.step_run.specs.Answers.{answers_in}
use Rattle.step_run.specs.declared.program.Step.{Step}
use Rattle.step_run.specs.declared.program.Step.TheVariants.{Moves, Makes, Asks, Stops, Fails}

module _ (old new : Walk) where
  abbrev pub Goes : List trace.Event → Type 0
  Goes es = (answers : List (List ℕ)) (n : ℕ) → old answers (suc n) ≡ before es (new answers n)

  abbrev pub IsOver : run.Status → Type 0
  IsOver status = (new ≡ old) × ((answers : List (List ℕ)) (n : ℕ) → old answers (suc n) ≡ made [] status)

  -- it waits for the words of an access, with which it makes that event
  abbrev pub Waits : trace.Access → Type 0
  Waits a =
      (new ≡ old) × (((n : ℕ) → old [] (suc n) ≡ made [] run.waiting)
      × ((words : List ℕ) → AreWords words → IfSome (trace.event_of a words) (λ e. (n : ℕ) → IsPrefix (e ∷ []) (old (words ∷ []) (suc n)).events)))

  -- the state behind the step can be told the words that it asks for
  abbrev pub IsStep : Option trace.Access → Step → Type 0
  IsStep asks Moves = Goes []
  IsStep asks (Makes es) = (answers_in (map event_of es.items) ≡ []) × Goes (map event_of es.items)
  IsStep asks (Asks e) = (a : trace.Access) × ((access_of (event_of e) ≡ Some a) × ((asks ≡ Some a) × Waits a))
  IsStep asks Stops = IsOver run.ended
  IsStep asks Fails = IsOver run.undefined

  -- with these words it makes this event
  abbrev pub IsResumed : List ℕ → Option trace.Event → Type 0
  IsResumed words e = IfSome e (λ e. (more : List (List ℕ)) (n : ℕ) → old (words ∷ more) (suc n) ≡ before (e ∷ []) (new more n))

-- the event that is made with these words, of what is asked for
abbrev pub event_asked : Option trace.Access → List ℕ → Option trace.Event
event_asked asked words = option_and_then (λ (a : trace.Access). trace.event_of a words) asked

-- the state at the start does what the invocation does; without one the run has no meaning
abbrev pub IsStart : {S : Type 0} → Walk → (S → Walk) → Option S → Type 0
IsStart walk goes (Some s) = goes s ≡ walk
IsStart walk goes None = (answers : List (List ℕ)) (n : ℕ) → walk answers n ≡ made [] run.undefined

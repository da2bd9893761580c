-- Runs that are steady: with an answer more they go on as before, or make the event of these words next.
use Rattle.std.specs.Prelude.{◌≡◌, ◌≢◌, ◌⊎◌, ℕ, List, [], ◌∷◌, ◌++◌, Option, Some, None}
use Rattle.traces.specs.Events.{Event, Access, event_of}
use Rattle.traces.specs.Invocations.{Invocation}
use Rattle.traces.specs.Runs.{Run, waiting}
use Rattle.traces.specs.Simulation.{IsPrefix}
use Rattle.group_items.specs.Sides.{Runs}

-- behind what was done, the new run makes this event next; without one it is the same
abbrev pub GoesOn : Run → Run → Option Event → Type 0
GoesOn old new None = new ≡ old
GoesOn old new (Some e) = IsPrefix (old.events ++ e ∷ []) new.events

-- the new run does the same whatever the words are, or makes the event of one access with them
abbrev pub IsBranch : Run → (List ℕ → Run) → Type 0
IsBranch old new = ((words : List ℕ) → new words ≡ old) ⊎ ((a : Access) × ((words : List ℕ) → GoesOn old (new words) (event_of a words)))

-- what is done with some answers, for all of them
abbrev pub Branches : (List (List ℕ) → Run) → Type 0
Branches r = (answers : List (List ℕ)) → IsBranch (r answers) (λ words. r (answers ++ words ∷ []))

-- so it is with whatever an invocation is told, and a run that does not wait does the same with more answers
pub record AreSteady (runs : Runs) : Type 0 where
  pub settled : (told : Invocation) (answers more : List (List ℕ)) → (runs told answers).status ≢ waiting → runs told (answers ++ more) ≡ runs told answers
  pub branches : (told : Invocation) → Branches (runs told)

-- What becomes of a dispatch by a schedule: one event at a time, on one memory.
use Rattle.std.specs.Prelude.{◌≡◌, ◌⊎◌, ℕ, ◌<◌, ◌≤◌, ◌+◌, ◌==◌, Bool, true, false, List, [], ◌∷◌, ◌++◌}
use Rattle.traces.specs.Events.{Event, control_barrier}
use Rattle.traces.specs.Runs as run
use Rattle.traces.specs.Runs.{Run}
use Rattle.traces.specs.Simulation.{IsPrefix}
use Rattle.traces.specs.Preservation as text
use Rattle.traces.specs.Preservation.{TextRun}
use Rattle.dispatch_semantics.specs.Store.{Store, after, IsFound, answers_of, AreAnswers}

-- what an invocation does with these answers, within some number of steps or turns: its events, and whether it has ended
pub record Progress : Type 0 where
  pub events : List Event
  pub has_ended : Bool

abbrev pub Side : Type 0
Side = ℕ → List (List ℕ) → Progress

abbrev pub is_ended : run.Status → Bool
is_ended run.ended = true
is_ended _ = false

abbrev pub of_module : Run → Progress
of_module r = record { events = r.events; has_ended = is_ended r.status }

abbrev pub is_at_end : text.TextEnd → Bool
is_at_end text.has_ended = true
is_at_end _ = false

abbrev pub of_text : TextRun → Progress
of_text t = record { events = t.events; has_ended = is_at_end t.end }

-- the events that an invocation has made so far, and the answers that these took
pub record Past : Type 0 where
  pub events : List Event
  pub answers : List (List ℕ)

pub record State : Type 0 where
  pub store : Store
  pub past : ℕ → Past

-- with one more event
abbrev pub later : Past → Event → Past
later p e = record { events = p.events ++ e ∷ []; answers = p.answers ++ answers_of e }

-- how many control barriers stand among these
abbrev pub is_control : Event → Bool
is_control control_barrier = true
is_control _ = false

abbrev pub controls : List Event → ℕ
controls [] = 0
controls (e ∷ es) = elim (is_control e) [ true ↦ 1 + controls es | false ↦ controls es ]

-- there are so many invocations, and each is in a workgroup
module _ (count : ℕ) (group_of : ℕ → ℕ) where
  -- An invocation moves on only where each of its workgroup has passed as many control barriers (SPIR-V 1.6, OpControlBarrier).
  abbrev pub MayMove : State → ℕ → Type 0
  MayMove s i = (j : ℕ) → j < count → group_of j ≡ group_of i → controls (s.past i).events ≤ controls (s.past j).events

  -- the state behind an event of an invocation
  abbrev pub moved : State → ℕ → Event → State
  moved s i e = record { store = after (group_of i) e s.store; past = λ j. elim (j == i) [ true ↦ later (s.past i) e | false ↦ s.past j ] }

  module _ (side : Side) where
    -- the next event of the invocation is e, with the words that the memory has as its answer
    pub record IsMove (s : State) (i : ℕ) (e : Event) : Type 0 where
      pub allowed : MayMove s i
      pub found : IsFound s.store (group_of i) e
      pub words : AreAnswers (answers_of e)
      pub made : IsPrefix ((s.past i).events ++ e ∷ []) (side i ((s.past i).answers ++ answers_of e)).events

    -- the invocation has ended, or may not move on
    pub record HasEnded (s : State) (i : ℕ) : Type 0 where
      pub ended : (side i (s.past i).answers).has_ended ≡ true
      pub all : (side i (s.past i).answers).events ≡ (s.past i).events

    abbrev pub IsStay : State → ℕ → Type 0
    IsStay s i = HasEnded s i ⊎ (MayMove s i → ⊥)

    -- From this state the schedule, a list of invocations, gives these events and leaves this memory: each item is a move, or a stay, which changes nothing.
    abbrev pub DispatchRun : State → List ℕ → List (ℕ × Event) → Store → Type 0
    DispatchRun s [] events store = (events ≡ []) × (store ≡ s.store)
    DispatchRun s (i ∷ is) events store =
        (i < count)
        × ((IsStay s i × DispatchRun s is events store)
        ⊎ ((e : Event) × (rest : List (ℕ × Event)) × IsMove s i e × (events ≡ (i, e) ∷ rest) × DispatchRun (moved s i e) is rest store))

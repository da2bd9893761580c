-- What a dispatch comes to by its schedule: a list of invocations, and then rounds over all of them.
use Rattle.std.specs.Prelude.{◌≡◌, ℕ, zero, suc, ◌<◌, ◌/◌, List, [], ◌∷◌, ◌++◌, filter, nat_lt}
use Rattle.std.specs.List.{range_with_len}
use Rattle.traces.specs.Events as trace
use Rattle.traces.specs.Invocations.{Invocation as Told}
use Rattle.traces.specs.Runs as run
use Rattle.traces.specs.Runs.{Run, made}
use Rattle.dispatch_semantics.specs.Store.{Store}
use Rattle.dispatch_semantics.specs.Dispatch.{State, Side, MayMove, moved, IsMove, HasEnded, IsStay, DispatchRun}
use Rattle.group_items.specs.declared.schedule.End.{End}
use Rattle.group_items.specs.declared.schedule.End.TheVariants.{Ended, Waiting, Undefined, Cut}
use Rattle.group_items.specs.Events.{weight_of}
use Rattle.group_items.specs.Sides.{Runs, nothing, side_of}

-- of how many invocations, how many of them in a workgroup, what each is told, and the memory at the start
pub record Setup : Type 0 where
  pub count : ℕ
  pub group : ℕ
  pub told : ℕ → Told
  pub store : Store

abbrev pub number_of : Setup → ℕ → ℕ
number_of d i = i / d.group

abbrev pub first_state : Setup → State
first_state d = record { store = d.store; past = λ i. nothing }

abbrev pub side : Setup → Runs → Side
side d runs = side_of runs d.told

-- the state behind events
abbrev pub behind : Setup → State → List (ℕ × trace.Event) → State
behind d s [] = s
behind d s (e ∷ es) = behind d (moved d.count (number_of d) s e.0 e.1) es

abbrev pub now : Setup → List (ℕ × trace.Event) → State
now d es = behind d (first_state d) es

-- from behind the old events the items of a schedule give the new ones
pub record Goes (d : Setup) (runs : Runs) (old : List (ℕ × trace.Event)) (items : List ℕ) (new : List (ℕ × trace.Event)) : Type 0 where
  pub more : List (ℕ × trace.Event)
  pub is : new ≡ old ++ more
  pub run : DispatchRun d.count (number_of d) (side d runs) (now d old) items more (now d new).store

-- the items that name invocations, and whole rounds
abbrev pub among : ℕ → List ℕ → List ℕ
among count items = filter (λ i. nat_lt i count) items

abbrev pub turn : ℕ → List ℕ
turn count = range_with_len 0 count

abbrev pub rounds : ℕ → ℕ → List ℕ
rounds count zero = []
rounds count (suc n) = rounds count n ++ turn count

-- the list, and so many rounds
abbrev pub schedule : ℕ → List ℕ → ℕ → List ℕ
schedule count first n = among count first ++ rounds count n

module _ (d : Setup) (runs : Runs) (s : State) where
  abbrev pub IsStill : ℕ → Type 0
  IsStill i = IsStay d.count (number_of d) (side d runs) s i

  abbrev pub May : ℕ → Type 0
  May i = MayMove d.count (number_of d) s i

  -- the run that the invocation has made so far
  abbrev pub run_so_far : ℕ → Run
  run_so_far i = runs (d.told i) (s.past i).answers

  -- the item is neither a move nor a stay
  pub record IsNeither (i : ℕ) : Type 0 where
    pub no_move : (e : trace.Event) → IsMove d.count (number_of d) (side d runs) s i e → ⊥
    pub no_stay : IsStill i → ⊥

  -- the run of the invocation is undefined, and makes no event before
  abbrev pub IsUndefined : ℕ → Type 0
  IsUndefined i = run_so_far i ≡ made (s.past i).events run.undefined

  pub record HasEndedFreely (i : ℕ) : Type 0 where
    pub ended : HasEnded d.count (number_of d) (side d runs) s i
    pub may : May i

-- the item behind these of the schedule
abbrev pub IsNextItem : ℕ → List ℕ → List ℕ → ℕ → Type 0
IsNextItem count first items i = (n : ℕ) × ((rest : List ℕ) × (schedule count first n ≡ items ++ i ∷ rest))

-- the items are the list and whole rounds, and a further round is of stays alone
abbrev pub IsStillRound : Setup → Runs → List ℕ → List ℕ → State → Type 0
IsStillRound d runs first items s = ((n : ℕ) × (items ≡ schedule d.count first n)) × ((i : ℕ) → i < d.count → IsStill d runs s i)

-- why the schedule ends behind these items
abbrev pub EndsBy : Setup → Runs → List ℕ → List ℕ → State → End → Type 0
EndsBy d runs first items s Ended = IsStillRound d runs first items s × ((i : ℕ) → i < d.count → HasEndedFreely d runs s i)
EndsBy d runs first items s Waiting = IsStillRound d runs first items s × ((i : ℕ) × ((i < d.count) × (May d runs s i → ⊥)))
EndsBy d runs first items s (Undefined i) = IsNextItem d.count first items i × (IsNeither d runs s i × IsUndefined d runs s i)
EndsBy d runs first items s (Cut i) = IsNextItem d.count first items i × (IsNeither d runs s i × (IsUndefined d runs s i → ⊥))

-- the events and the memory of the items before the end, and the end
pub record Comes (d : Setup) (runs : Runs) (first : List ℕ) (events : List (ℕ × trace.Event)) (store : Store) (end : End) : Type 0 where
  pub items : List ℕ
  pub run : DispatchRun d.count (number_of d) (side d runs) (first_state d) items events store
  pub ends : EndsBy d runs first items (now d events) end

abbrev pub most_weight : ℕ
most_weight = 1048576

-- the schedule begins with items whose events are too many
pub record IsTooMuch (d : Setup) (runs : Runs) (first : List ℕ) : Type 0 where
  pub items : List ℕ
  pub rounds : ℕ
  pub rest : List ℕ
  pub is : schedule d.count first rounds ≡ items ++ rest
  pub events : List (ℕ × trace.Event)
  pub run : Goes d runs [] items events
  pub above : most_weight < weight_of events

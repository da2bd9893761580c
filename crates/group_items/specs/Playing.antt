-- A dispatch between two items of its schedule.
use Rattle.std.specs.Prelude.{◌≡◌, ℕ, ◌<◌, ◌≤◌, ◌+◌, ◌/◌, List, [], ◌∷◌, ◌++◌, Some, None, length, slice_index, slice_set}
use Rattle.traces.specs.Events as trace
use Rattle.traces.specs.Runs as run
use Rattle.traces.specs.Runs.{made}
use Rattle.traces.specs.Simulation.{IsPrefix}
use Rattle.dispatch_semantics.specs.Store.{Store, after, IsFound, answers_of, AreWords, AreAnswers}
use Rattle.dispatch_semantics.specs.Dispatch.{controls, later, IsMove}
use Rattle.group_items.specs.declared.play.Play.{Play}
use Rattle.group_items.specs.declared.play.Turn.{Turn}
use Rattle.group_items.specs.declared.play.Turn.TheVariants.{Waits, Ended, Moves, Undefined, Cut}
use Rattle.group_items.specs.declared.play.Next.{Next}
use Rattle.group_items.specs.declared.play.Next.TheVariants as next
use Rattle.group_items.specs.Events.{event_of, access_of, filled, events_of, place_count, weight_of}
use Rattle.group_items.specs.Memory.{stored}
use Rattle.group_items.specs.Sides.{Runs, Begun}
use Rattle.group_items.specs.Schedule.{Setup, number_of, side, now, May, run_so_far, most_weight}

-- each of the same workgroup has passed as many barriers
abbrev pub MayMoveBy : List ℕ → ℕ → ℕ → Type 0
MayMoveBy passed group i = (j : ℕ) → j < length passed → j / group ≡ i / group → slice_index passed i ≤ slice_index passed j

-- these words are what the memory has for an access
pub record IsAnswer (store : Store) (group : ℕ) (e : trace.Event) (words : List ℕ) : Type 0 where
  pub are : AreWords words
  pub fits : (a : trace.Access) → access_of e ≡ Some a → trace.event_of a words ≡ Some (filled e words)
  pub answers : (a : trace.Access) → access_of e ≡ Some a → answers_of (filled e words) ≡ words ∷ []
  pub found : (a : trace.Access) → access_of e ≡ Some a → IsFound store group (filled e words)

-- the next event of an invocation, with the words that the memory has
pub record IsMade (runs : Runs) (store : Store) (group : ℕ) (b : Begun) (e : trace.Event) : Type 0 where
  pub found : IsFound store group e
  pub words : AreAnswers (answers_of e)
  pub made : IsPrefix (b.past.events ++ e ∷ []) (runs b.told (b.past.answers ++ answers_of e)).events

abbrev pub IsNextOf : Runs → Store → ℕ → Begun → Next → Type 0
IsNextOf runs store group b (next.Made e) = IsMade runs store group b (event_of e)
IsNextOf runs store group b next.Ended = runs b.told b.past.answers ≡ made b.past.events run.ended
IsNextOf runs store group b next.Undefined = runs b.told b.past.answers ≡ made b.past.events run.undefined
IsNextOf runs store group b next.Cut = runs b.told b.past.answers ≡ made b.past.events run.running

abbrev pub behind_next : Begun → Next → Begun
behind_next b (next.Made e) = record b { past = later b.past (event_of e) }
behind_next b _ = b

-- an event of an invocation is noted
pub record IsNoted (old : Play) (i : ℕ) (e : trace.Event) (new : Play) : Type 0 where
  pub group : new.group ≡ old.group
  pub passed : new.passed.items ≡ slice_set old.passed.items i (slice_index old.passed.items i + controls (e ∷ []))
  pub store : stored new.store.maps.items ≡ after (i / old.group) e (stored old.store.maps.items)
  pub rooms : length new.store.maps.items ≡ length old.store.maps.items
  pub events : events_of new.events.items ≡ events_of old.events.items ++ (i, e) ∷ []
  pub weight : new.weight ≡ old.weight + (1 + place_count e)
  pub light : new.weight ≤ most_weight

-- The memory, the barriers passed and the runner stand as the events so far have left them.
pub record IsAt (d : Setup) (at : ℕ → Begun) (p : Play) : Type 0 where
  pub all : length p.passed.items ≡ d.count
  pub group : p.group ≡ d.group
  pub some : 0 < d.group
  pub rooms : (i : ℕ) → i < d.count → i / d.group < length p.store.maps.items
  pub begun : (i : ℕ) → i < d.count → at i ≡ record { told = d.told i; past = (now d (events_of p.events.items)).past i; asked = None }
  pub passes : (i : ℕ) → i < d.count → slice_index p.passed.items i ≡ controls ((now d (events_of p.events.items)).past i).events
  pub few : (i : ℕ) → i < d.count → slice_index p.passed.items i ≤ p.weight
  pub store : (now d (events_of p.events.items)).store ≡ stored p.store.maps.items
  pub weighs : p.weight ≡ weight_of (events_of p.events.items)
  pub light : p.weight ≤ most_weight

-- what an item comes to
module _ (d : Setup) (runs : Runs) (old : List (ℕ × trace.Event)) (i : ℕ) where
  pub record HasMoved (new : List (ℕ × trace.Event)) : Type 0 where
    pub event : trace.Event
    pub move : IsMove d.count (number_of d) (side d runs) (now d old) i event
    pub is : new ≡ old ++ (i, event) ∷ []

  -- nothing was done, and this is the run of an invocation that may move on
  pub record HasPaused (new : List (ℕ × trace.Event)) (status : run.Status) : Type 0 where
    pub same : new ≡ old
    pub may : May d runs (now d old) i
    pub run : run_so_far d runs (now d old) i ≡ made ((now d old).past i).events status

  abbrev pub IsTurn : List (ℕ × trace.Event) → Turn → Type 0
  IsTurn new Waits = (new ≡ old) × (May d runs (now d old) i → ⊥)
  IsTurn new Ended = HasPaused new run.ended
  IsTurn new Moves = HasMoved new
  IsTurn new Undefined = HasPaused new run.undefined
  IsTurn new Cut = HasPaused new run.running

  -- the next event is too much
  pub record IsTooMuchNext : Type 0 where
    pub event : trace.Event
    pub move : IsMove d.count (number_of d) (side d runs) (now d old) i event
    pub above : most_weight < weight_of (old ++ (i, event) ∷ [])

-- What is asked of an invocation, so that its words can be taken without memory.
use Rattle.std.specs.Prelude.{◌≡◌, ℕ, ◌+◌, ◌<◌, List, [], ◌∷◌, ◌++◌, Option, None, IfSome, vec_len, vec_capacity}
use Rattle.traces.specs.Events as trace
use Rattle.group_items.specs.Events.{event_of, access_of, filled}
use Rattle.group_items.specs.declared.event.Event.{Event}
use Rattle.step_run.specs.declared.row.Row.{Row}
use Rattle.step_run.specs.Room.{HasRoom, IsReady, Fits}
use Rattle.step_run.specs.Kept.{told_events, untold_events, begun_of}

-- the words of the access that the state is ready for have room, and so has its event, within the steps
abbrev pub CanTake : ℕ → Row → Option trace.Access → Event → Type 0
CanTake steps r asks e =
    HasRoom (event_of e)
    × ((access_of (event_of e) ≡ asks)
    × ((r.used < steps)
    × ((untold_events r ≡ [])
    × (vec_len r.told < vec_capacity r.told))))

abbrev pub Asked : ℕ → Row → Option trace.Access → Type 0
Asked steps r asks = IfSome r.asked (CanTake steps r asks)

-- nothing has changed but room, and what is asked for
pub record HasAsked (old : Row) (e : trace.Event) (new : Row) : Type 0 where
  pub inv : new.inv ≡ old.inv
  pub used : new.used ≡ old.used
  pub told : new.told.items ≡ old.told.items
  pub untold : new.untold ≡ old.untold
  pub room : vec_len new.told < vec_capacity new.told
  pub asked : IfSome new.asked (λ (r : Event). IsReady e (event_of r))
  pub some : (new.asked ≡ None) → ⊥

-- the event has a place among those that are told, and its words have room
abbrev pub HasPlace : Row → List ℕ → Event → Type 0
HasPlace r words e = HasRoom (event_of e) × (Fits (event_of e) words × (vec_len r.told < vec_capacity r.told))

-- the event that was asked for is told with these words, behind one step more
pub record IsAnswered (old : Row) (words : List ℕ) (new : Row) (e : Event) : Type 0 where
  pub inv : new.inv ≡ old.inv
  pub used : new.used ≡ old.used + 1
  pub asked : new.asked ≡ None
  pub told : told_events new ≡ told_events old ++ filled (event_of e) words ∷ []
  pub untold : untold_events new ≡ untold_events old

-- a step more is made, and nothing is asked
abbrev pub HasStepped : Row → Row → Type 0
HasStepped old new = (new.used ≡ old.used + 1) × (new.asked ≡ None)

-- no step is made, and what is asked can be taken
abbrev pub HasPaused : ℕ → Row → Row → Option trace.Access → Type 0
HasPaused steps old new asks = (new.used ≡ old.used) × Asked steps new asks

-- it is no further, and nothing is asked
abbrev pub IsIdle : Row → Row → Type 0
IsIdle old new = (begun_of new ≡ begun_of old) × (new.asked ≡ None)

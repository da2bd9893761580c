-- What is kept of invocations under way.
use Rattle.std.specs.Prelude.{◌≡◌, ℕ, ◌+◌, ◌≤◌, List, [], ◌∷◌, ◌++◌, map, Option, Some, None, option_and_then}
use Rattle.std.specs.BTreeMap.{get}
use Rattle.std.specs.Ordering.{nat_cmp}
use Rattle.traces.specs.Events as trace
use Rattle.traces.specs.Invocations as told
use Rattle.traces.specs.Runs.{before}
use Rattle.group_items.specs.Events.{event_of, access_of}
use Rattle.group_items.specs.declared.event.Event.{Event}
use Rattle.group_items.specs.declared.event.Pause.{Pause}
use Rattle.group_items.specs.Sides.{Runs, Begun, bytes_in, behind_pause}
use Rattle.run_law.specs.Walks.{Walk}
use Rattle.step_run.specs.declared.told.Told.{Told}
use Rattle.step_run.specs.declared.row.Row.{Row}
use Rattle.step_run.specs.Answers.{answers_in}

-- what an invocation was told
abbrev pub told_by : Told → told.Invocation
told_by t = record {
  num_workgroups = t.groups;
  workgroup_id = t.group;
  local_invocation_id = t.own;
  global_invocation_id = t.place;
  local_invocation_index = t.index;
  buffer_bytes = bytes_in t.sizes.items;
  specialization = get nat_cmp t.special;
}

-- the events that were told, and those that were not yet
abbrev pub told_events : Row → List trace.Event
told_events r = map event_of r.told.items

abbrev pub untold_events : Row → List trace.Event
untold_events r = map event_of r.untold.items

-- what is asked of it
abbrev pub asked_by : Option Event → Option trace.Access
asked_by e = option_and_then (λ (e : Event). access_of (event_of e)) e

-- how far the invocation is
abbrev pub begun_of : Row → Begun
begun_of r = record { told = told_by r.inv; past = record { events = told_events r; answers = answers_in (told_events r) }; asked = asked_by r.asked }

-- what an invocation does from its start, and how many steps it may make
pub record Course : Type 0 where
  pub start : Walk
  pub steps : ℕ

-- it goes on from here as from its start, within its steps
abbrev pub IsGoing : Walk → ℕ → Row → Walk → Type 0
IsGoing start steps r here =
    (r.used ≤ steps)
    × ((answers_in (untold_events r) ≡ [])
    × ((more : List (List ℕ)) (n : ℕ) → start (answers_in (told_events r) ++ more) (r.used + n) ≡ before (told_events r ++ untold_events r) (here more n)))

-- an event more is told
pub record IsTold (old : Row) (e : trace.Event) (new : Row) : Type 0 where
  pub inv : new.inv ≡ old.inv
  pub used : new.used ≡ old.used
  pub asked : new.asked ≡ old.asked
  pub told : told_events new ≡ told_events old ++ e ∷ []
  pub untold : untold_events old ≡ e ∷ untold_events new

-- nothing has changed but room
pub record IsSame (old new : Row) : Type 0 where
  pub inv : new.inv ≡ old.inv
  pub used : new.used ≡ old.used
  pub asked : new.asked ≡ old.asked
  pub told : told_events new ≡ told_events old
  pub untold : untold_events new ≡ untold_events old

-- the first event that was not told is told, or there is none
abbrev pub IsTelling : Row → Row → Option Event → Type 0
IsTelling old new None = (untold_events old ≡ []) × IsSame old new
IsTelling old new (Some e) = IsTold old (event_of e) new

-- behind a pause, or a step that makes none
abbrev pub behind_step : Begun → Option Pause → Begun
behind_step b None = b
behind_step b (Some p) = behind_pause b p

-- what is done from the start in so many steps
abbrev pub runs_of : Walk → ℕ → Runs
runs_of start steps told answers = start answers steps

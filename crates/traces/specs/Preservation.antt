-- When the runs of a text preserve what a module does.
use Rattle.std.specs.Prelude.{◌≡◌, ◌≢◌, ◌⊎◌, ℕ, ◌+◌, ◌≤◌, List}
use Rattle.traces.specs.Events.{Event}
use Rattle.traces.specs.Runs.{Status, running, ended, waiting, undefined, Run, made}
use Rattle.traces.specs.Simulation.{IsPrefix}

-- how the run of a text ends: at its end, where a loop would begin a turn too many, in want of an answer, or without a meaning
pub data TextEnd : Type 0 where
  has_ended : TextEnd
  was_cut : TextEnd
  is_waiting : TextEnd
  is_stuck : TextEnd

pub record TextRun : Type 0 where
  pub events : List Event
  pub end : TextEnd

abbrev pub text_made : List Event → TextEnd → TextRun
text_made e end = record { events = e; end = end }

-- at some step the module has no meaning any more
pub record BecomesUndefined (of_module : ℕ → Run) : Type 0 where
  pub at : ℕ
  pub events : List Event
  pub is : of_module at ≡ made events undefined

-- the module goes on: it runs, or waits for an answer
abbrev pub IsUnderWay : Status → Type 0
IsUnderWay s = (s ≡ running) ⊎ (s ≡ waiting)

-- Of one invocation, by the number of the module's steps and the number of turns that each loop of the text may make. Where the module ends the text has ended with the same events; where the text has ended the module ends so; where the module is under way its events are the first of the text's; where it never loses its meaning the text is never stuck; and the text makes no event that the module does not make. All this up to the step at which the module's meaning is undefined.
pub record PreservesEvents (of_module : ℕ → Run) (of_text : ℕ → TextRun) : Type 0 where
  pub ends : (n : ℕ) (e : List Event) → of_module n ≡ made e ended → of_text (n + 1) ≡ text_made e has_ended
  pub ends_only : (k : ℕ) (e : List Event) → of_text k ≡ text_made e has_ended → ((n : ℕ) × (of_module n ≡ made e ended)) ⊎ BecomesUndefined of_module
  pub goes_on : (n : ℕ) (e : List Event) (s : Status) → IsUnderWay s → of_module n ≡ made e s → IsPrefix e (of_text (n + 1)).events
  pub never_stuck : (BecomesUndefined of_module → ⊥) → (k : ℕ) → (of_text k).end ≢ is_stuck
  pub makes_no_more : (k : ℕ) → ((n : ℕ) × IsPrefix (of_text k).events (of_module n).events) ⊎ BecomesUndefined of_module

-- With at most k turns a loop: the text has ended, waits or was cut, and the module does so too with the same events, having run k steps or more where the text was cut.
abbrev pub Matches : (ℕ → Run) → ℕ → List Event → TextEnd → Type 0
Matches of_module k e has_ended = (n : ℕ) × (of_module n ≡ made e ended)
Matches of_module k e is_waiting = (n : ℕ) × (of_module n ≡ made e waiting)
Matches of_module k e was_cut = (n : ℕ) × (k ≤ n) × (of_module n ≡ made e running)
Matches of_module k e is_stuck = ⊥

-- the module loses its meaning with no more than these events
pub record FailsWithin (of_module : ℕ → Run) (e : List Event) : Type 0 where
  pub at : ℕ
  pub events : List Event
  pub is : of_module at ≡ made events undefined
  pub no_more : IsPrefix events e

abbrev pub MatchesOrFails : (ℕ → Run) → ℕ → TextRun → Type 0
MatchesOrFails of_module k t = Matches of_module k t.events t.end ⊎ FailsWithin of_module t.events

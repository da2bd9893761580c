-- What statements and expressions come to: the events that they make, and how control goes on.
use Rattle.std.specs.Prelude.{ℕ, zero, suc, List, [], ◌++◌, Option, Some, None}
use Rattle.traces.specs.Events.{Event}

-- Of statements that change a state of type S and may give a result of type R: control goes on behind them; a `break`, a `continue` or a `return` was met; a loop was cut where a turn too many would begin; an access waits for its answer; there is no meaning.
pub data Outcome (S R : Type 0) : Type 0 where
  normal : List Event → S → Outcome S R
  breaks : List Event → S → Outcome S R
  continues : List Event → S → Outcome S R
  returns : List Event → R → S → Outcome S R
  cut : List Event → Outcome S R
  waits : List Event → Outcome S R
  stuck : List Event → Outcome S R

abbrev pub events_of : {S R : Type 0} → Outcome S R → List Event
events_of (normal e s) = e
events_of (breaks e s) = e
events_of (continues e s) = e
events_of (returns e v s) = e
events_of (cut e) = e
events_of (waits e) = e
events_of (stuck e) = e

-- with events that were made before
abbrev pub begun : {S R : Type 0} → List Event → Outcome S R → Outcome S R
begun d (normal e s) = normal (d ++ e) s
begun d (breaks e s) = breaks (d ++ e) s
begun d (continues e s) = continues (d ++ e) s
begun d (returns e v s) = returns (d ++ e) v s
begun d (cut e) = cut (d ++ e)
begun d (waits e) = waits (d ++ e)
begun d (stuck e) = stuck (d ++ e)

-- what stands behind is done where control goes on normally
abbrev pub then_do : {S R : Type 0} → Outcome S R → (S → Outcome S R) → Outcome S R
then_do (normal e s) f = begun e (f s)
then_do (breaks e s) f = breaks e s
then_do (continues e s) f = continues e s
then_do (returns e v s) f = returns e v s
then_do (cut e) f = cut e
then_do (waits e) f = waits e
then_do (stuck e) f = stuck e

-- a turn of a loop: the next one follows where this one ends or is continued
abbrev pub next_turn : {S R : Type 0} → Outcome S R → (S → Outcome S R) → Outcome S R
next_turn (normal e s) f = begun e (f s)
next_turn (breaks e s) f = normal e s
next_turn (continues e s) f = begun e (f s)
next_turn (returns e v s) f = returns e v s
next_turn (cut e) f = cut e
next_turn (waits e) f = waits e
next_turn (stuck e) f = stuck e

-- at most so many turns of this body
abbrev pub turns : {S R : Type 0} → ℕ → (S → Outcome S R) → S → Outcome S R
turns zero body s = cut []
turns (suc n) body s = next_turn (body s) (turns n body)

-- a `break` in a switch leaves the switch
abbrev pub behind_switch : {S R : Type 0} → Outcome S R → Outcome S R
behind_switch (breaks e s) = normal e s
behind_switch o = o

-- What an evaluation comes to: something, with the events that it made; or no more.
pub data Result (A : Type 0) : Type 0 where
  got : List Event → A → Result A
  cut : List Event → Result A
  waits : List Event → Result A
  stuck : List Event → Result A

abbrev pub with_before : {A : Type 0} → List Event → Result A → Result A
with_before d (got e a) = got (d ++ e) a
with_before d (cut e) = cut (d ++ e)
with_before d (waits e) = waits (d ++ e)
with_before d (stuck e) = stuck (d ++ e)

abbrev pub then_get : {A B : Type 0} → Result A → (A → Result B) → Result B
then_get (got e a) f = with_before e (f a)
then_get (cut e) f = cut e
then_get (waits e) f = waits e
then_get (stuck e) f = stuck e

abbrev pub or_stuck : {A B : Type 0} → Option A → (A → Result B) → Result B
or_stuck None f = stuck []
or_stuck (Some a) f = f a

-- statements that go on from an evaluation
abbrev pub on_got : {A S R : Type 0} → Result A → (A → Outcome S R) → Outcome S R
on_got (got e a) f = begun e (f a)
on_got (cut e) f = cut e
on_got (waits e) f = waits e
on_got (stuck e) f = stuck e

-- Machines that make events, and their runs.
use Rattle.std.specs.Prelude.{ℕ, zero, suc, List, [], ◌∷◌, ◌++◌, Option, Some, None}
use Rattle.traces.specs.Events.{Event, Access, event_of}

pub data Status : Type 0 where
  running : Status
  ended : Status
  waiting : Status
  undefined : Status

-- the events so far, and how it stands
pub record Run : Type 0 where
  pub events : List Event
  pub status : Status

abbrev pub made : List Event → Status → Run
made e s = record { events = e; status = s }

-- one step: on with these events, at an end, in want of an answer, or without a meaning
pub data Move (C : Type 0) : Type 0 where
  go : List Event → C → Move C
  stop : Move C
  wait : Move C
  wrong : Move C

-- a run with events that were made before it
abbrev pub before : List Event → Run → Run
before e r = made (e ++ r.events) r.status

abbrev pub after : {C : Type 0} → Move C → (C → Run) → Run
after (go e d) f = before e (f d)
after stop f = made [] ended
after wait f = made [] waiting
after wrong f = made [] undefined

-- the run of at most so many steps
abbrev pub exec : {C : Type 0} → (C → Move C) → ℕ → C → Run
exec step zero c = made [] running
exec step (suc n) c = after (step c) (exec step n)

-- What a machine does next that gets its words from outside: on with these events; an access, and what the answer's words lead to; at an end; without a meaning.
pub data Act (C : Type 0) : Type 0 where
  goes : List Event → C → Act C
  asks : Access → (List ℕ → C) → Act C
  stops : Act C
  fails : Act C

-- the machine with the answers that are left, each a list of words
pub record Supplied (C : Type 0) : Type 0 where
  pub at : C
  pub answers : List (List ℕ)

abbrev pub supplied : {C : Type 0} → C → List (List ℕ) → Supplied C
supplied c answers = record { at = c; answers = answers }

-- an access takes the next answer; it waits where none is left, or where that has another number of words
abbrev pub told : {C : Type 0} → Option Event → C → List (List ℕ) → Move (Supplied C)
told None c more = wait
told (Some e) c more = go (e ∷ []) (supplied c more)

abbrev pub answered : {C : Type 0} → Access → (List ℕ → C) → List (List ℕ) → Move (Supplied C)
answered a f [] = wait
answered a f (words ∷ more) = told (event_of a words) (f words) more

abbrev pub move : {C : Type 0} → Act C → List (List ℕ) → Move (Supplied C)
move (goes e c) answers = go e (supplied c answers)
move (asks a f) answers = answered a f answers
move stops answers = stop
move fails answers = wrong

abbrev pub step_of : {C : Type 0} → (C → Act C) → Supplied C → Move (Supplied C)
step_of act c = move (act c.at) c.answers

-- the run of at most so many steps, with these answers
abbrev pub run_of : {C : Type 0} → (C → Act C) → C → List (List ℕ) → ℕ → Run
run_of act c answers n = exec (step_of act) n (supplied c answers)

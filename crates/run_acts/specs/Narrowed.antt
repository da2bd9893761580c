-- Acts whose places have the numbers that the program has for them.
use Rattle.std.specs.Prelude.{ℕ, List, map}
use Rattle.traces.specs.Events.{Event, read, write, atomic, Access, reading, updating}
use Rattle.traces.specs.Runs.{Act, goes, asks, stops, fails}
use Rattle.memory_places.specs.Capped.{capped}

abbrev pub narrow_event : Event → Event
narrow_event (read at words) = read (map capped at) words
narrow_event (write at words) = write (map capped at) words
narrow_event (atomic o at operands found) = atomic o (capped at) operands found
narrow_event e = e

abbrev pub narrow_access : Access → Access
narrow_access (reading at) = reading (map capped at)
narrow_access (updating o at operands) = updating o (capped at) operands

abbrev pub narrowed : {C : Type 0} → Act C → Act C
narrowed (goes es c) = goes (map narrow_event es) c
narrowed (asks a f) = asks (narrow_access a) f
narrowed stops = stops
narrowed fails = fails

-- what the words of an answer lead to, where it asks for them
abbrev pub told_words : {C : Type 0} → Act C → List ℕ → C → C
told_words (asks a f) words c = f words
told_words _ words c = c

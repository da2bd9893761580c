-- Three numbers.
use Rattle.std.specs.Prelude.{ℕ, List, slice_index}
use Rattle.traces.specs.Invocations.{Triple}

-- the program's own three numbers
abbrev pub triple_of : List ℕ → Triple
triple_of sides = (slice_index sides 0, slice_index sides 1, slice_index sides 2)

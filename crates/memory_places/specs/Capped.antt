-- Locations by the numbers that the program has for them: bytes of 64 bits, variables of 32.
use Rattle.std.specs.Prelude.{ℕ, min}
use Rattle.traces.specs.Events.{Location, buffer, push, shared}

abbrev pub most_bytes : ℕ
most_bytes = 18446744073709551615

abbrev pub most_variables : ℕ
most_variables = 4294967295

-- the greatest number that the program has, where the number is greater
abbrev pub capped : Location → Location
capped (buffer set binding byte) = buffer set binding (min most_bytes byte)
capped (push byte) = push (min most_bytes byte)
capped (shared variable path) = shared (min most_variables variable) path

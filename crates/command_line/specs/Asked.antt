-- The bytes of the module on which a command works.
use Rattle.std.specs.Prelude.{ℕ, List, Option, Some, None}
use Rattle.spv_words.specs.Words.{octets_of}
use Rattle.module_gen.specs.Generated.{generated}
use Rattle.command_line.specs.State.{CommandState}

-- those that are generated, or what the source has left
abbrev pub bytes_by : Option ℕ → Option (List ℕ) → Option (List ℕ)
bytes_by (Some pieces) left = Some (octets_of (generated pieces))
bytes_by None left = left

abbrev pub bytes_of : CommandState → Option (List ℕ) → Option (List ℕ)
bytes_of command left = bytes_by command.pieces left

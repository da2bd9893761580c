-- The limits of a run: their names and their numbers.
use Rattle.std.specs.Prelude.{ℕ, List, codes}
use Rattle.command_line.specs.declared.endings.RunLimit.{RunLimit}
use Rattle.command_line.specs.declared.endings.RunLimit.TheVariants.{Invocations, Events}

-- the largest number that is taken
abbrev pub run_limit_number : RunLimit → ℕ
run_limit_number Invocations = 1024
run_limit_number Events = 1048576

abbrev pub run_limit_name : RunLimit → List ℕ
run_limit_name Invocations = codes "invocations"
run_limit_name Events = codes "events"

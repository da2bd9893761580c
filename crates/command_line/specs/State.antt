-- What contracts see of a command.
use Rattle.std.specs.Prelude.{ℕ, Bool, true, Option}
use Rattle.conformance.specs.Rules.{Options}
use Rattle.dispatch_case.specs.Cases.{CaseParts, parts_of, is_fine}
use Rattle.command_line.specs.declared.commands.Action.{Action}
use Rattle.command_line.specs.declared.commands.Action.TheVariants.{Glsl, Check, Report, Summary, Run}

-- what is done with a module: its text is printed, it is judged, the report on it is written, its text is summed up; or a case is run on it
pub data Task : Type 0 where
  prints : Task
  judges : Task
  reports : Task
  sums : Task
  runs : CaseParts → Task

abbrev pub task_of : Action → Task
task_of Glsl = prints
task_of Check = judges
task_of Report = reports
task_of Summary = sums
task_of (Run c) = runs (parts_of c)

-- a case that is run keeps its bounds
abbrev pub is_allowed : Task → Bool
is_allowed (runs c) = is_fine c
is_allowed _ = true

-- a task on the input, or on the module that is generated of so many pieces
pub record CommandState : Type 0 where
  pub task : Task
  pub pieces : Option ℕ
  pub options : Options

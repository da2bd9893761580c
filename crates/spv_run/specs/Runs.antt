-- The run of a module as the program has it, whose places have the numbers that the program has for them.
use Rattle.std.specs.Prelude.{ℕ, ◌≡◌, [], Option, Some, None}
use Rattle.traces.specs.Invocations.{Invocation}
use Rattle.traces.specs.Runs.{Act, made, undefined, run_of}
use Rattle.run_law.specs.Walks.{Walk}
use Rattle.profile_rules.specs.Constants.{constants}
use Rattle.constant_values.specs.Held.{value_among}
use Rattle.module_semantics.specs.Setting.{Setting}
use Rattle.module_semantics.specs.State.{Conf}
use Rattle.module_semantics.specs.Steps.{act}
use Rattle.module_semantics.specs.Run.{start}
use Rattle.memory_places.specs.Kernel.{Kernel, setting_for}
use Rattle.run_acts.specs.Narrowed.{narrowed}

-- the specializations under which the constants of the definition have these values
abbrev pub Takes : Kernel → (ℕ → Option ℕ) → Type 0
Takes k special = (id : ℕ) → constants k.of [] special id ≡ value_among k.values id

abbrev pub act_by : Setting → Conf → Act Conf
act_by s c = narrowed (act s c)

abbrev pub walk_by : Setting → Option Conf → Walk
walk_by s None answers n = made [] undefined
walk_by s (Some c) answers n = run_of (act_by s) c answers n

-- the run of an invocation that is told this, within so many steps, with these answers
abbrev pub walk : Kernel → Invocation → Walk
walk k told = walk_by (setting_for k told) (start (setting_for k told))

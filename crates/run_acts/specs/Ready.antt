-- A state that can be told the words for which a step asks.
use Rattle.std.specs.Prelude.{◌≡◌, Option}
use Rattle.traces.specs.Events.{Access}
use Rattle.group_items.specs.Events.{event_of, access_of}
use Rattle.step_run.specs.declared.program.Step.{Step}
use Rattle.step_run.specs.declared.program.Step.TheVariants.{Asks}

abbrev pub IsReady : Option Access → Step → Type 0
IsReady asks (Asks e) = access_of (event_of e) ≡ asks
IsReady asks _ = Unit {0}

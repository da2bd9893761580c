-- What barriers do.
use Rattle.std.specs.Prelude.{ℕ, ◌++◌, List, [], ◌∷◌}
use Rattle.spv_module.specs.declared.inst.Inst.{Inst}
use Rattle.traces.specs.Events.{Event, control_barrier}
use Rattle.traces.specs.Runs.{Act}
use Rattle.module_semantics.specs.Setting.{Setting}
use Rattle.module_semantics.specs.State.{Conf}
use Rattle.module_semantics.specs.Steps.{memory_barriers, memory_barrier_step, control_barrier_step}
use Rattle.run_memory.specs.declared.barriers.Barrier.{Barrier}
use Rattle.run_memory.specs.declared.barriers.Barrier.TheVariants.{Memory, Control}

-- which operand has the semantics
abbrev pub semantics_place : Barrier → ℕ
semantics_place Memory = 1
semantics_place Control = 2

-- the events of a barrier with these semantics
abbrev pub barrier_events : Barrier → ℕ → List Event
barrier_events Memory w = memory_barriers w
barrier_events Control w = memory_barriers w ++ control_barrier ∷ []

-- what a barrier does
abbrev pub barrier_by : Barrier → Setting → Conf → List Inst → Inst → Act Conf
barrier_by Memory s c rest i = memory_barrier_step s c rest i
barrier_by Control s c rest i = control_barrier_step s c rest i

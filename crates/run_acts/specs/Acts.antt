-- What a step of the program's own does.
use Rattle.std.specs.Prelude.{◌≡◌, ℕ, List, [], map, Some}
use Rattle.spv_module.specs.declared.inst.Inst.{Inst}
use Rattle.traces.specs.Events as trace
use Rattle.traces.specs.Runs.{Act, goes, asks, stops, fails}
use Rattle.group_items.specs.Events.{event_of, access_of}
use Rattle.step_run.specs.Answers.{answers_in}
use Rattle.step_run.specs.declared.program.Step.{Step}
use Rattle.step_run.specs.declared.program.Step.TheVariants.{Moves, Makes, Asks, Stops, Fails}
use Rattle.module_semantics.specs.Setting.{Setting}
use Rattle.module_semantics.specs.State.{Conf}
use Rattle.memory_places.specs.Kernel.{Kernel}
use Rattle.run_state.specs.declared.conf.Conf as own
use Rattle.run_state.specs.Confs.{conf_of, behind}
use Rattle.run_acts.specs.Narrowed.{narrowed}

-- the act of the old state is this step, which leads to the new one; one that asks leaves the state where it stands
abbrev pub IsAct : Act Conf → Conf → Conf → Step → Type 0
IsAct a old new Moves = a ≡ goes [] new
IsAct a old new (Makes es) = (a ≡ goes (map event_of es.items) new) × (answers_in (map event_of es.items) ≡ [])
IsAct a old new (Asks e) = (access : trace.Access) × ((f : List ℕ → Conf) × ((a ≡ asks access f) × ((access_of (event_of e) ≡ Some access) × (new ≡ old))))
IsAct a old new Stops = (a ≡ stops) × (new ≡ old)
IsAct a old new Fails = (a ≡ fails) × (new ≡ old)

-- the same of the program's own states, for what the definition says of an instruction in a setting
abbrev pub IsStepOf : (Setting → Conf → List Inst → Inst → Act Conf) → Setting → own.Conf → own.Conf → Inst → Step → Type 0
IsStepOf act s old new i step = IsAct (narrowed (act s (conf_of s.of.functions old) (behind s.of.functions old) i)) (conf_of s.of.functions old) (conf_of s.of.functions new) step

-- nothing has changed but room
abbrev pub IsStill : Kernel → own.Conf → own.Conf → Type 0
IsStill k old new = conf_of k.of.functions new ≡ conf_of k.of.functions old

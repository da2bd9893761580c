-- What a run of a case says.
use Rattle.std.specs.Prelude.{ℕ, ◌≡◌, ◌<◌, ◌≤◌, ◌*◌, List, Option, length}
use Rattle.traces.specs.Events.{Event}
use Rattle.traces.specs.Invocations.{Triple, Invocation}
use Rattle.dispatch_semantics.specs.Grid.{product}
use Rattle.dispatch_semantics.specs.Store.{Store}
use Rattle.group_items.specs.Events.{weight_of}
use Rattle.group_items.specs.Schedule.{Comes, IsTooMuch, most_weight}
use Rattle.group_items.specs.Sides.{Runs}
use Rattle.group_items.specs.declared.schedule.End.{End}
use Rattle.group_items.specs.declared.schedule.End.TheVariants.{Ended}
use Rattle.dispatch_case.specs.Cases.{CaseParts}
use Rattle.group_sched.specs.Start.{setup_of, first_store}
use Rattle.run_law.specs.Walks.{Walk}
use Rattle.run_lines.specs.Lines.{AreLines}

-- there is no invocation in a workgroup of this size
abbrev pub IsNobody : Triple → Type 0
IsNobody size = product size ≡ 0

-- the lines of a case where no invocation does anything
abbrev pub AreIdleLines : CaseParts → List ℕ → Type 0
AreIdleLines c text = AreLines c.buffers (first_store c) 0 Ended text

-- a dispatch of a case with workgroups of this size has more invocations than are run
abbrev pub IsCrowded : CaseParts → Triple → Type 0
IsCrowded c size = 1024 < product c.groups * product size

-- its items, by its schedule, make more than is kept
abbrev pub IsHeavy : CaseParts → Triple → (ℕ → Option ℕ) → Runs → Type 0
IsHeavy c size special runs = IsTooMuch (setup_of c size special) runs c.first

-- The text is the lines of what the dispatch of a case comes to, for workgroups of this size, under this specialization, whose invocations run so; neither its invocations nor its events are too many.
pub record IsSaid (c : CaseParts) (size : Triple) (special : ℕ → Option ℕ) (runs : Runs) (text : List ℕ) : Type 0 where
  pub events : List (ℕ × Event)
  pub store : Store
  pub end : End
  pub comes : Comes (setup_of c size special) runs c.first events store end
  pub few : product c.groups * product size ≤ 1024
  pub light : weight_of events ≤ most_weight
  pub lines : AreLines c.buffers store (length events) end text

-- what invocations do within so many steps
abbrev pub walks : (Invocation → Walk) → ℕ → Runs
walks walk steps told answers = walk told answers steps

use Rattle.std.proofs.Common.{◌≡◌, ◌<◌, ℕ}
use Rattle.dispatch_semantics.specs.Grid.{invocation}
use Rattle.group_items.specs.Sides.{fresh}
use Rattle.group_sched.proofs.start.begin_all.Given as goal

abbrev pub ghost-built_ins : goal.ghost-built_ins
ghost-built_ins g a = g.grid

abbrev pub ghost-begin_one : goal.ghost-begin_one
ghost-begin_one g a = invocation g.grid (g.R.Runner.count a.side.now)

abbrev pub invariant-loop-who : goal.invariant-loop-who
invariant-loop-who g l = record {
  counted : g.R.Runner.count l.side ≡ l.who;
  begun : (i : ℕ) → i < l.who → g.R.Runner.at l.side i ≡ fresh (invocation g.grid i);
  runs : g.R.Runner.runs l.side ≡ g.R.Runner.runs l.initial.side;
  takes : g.R.Runner.takes l.side g.grid.specialization;
  sizes : l.inv.sizes ≡ l.initial.inv.sizes;
  special : l.inv.special ≡ l.initial.inv.special;
}

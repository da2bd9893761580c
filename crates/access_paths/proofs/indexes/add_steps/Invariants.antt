use Rattle.std.proofs.Common.{◌≡◌, ◌++◌, drop}
use Rattle.access_paths.specs.Ways.{steps_from}
use Rattle.access_paths.specs.Links.{spot, link_steps}
use Rattle.access_paths.proofs.indexes.add_steps.Given as goal

abbrev pub invariant-loop-number : goal.invariant-loop-number
invariant-loop-number l = l.steps.items ++ steps_from l.module.globals (spot l.printed l.link) l.number l.ty (drop l.number l.index-items) ≡ l.initial.steps.items ++ link_steps l.module.globals l.printed l.link

use Rattle.std.proofs.Common.{◌+◌, ◌-◌, ◌*◌}
use Rattle.std.specs.BTreeSet.{btree_set_len}
use Rattle.phi_copies.specs.Listed.{IsWork}
use Rattle.phi_copies.proofs.work.Work.list.Given as goal

abbrev pub invariant-loop-first : goal.invariant-loop-first
invariant-loop-first l = IsWork l.pairs l.self

abbrev pub decreases-loop-first : goal.decreases-loop-first
decreases-loop-first l = 2 * btree_set_len l.self.left + (1 - btree_set_len l.self.ready)

use Rattle.std.specs.BTreeMap.{get}
use Rattle.std.specs.Ordering.{nat_cmp}
use Rattle.dispatch_case.specs.Three.{triple_of}
use Rattle.dispatch_case.specs.Cases.{parts_of}
use Rattle.group_sched.specs.Start.{setup_of}
use Rattle.group_sched.proofs.whole.dispatch.Given as goal

abbrev pub ghost-run : goal.ghost-run
ghost-run g a = setup_of (parts_of a.case.now) (triple_of a.size) (get nat_cmp a.special)

use Rattle.std.specs.BTreeMap.{get}
use Rattle.std.specs.Ordering.{nat_cmp}
use Rattle.dispatch_case.specs.Three.{triple_of}
use Rattle.group_items.specs.Sides.{bytes_in}
use Rattle.group_sched.proofs.start.begin.Given as goal

abbrev pub ghost-begin_all : goal.ghost-begin_all
ghost-begin_all g a = record { groups = triple_of a.groups; size = triple_of a.size; buffer_bytes = bytes_in a.inv.now.sizes.items; specialization = get nat_cmp a.inv.now.special }

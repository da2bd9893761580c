use Rattle.std.proofs.Common.{◌≡◌, take}
use Rattle.group_items.specs.Schedule.{among}
use Rattle.group_items.proofs.items.naming.Given as goal

abbrev pub invariant-loop-item : goal.invariant-loop-item
invariant-loop-item l = l.list.items ≡ among l.count (take l.item-index l.items)

use Rattle.std.proofs.Common.{take}
use Rattle.std.specs.BTreeMap.{get}
use Rattle.std.specs.Ordering.{nat_cmp}
use Rattle.type_rules.specs.Indexed.{AreImports}
use Rattle.type_rules.proofs.index.imports_of.Given as goal

abbrev pub invariant-loop-head : goal.invariant-loop-head
invariant-loop-head l = AreImports (take l.head-index l.heads) (get nat_cmp l.imports)

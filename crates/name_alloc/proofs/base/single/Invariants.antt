use Rattle.std.proofs.Common.{◌≡◌, ◌++◌, false, map, drop}
use Rattle.name_alloc.specs.Base.{worded, single}
use Rattle.name_alloc.proofs.base.single.Given as goal

abbrev pub invariant-loop-byte : goal.invariant-loop-byte
invariant-loop-byte l = l.kept.items ++ single l.after (map worded (drop l.byte-index l.given)) ≡ single false (map worded l.given)

use Rattle.std.proofs.Common.{◌≡◌, ◌++◌, map, drop}
use Rattle.std.specs.List.{enumerate_from}
use Rattle.text_items.specs.Claimed.{claim_member}
use Rattle.text_items.proofs.list.ClaimList.claim_each.Given as goal

abbrev pub invariant-loop-k : goal.invariant-loop-k
invariant-loop-k l = l.self ++ map (claim_member l.written.source l.inst) (enumerate_from l.k (drop l.k l.types)) ≡ l.initial.self ++ map (claim_member l.written.source l.inst) (enumerate_from 0 l.types)

use Rattle.std.proofs.Common.{◌≡◌, ◌++◌, map, take}
use Rattle.text_items.specs.Claimed.{claim_index}
use Rattle.text_items.proofs.list.ClaimList.claim_captured.Given as goal

abbrev pub invariant-loop-number : goal.invariant-loop-number
invariant-loop-number g l = l.self ≡ l.initial.self ++ map (claim_index l.inst) (take l.number-index l.number-items)

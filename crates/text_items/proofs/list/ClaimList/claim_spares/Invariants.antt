use Rattle.std.proofs.Common.{◌≡◌, ◌++◌, map}
use Rattle.std.specs.List.{range_with_len}
use Rattle.text_items.specs.Claimed.{claim_spare}
use Rattle.text_items.proofs.list.ClaimList.claim_spares.Given as goal

abbrev pub invariant-loop-number : goal.invariant-loop-number
invariant-loop-number g l = l.self ≡ l.initial.self ++ map (claim_spare l.source l.target) (range_with_len 0 l.number)

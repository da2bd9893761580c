use Rattle.std.proofs.Common.{◌≡◌, ◌++◌, take}
use Rattle.std.specs.List.{flat_map}
use Rattle.text_rules.specs.Claims.{claim_global}
use Rattle.text_items.proofs.list.ClaimList.claim_globals.Given as goal

abbrev pub invariant-loop-inst : goal.invariant-loop-inst
invariant-loop-inst l = l.self ≡ l.initial.self ++ flat_map (claim_global l.written.source l.written.reached) (take l.inst-index l.inst-items)

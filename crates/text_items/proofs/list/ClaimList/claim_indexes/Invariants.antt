use Rattle.std.proofs.Common.{◌≡◌, ◌++◌, take}
use Rattle.std.specs.List.{flat_map}
use Rattle.text_rules.specs.Claims.{claim_captured}
use Rattle.text_items.proofs.list.ClaimList.claim_indexes.Given as goal

abbrev pub invariant-loop-inst : goal.invariant-loop-inst
invariant-loop-inst g l = l.self ≡ l.initial.self ++ flat_map (claim_captured (g.P.FunctionClaims.plan l.plan)) (take l.inst-index l.insts)

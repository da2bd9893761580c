use Rattle.std.proofs.Common.{◌≡◌, ◌++◌, map, take}
use Rattle.std.specs.List.{flat_map}
use Rattle.text_items.specs.Claimed.{claim_flows}
use Rattle.text_items.proofs.list.ClaimList.claim_all_flows.Given as goal

abbrev pub invariant-loop-plan : goal.invariant-loop-plan
invariant-loop-plan g l = l.self ≡ l.initial.self ++ flat_map claim_flows (map g.P.FunctionClaims.plan (take l.plan-index l.plans))

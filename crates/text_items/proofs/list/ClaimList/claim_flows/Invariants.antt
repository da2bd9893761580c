use Rattle.std.proofs.Common.{◌≡◌, ◌++◌, drop}
use Rattle.std.specs.List.{flat_map, enumerate_from}
use Rattle.text_rules.specs.Claims.{claim_flow}
use Rattle.text_items.proofs.list.ClaimList.claim_flows.Given as goal

abbrev pub invariant-loop-index : goal.invariant-loop-index
invariant-loop-index g l = l.self ++ flat_map (claim_flow (g.P.FunctionClaims.plan l.plan)) (enumerate_from l.index (drop l.index l.blocks)) ≡ l.initial.self ++ flat_map (claim_flow (g.P.FunctionClaims.plan l.plan)) (enumerate_from 0 l.blocks)

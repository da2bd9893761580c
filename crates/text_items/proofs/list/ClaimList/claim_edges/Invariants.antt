use Rattle.std.proofs.Common.{◌≡◌, ◌++◌, take}
use Rattle.std.specs.List.{flat_map}
use Rattle.text_rules.specs.Claims.{claim_spares}
use Rattle.text_items.proofs.list.ClaimList.claim_edges.Given as goal

abbrev pub invariant-loop-target : goal.invariant-loop-target
invariant-loop-target g l = l.self ≡ l.initial.self ++ flat_map (claim_spares (g.P.FunctionClaims.plan l.plan) l.from) (take l.target-index l.targets)

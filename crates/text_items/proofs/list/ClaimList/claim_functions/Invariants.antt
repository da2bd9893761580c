use Rattle.std.proofs.Common.{◌≡◌, ◌++◌, map, take}
use Rattle.std.specs.List.{flat_map}
use Rattle.text_rules.specs.Claims.{claim_function}
use Rattle.text_items.proofs.list.ClaimList.claim_functions.Given as goal

abbrev pub invariant-loop-plan : goal.invariant-loop-plan
invariant-loop-plan g l = l.self ≡ l.initial.self ++ flat_map (claim_function l.written.source) (map g.P.FunctionClaims.plan (take l.plan-index l.plans))

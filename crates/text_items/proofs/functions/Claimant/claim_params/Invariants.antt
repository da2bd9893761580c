use Rattle.std.proofs.Common.{◌≡◌, ◌++◌, take}
use Rattle.std.specs.List.{flat_map}
use Rattle.text_items.specs.Claimed.{claim_param}
use Rattle.text_items.proofs.functions.Claimant.claim_params.Given as goal

abbrev pub invariant-loop-id : goal.invariant-loop-id
invariant-loop-id g l = l.claims ≡ l.initial.claims ++ flat_map (claim_param l.self.written.now.source) (take l.id-index l.params)

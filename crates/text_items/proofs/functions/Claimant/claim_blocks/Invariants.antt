use Rattle.std.proofs.Common.{◌≡◌, ◌++◌, take}
use Rattle.std.specs.List.{flat_map}
use Rattle.text_items.specs.Claimed.{claim_result}
use Rattle.text_items.proofs.functions.Claimant.claim_blocks.Given as goal

abbrev pub invariant-loop-block : goal.invariant-loop-block
invariant-loop-block g l = l.claims ≡ l.initial.claims ++ flat_map (claim_result l.self.written.now.source (g.P.FunctionClaims.plan l.self.plan.now)) (flat_map (λ b. b.insts) (take l.block-index l.blocks))

use Rattle.std.proofs.Common.{◌++◌, map, get_or, refl, arith}
use Rattle.std.specs.List.{enumerate_from}
use Rattle.text_items.specs.Claimed.{claim_member}
use Rattle.text_items.proofs.Joined.{member_more}
use Rattle.text_items.proofs.list.ClaimList.claim_each.Goals as goal

pub loop-k-preserved : goal.loop-k-preserved
loop-k-preserved c =
    member_more (claim_member c.args.written.now.source c.args.inst.now) c.claim_member.new.self c.loop-k.self (c.args.self.now ++ map (claim_member c.args.written.now.source c.args.inst.now) (enumerate_from 0 c.args.types.now)) c.loop-k.k c.args.types.now 0 (claim_member c.args.written.now.source c.args.inst.now (c.loop-k.k, get_or c.args.types.now c.loop-k.k 0)) (omega arith) c.in_ok-claim_member.ensures refl c.loop-k.invariant

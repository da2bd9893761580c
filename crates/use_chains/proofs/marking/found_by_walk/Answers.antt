use Rattle.std.proofs.Common.{arith}
use Rattle.use_chains.specs.Marking.{has_id}
use Rattle.use_chains.proofs.Marks.{live_all}
use Rattle.use_chains.proofs.marking.found_by_walk.Goals as goal

pub loop-k-preserved : goal.loop-k-preserved
loop-k-preserved c = (
  c.in_ok-pass.ensures.marked,
  c.in_ok-pass.ensures.passed c.if-not-branch.false (λ j from inside off. c.loop-k.invariant.1 j (omega (arith, from)) inside off),
)

pub returns : goal.returns
returns c = live_all c.args.slots.now c.loop-k.marked.slots.items (has_id c.loop-k.marked) c.loop-k.invariant.0 (λ k inside off. (c.loop-k.invariant.1 k (omega arith) inside off).0)

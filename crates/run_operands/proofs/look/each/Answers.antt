use Rattle.std.proofs.Common.{◌≡◌, ◌+◌, ◌<◌, ◌++◌, [], ◌∷◌, arith, length, slice_index, take}
use Rattle.std.proofs.lemmas.List.{take_more}
use Rattle.run_operands.proofs.Founds.{one_more}
use Rattle.run_operands.proofs.look.each.Given as given
use Rattle.run_operands.proofs.look.each.Goals as goal

pub loop-id-preserved : goal.loop-id-preserved
loop-id-preserved g c =
    let inside : c.loop-id.id-index < length c.args.list.now = omega (arith, c.loop-id-test.true) in
    let taken : take (c.loop-id.id-index + 1) c.args.list.now ≡ take c.loop-id.id-index c.args.list.now ++ slice_index c.args.list.now c.loop-id.id-index ∷ [] = take_more c.args.list.now c.loop-id.id-index 0 inside in
    rw (taken, c.in_ok-push-in-Some.ensures.items) (one_more (given.F-post g c.args.find) (take c.loop-id.id-index c.args.list.now) c.loop-id.all.items (slice_index c.args.list.now c.loop-id.id-index) c.in-Some.found c.loop-id.invariant c.in-Some.ensures)

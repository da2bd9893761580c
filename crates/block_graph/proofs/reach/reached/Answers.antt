use Rattle.std.proofs.Common.{◌≡◌, ◌++◌, ◌∷◌, [], ◌∙◌, ap, false, replicate, length, arith, rules}
use Rattle.std.proofs.lemmas.Bool.Decides.{nat_tests}
use Rattle.block_graph.proofs.Search.{search_begun, search_end, closed_end}
use Rattle.block_graph.proofs.reach.reached.Goals as goal

pub loop-place-init : goal.loop-place-init
loop-place-init c =
    let free : c.in_ok-marks.marks.items ≡ replicate (length c.args.nodes.now) false = search rules in
    search_begun c.args.nodes.now _ _ free (c.in_ok-push.ensures.items ∙ ap (λ xs. xs ++ 0 ∷ []) c.in_ok-order.ensures.items) (grind (arith, nat_tests))

pub returns : goal.returns
returns c = record {
  marks = search_end _ _ _ c.loop-place.place c.loop-place.invariant (omega arith);
  closed = closed_end _ _ _ c.loop-place.place c.loop-place.invariant (omega arith);
}

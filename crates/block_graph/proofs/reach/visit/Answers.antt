use Rattle.std.proofs.Common.{◌≡◌, ◌<◌, ℕ, false, length, get_or, sym, ◌∙◌, arith}
use Rattle.std.proofs.lemmas.List.{get_or_read}
use Rattle.structure_rules.specs.Graph.{nth}
use Rattle.block_graph.proofs.Search.{visit_end, visit_past, visit_push, visited_targets}
use Rattle.block_graph.proofs.reach.visit.Goals as goal
use Rattle.block_graph.proofs.reach.visit.Goals.{then-target-len+then-not-index+in_ok-push, else-target-len, else-target-len-via-then-target-len+else-not-index, else-target-len-via-else-target-len}

pub loop-target-preserved : goal.loop-target-preserved
loop-target-preserved c =
    let own : c.as_slice-target-items.result.now ≡ (nth c.args.nodes.now c.index-block.result.now).targets = visited_targets _ _ _ _ _ _ _ c.index-nodes-block.result c.loop-target.invariant c.as_slice-target-items.ensures in
    let t : ℕ = get_or c.as_slice-target-items.result.now c.loop-target.target-index 0 in
    elim c.if-target-len.branch [
      | then-target-len+then-not-index+in_ok-push w ↦
          let within : t < length c.loop-target.marks.items = omega arith in
          let free : get_or c.loop-target.marks.items t false ≡ false = sym (get_or_read c.loop-target.marks.items t w.index.result.now within w.index.ensures false) ∙ w.if-not-index.true in
          rw (w.marks-is, w.order-is, w.in_ok-push.ensures.items) (visit_push _ c.loop-target.marks.items c.loop-target.order.items _ _ c.as_slice-target-items.result.now c.loop-target.target-index c.loop-target.invariant c.loop-target-test.true own within free)
      | else-target-len w ↦ rw (w.marks-is, w.order-is) (visit_past _ c.loop-target.marks.items c.loop-target.order.items _ _ c.as_slice-target-items.result.now c.loop-target.target-index c.loop-target.invariant
          (λ inside. elim w.else-target-len.branch [
            | else-target-len-via-then-target-len+else-not-index v ↦
                let within : t < length c.loop-target.marks.items = omega arith in
                sym (get_or_read c.loop-target.marks.items t v.index.result.now within v.index.ensures false) ∙ v.if-not-index.false
            | else-target-len-via-else-target-len v ↦ absurd (omega (arith, inside, c.loop-target.invariant.search.sized))
          ]))
    ]

pub returns : goal.returns
returns c =
    let own : c.as_slice-target-items.result.now ≡ (nth c.args.nodes.now c.index-block.result.now).targets = visited_targets _ _ _ _ _ _ _ c.index-nodes-block.result c.loop-target.invariant c.as_slice-target-items.ensures in
    visit_end _ _ _ _ _ c.as_slice-target-items.result.now c.loop-target.target-index c.loop-target.invariant c.loop-target-test.false own

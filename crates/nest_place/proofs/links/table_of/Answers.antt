use Rattle.std.proofs.Common.{◌≡◌, ◌<◌, ℕ, Some, None, length, get_or, ap, sym, ◌∙◌, arith, rules}
use Rattle.std.proofs.lemmas.List.{get_or_default}
use Rattle.nest_place.proofs.LinkLemmas.{gathered_new, gathered_old, clash_at}
use Rattle.nest_place.proofs.links.table_of.Goals as goal
use Rattle.nest_place.proofs.links.table_of.Goals.{in-None, in-Some}

pub returns-in-Some-2-clause-clash : goal.returns-in-Some-2-clause-clash
returns-in-Some-2-clause-clash c =
    let key : ℕ = (get_or c.args.links.now c.loop-block.block-index (0, 0)).0 in
    let within : key < c.args.count = c.requires c.loop-block.block-index c.loop-block-test.true in
    let room : key < length c.loop-block.table.items = omega (arith, within, c.loop-block.invariant.sized) in
    let some : c.index.result.now ≡ Some c.in-Some-2.first = cc in
    let taken : get_or c.loop-block.table.items key None ≡ Some c.in-Some-2.first = get_or_default c.loop-block.table.items key None c.index.result.now room ∙ sym c.index.ensures ∙ some in
    clash_at c.args.links.now c.loop-block.block-index c.args.count c.loop-block.table.items (0, 0) c.loop-block-test.true c.loop-block.invariant c.in-Some-2.first taken (λ e. search rules)

pub loop-block-preserved : goal.loop-block-preserved
loop-block-preserved c =
    let key : ℕ = (get_or c.args.links.now c.loop-block.block-index (0, 0)).0 in
    let within : key < c.args.count = c.requires c.loop-block.block-index c.loop-block-test.true in
    let room : key < length c.loop-block.table.items = omega (arith, within, c.loop-block.invariant.sized) in
    let read : get_or c.loop-block.table.items key None ≡ c.index.result.now = get_or_default c.loop-block.table.items key None c.index.result.now room ∙ sym c.index.ensures in
    elim c.match-index.branch [
      | in-None w ↦ rw w.table-is (gathered_new c.args.links.now c.loop-block.block-index c.args.count c.loop-block.table.items (0, 0) c.loop-block-test.true c.loop-block.invariant within (read ∙ w.in-None.is))
      | in-Some w ↦
          let same : w.in-Some.first ≡ (get_or c.args.links.now c.loop-block.block-index (0, 0)).1 = search rules in
          rw w.table-is (gathered_old c.args.links.now c.loop-block.block-index c.args.count c.loop-block.table.items (0, 0) c.loop-block-test.true c.loop-block.invariant (read ∙ w.in-Some.is ∙ ap (λ q. Some q) same))
    ]

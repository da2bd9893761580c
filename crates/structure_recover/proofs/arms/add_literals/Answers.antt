use Rattle.std.proofs.Common.{◌≡◌, ◌∷◌, ◌+◌, suc, get_or, drop, sym, ap, arith, ◌∙◌}
use Rattle.std.proofs.Math.Seq.{drop-cons}
use Rattle.std.specs.List.{zip}
use Rattle.structure_recover.specs.Follows.{firsts}
use Rattle.structure_recover.proofs.Labelled.{cases_end, cases_more}
use Rattle.structure_recover.proofs.arms.add_literals.Goals as goal

pub returns-in-None : goal.returns-in-None
returns-in-None c = cases_end (zip c.args.targets.now (firsts c.args.cases.now)) (drop c.loop-target.target-index c.args.targets.now) c.loop-target.rest.now c.args.arms.now.items c.loop-target.arms.items c.loop-target.invariant (sym c.in-None.ensures)

pub loop-target-preserved : goal.loop-target-preserved
loop-target-preserved c =
    let ts = c.args.targets.now in
    let i = c.loop-target.target-index in
    cases_more (zip ts (firsts c.args.cases.now)) (drop i ts) (drop (i + 1) ts) c.loop-target.rest.now c.later_cases-rest.result.now (get_or ts i 0) c.in-Some.literal c.args.arms.now.items c.loop-target.arms.items c.add_literal.new.arms.items
    c.loop-target.invariant (drop-cons ts i 0 c.loop-target-test.true ∙ ap (λ n. get_or ts i 0 ∷ drop n ts) (let e : suc i ≡ i + 1 = omega arith in e)) (sym c.in-Some.ensures) c.later_cases-rest.ensures c.in_ok-add_literal-in-Some.ensures

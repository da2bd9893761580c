use Rattle.std.proofs.Common.{◌≡◌, ◌∙◌, List, ap, arith, map}
use Rattle.std.specs.Prelude.{unwrap_or}
use Rattle.hoist_plan.specs.declared.form.Form.TheVariants.{Gone}
use Rattle.hoist_plan.specs.Plan.{Known, Placed, carried_from}
use Rattle.hoist_plan.specs.Kept.{chains_of, placed_chain}
use Rattle.hoist_plan.proofs.Bound.{bounded}
use Rattle.hoist_plan.proofs.Passes.{chains_carried}
use Rattle.hoist_plan.proofs.naming.plan.Goals as goal

pub returns-clause-forms : goal.returns-clause-forms
returns-clause-forms g c = λ id. ap (λ (k : Known). unwrap_or (k.forms id) Gone) c.in_ok-forms.ensures.known

pub returns-clause-carried : goal.returns-clause-carried
returns-clause-carried g c =
    let all : map placed_chain c.deref.result.now ≡ chains_of c.args.uses.now c.args.locals.now = rw c.deref.ensures.value c.in_ok-forms.ensures.chains in
    λ id. c.in_ok-carried.ensures id ∙ (ap (λ (ps : List Placed). carried_from c.args.locals.now ps id) all ∙ chains_carried c.args.uses.now c.args.locals.now id)

pub returns-clause-bound : goal.returns-clause-bound
returns-clause-bound g c = λ distinct.
    let most = bounded c.args.uses.now c.args.locals.now distinct in
    omega (arith, most, c.in_ok-forms.ensures.steps)

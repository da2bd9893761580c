use Rattle.std.proofs.Common.{◌∙◌, ap, sym}
use Rattle.spv_module.specs.declared.inst.Function.{Function}
use Rattle.unit_text.specs.Reached.{is_among}
use Rattle.unit_text.proofs.Placing.{planned_next}
use Rattle.unit_text.proofs.plans.add_next.Goals as goal

pub returns-in_ok-push-in-Some-clause-plans : goal.returns-in_ok-push-in-Some-clause-plans
returns-in_ok-push-in-Some-clause-plans g c =
    let passes = sym (ap (λ (f : Function). is_among c.args.ids.now f) c.function.ensures) ∙ (sym c.has.ensures ∙ c.if-has.true) in
    planned_next c.args.«module».now (is_among c.args.ids.now) c.args.locals c.args.plans.now.items c.push.new.self.items c.in_ok-plan-in-Some.plan passes c.in_ok-push-in-Some.ensures.items c.in_ok-plan-in-Some.ensures

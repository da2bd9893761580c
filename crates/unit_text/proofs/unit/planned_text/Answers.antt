use Rattle.std.proofs.Common.{List, subst}
use Rattle.std.proofs.lemmas.Result.{MatchResult-weaker}
use Rattle.std.specs.List.{AllZip}
use Rattle.spv_module.specs.State.{ModuleState}
use Rattle.spv_module.specs.declared.inst.Id.{Id}
use Rattle.spv_module.specs.declared.inst.Function.{Function}
use Rattle.glsl_ast.specs.View.{unit_of}
use Rattle.function_plan.specs.Plans.{IsPlanned}
use Rattle.unit_text.specs.Reached.{IsWritten}
use Rattle.unit_rules.specs.Unit.{called}
use Rattle.unit_text.proofs.unit.planned_text.Goals as goal

pub returns : goal.returns
returns c =
    let s = c.args.readings.now in
    let found = c.args.found in
    let order = c.as_slice-order.ensures.value in
    let plans = c.in_ok-plans.plans.items in
    let by_module = subst (λ (m : ModuleState). AllZip (IsPlanned m) (called c.as_slice-order.result.now found.locals.items) plans) c.module.ensures c.in_ok-plans.ensures in
    let by_order = subst (λ (ids : List Id). AllZip (IsPlanned s.of) (called ids found.locals.items) plans) order by_module in
    MatchResult-weaker c.text_by.result c.text_by.ensures (λ text is. record {
      plans = plans;
      planned = subst (λ (fs : List Function). AllZip (IsPlanned s.of) (called found.order.items fs) plans) c.requires.locals by_order;
      made = subst (λ (ids : List Id). IsWritten s found.entry.size.items ids plans (unit_of text.unit)) order is;
    }) (λ e no. no)

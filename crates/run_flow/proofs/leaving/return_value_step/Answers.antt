use Rattle.std.proofs.Common.{◌≡◌, ◌∙◌, ap, rules}
use Rattle.std.specs.Prelude.{Some, None}
use Rattle.spv_types.specs.View.{value_of}
use Rattle.run_state.specs.Ids.{ids_of}
use Rattle.run_operands.specs.Looks.{value_by}
use Rattle.std.proofs.lemmas.Result.{IfOk-weaker}
use Rattle.run_flow.proofs.Moves.{no_value, with_value}
use Rattle.run_flow.proofs.leaving.return_value_step.Goals as goal

pub returns-in-None-clause-step : goal.returns-in-None-clause-step
returns-in-None-clause-step c = λ told.
    let f = value_by c.args.site.now.map.now (ids_of c.args.conf.now.top.ids) in
    let found : None ≡ f c.operand.result = search rules in
    no_value c.args.site.now.map.now told c.args.conf.now c.args.conf.now c.args.site.now.inst.now (found ∙ ap f c.operand.ensures)

pub returns-in-Some-clause-step : goal.returns-in-Some-clause-step
returns-in-Some-clause-step c = λ told.
    let f = value_by c.args.site.now.map.now (ids_of c.args.conf.now.top.ids) in
    let found : Some (value_of c.in-Some.value) ≡ f c.operand.result = search rules in
    IfOk-weaker c.give_back.result _ _ (λ step given. with_value c.args.site.now.map.now told c.args.conf.now c.give_back.new.conf c.args.site.now.inst.now (value_of c.in-Some.value) step (found ∙ ap f c.operand.ensures) given) (c.give_back.ensures.step c.args.site.now.map.now.of.functions)

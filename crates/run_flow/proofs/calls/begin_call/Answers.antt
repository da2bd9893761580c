use Rattle.std.proofs.Common.{◌≡◌, ◌∙◌, ap, length, refl, rules}
use Rattle.std.specs.Prelude.{Some, None}
use Rattle.op_semantics.specs.Component.{each_one}
use Rattle.module_semantics.specs.Steps.{argument_of}
use Rattle.run_state.specs.Ids.{ids_of}
use Rattle.run_flow.specs.Flow.{all_held, passed_by}
use Rattle.run_flow.proofs.Moves.{its_parameters, no_argument, call_goes}
use Rattle.run_flow.proofs.calls.begin_call.Goals as goal

pub returns-in-None-clause-step : goal.returns-in-None-clause-step
returns-in-None-clause-step c = λ told.
    let f = passed_by c.args.site.now.map.now (ids_of c.args.conf.now.top.ids) (length c.args.conf.now.below.items) in
    let found : None ≡ each_one f c.behind_first.result.now = search rules in
    no_argument c.args.site.now.map.now told c.args.conf.now c.args.conf.now c.args.site.now.inst.now c.args.routine.now (length c.args.conf.now.below.items) refl (found ∙ ap (each_one f) c.behind_first.ensures)

pub returns-in_ok-enter-in-Some-clause-step : goal.returns-in_ok-enter-in-Some-clause-step
returns-in_ok-enter-in-Some-clause-step c = λ told.
    let f = passed_by c.args.site.now.map.now (ids_of c.args.conf.now.top.ids) (length c.args.conf.now.below.items) in
    let found : Some (all_held c.in-Some.list.items) ≡ each_one f c.behind_first.result.now = search rules in
    let parameters = its_parameters c.function.result.now c.args.routine.now c.as_slice.result.now c.as_slice.ensures c.function.ensures in
    call_goes c.args.site.now.map.now told c.args.conf.now c.enter.new.conf c.args.site.now.inst.now c.args.routine.now (length c.args.conf.now.below.items) refl c.in-Some.list.items c.in_ok-ids-in-Some.ids c.in_ok-frame-in-Some.frame
    (found ∙ ap (each_one f) c.behind_first.ensures)
    (λ q. c.in_ok-ids-in-Some.ensures q ∙ ap (λ ps. argument_of ps (all_held c.in-Some.list.items) q) parameters)
    (c.in_ok-frame-in-Some.ensures told)
    (c.in_ok-enter-in-Some.ensures.entered c.args.site.now.map.now.of.functions)

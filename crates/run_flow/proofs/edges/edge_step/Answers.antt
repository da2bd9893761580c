use Rattle.std.proofs.Common.{◌≡◌, ◌≤◌, ◌<◌, ◌∙◌, ap, sym, length, get_or, rules}
use Rattle.std.specs.Prelude.{Some, slice_get}
use Rattle.std.proofs.lemmas.Option.{slice_get-get_or, slice_get_past}
use Rattle.std.proofs.lemmas.Result.{IfOk-weaker}
use Rattle.run_flow.proofs.Moves.{its_blocks, no_block, no_place, at_block}
use Rattle.run_flow.proofs.edges.edge_step.Goals as goal

pub returns-in-None-clause-step : goal.returns-in-None-clause-step
returns-in-None-clause-step c = λ told. no_block c.args.map.now told c.args.conf.now c.args.conf.now c.args.locals.now c.requires.here c.args.label c.in-None.ensures

pub returns-in-None-get-clause-step : goal.returns-in-None-get-clause-step
returns-in-None-get-clause-step c = λ told.
    let past : length c.as_slice-blocks.result.now ≤ c.in-Some.place = search rules in
    let same = its_blocks c.function.result.now c.args.locals.now c.as_slice-blocks.result.now c.as_slice-blocks.ensures c.function.ensures in
    no_place c.args.map.now told c.args.conf.now c.args.conf.now c.args.locals.now c.requires.here c.args.label c.in-Some.place c.in-Some.ensures (sym (slice_get_past c.as_slice-blocks.result.now c.in-Some.place past) ∙ ap (λ bs. slice_get bs c.in-Some.place) same)

pub returns-in-Some-get-clause-step : goal.returns-in-Some-get-clause-step
returns-in-Some-get-clause-step c = λ told.
    let is : c.in-Some-get.block.now ≡ get_or c.as_slice-blocks.result.now c.in-Some.place c.in-Some-get.block.now = search rules in
    let inside : c.in-Some.place < length c.as_slice-blocks.result.now = search rules in
    let same = its_blocks c.function.result.now c.args.locals.now c.as_slice-blocks.result.now c.as_slice-blocks.ensures c.function.ensures in
    let there = ap Some is ∙ sym (slice_get-get_or c.as_slice-blocks.result.now c.in-Some.place c.in-Some-get.block.now inside) ∙ ap (λ bs. slice_get bs c.in-Some.place) same in
    IfOk-weaker c.enter_block.result _ _ (λ step moved. at_block c.args.map.now told c.args.conf.now c.enter_block.new.conf c.args.locals.now c.requires.here c.args.label c.in-Some.place c.in-Some-get.block.now step c.in-Some.ensures there moved) (c.enter_block.ensures.step told)

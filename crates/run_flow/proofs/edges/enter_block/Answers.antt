use Rattle.std.proofs.Common.{◌≡◌, ◌∙◌, ap, sym, rules}
use Rattle.std.specs.Prelude.{Some, None, slice_get}
use Rattle.std.proofs.lemmas.List.{length-map}
use Rattle.spv_types.specs.View.{value_of}
use Rattle.op_semantics.specs.Component.{each_one}
use Rattle.module_semantics.specs.Steps.{phis}
use Rattle.run_state.specs.Ids.{ids_of}
use Rattle.run_flow.specs.Flow.{values_of, phi_by}
use Rattle.run_flow.proofs.Lists.{each_long}
use Rattle.run_flow.proofs.Moves.{edge_goes, edge_fails}
use Rattle.run_flow.proofs.edges.enter_block.Goals as goal

pub go_to-requires : goal.go_to-requires
go_to-requires g c =
    let f = phi_by c.args.map.now (ids_of c.args.conf.now.top.ids) c.present_label-from.result in
    let found : Some (values_of c.in-Some.values.items) ≡ each_one f c.phis_of.result.now = search rules in (
      ap (λ bs. slice_get bs c.args.place) c.requires.1.0 ∙ c.requires.1.1,
      sym (length-map c.in-Some.values.items value_of) ∙ each_long f (phis c.args.block.now) (values_of c.in-Some.values.items) (found ∙ ap (each_one f) c.phis_of.ensures),
    )

pub returns-in-None-clause-step : goal.returns-in-None-clause-step
returns-in-None-clause-step g c = λ told.
    let f = phi_by c.args.map.now (ids_of c.args.conf.now.top.ids) c.present_label-from.result in
    let found : None ≡ each_one f c.phis_of.result.now = search rules in
    edge_fails c.args.map.now told g.fs c.args.conf.now c.args.conf.now c.args.place c.args.block.now c.args.blocks.now c.present_label-from.result c.requires.0 c.requires.1.0 c.present_label-from.ensures (found ∙ ap (each_one f) c.phis_of.ensures)

pub returns-in_ok-go_to-in-Some-clause-step : goal.returns-in_ok-go_to-in-Some-clause-step
returns-in_ok-go_to-in-Some-clause-step g c = λ told.
    let f = phi_by c.args.map.now (ids_of c.args.conf.now.top.ids) c.present_label-from.result in
    let found : Some (values_of c.in-Some.values.items) ≡ each_one f c.phis_of.result.now = search rules in
    edge_goes c.args.map.now told g.fs c.args.conf.now c.go_to.new.conf c.args.place c.args.block.now c.args.blocks.now c.present_label-from.result c.requires.0 c.requires.1.0 c.present_label-from.ensures (values_of c.in-Some.values.items) (found ∙ ap (each_one f) c.phis_of.ensures) c.in_ok-go_to-in-Some.ensures.gone

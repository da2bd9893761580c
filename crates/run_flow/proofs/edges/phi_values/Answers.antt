use Rattle.std.proofs.Common.{◌≡◌, ◌∙◌, ◌+◌, ◌++◌, ◌∷◌, [], List, ap, rules, drop}
use Rattle.std.specs.Prelude.{Some, option_map}
use Rattle.std.proofs.lemmas.List.{map_push}
use Rattle.spv_types.specs.Tree.{ValueTree}
use Rattle.spv_types.specs.View.{value_of}
use Rattle.op_semantics.specs.Component.{each_one}
use Rattle.run_state.specs.Ids.{ids_of}
use Rattle.run_flow.specs.Flow.{values_of, phi_by}
use Rattle.run_flow.proofs.Lists.{none_at, more_at}
use Rattle.run_flow.proofs.edges.phi_values.Goals as goal

pub returns-in-None : goal.returns-in-None
returns-in-None c = none_at (phi_by c.args.map.now (ids_of c.args.ids.now) c.args.from) c.args.phis.now c.loop-phi.phi-index c.phi-item.result c.loop-phi-test.true c.phi-item.is (values_of c.loop-phi.all.items) c.in-None.ensures c.loop-phi.invariant

pub loop-phi-preserved : goal.loop-phi-preserved
loop-phi-preserved c =
    let f = phi_by c.args.map.now (ids_of c.args.ids.now) c.args.from in
    let copy = c.in_ok-copied-in-Some.field-0 in
    let items : c.push.new.self.items ≡ c.loop-phi.all.items ++ copy ∷ [] = search rules in
    let found : Some (value_of copy) ≡ f c.phi-item.result = ap Some c.in_ok-copied-in-Some.ensures ∙ c.in-Some.ensures in
    ap (λ l. option_map (λ (rest : List ValueTree). values_of l ++ rest) (each_one f (drop (c.loop-phi.phi-index + 1) c.args.phis.now))) items
    ∙ ap (λ l. option_map (λ (rest : List ValueTree). l ++ rest) (each_one f (drop (c.loop-phi.phi-index + 1) c.args.phis.now))) (map_push value_of c.loop-phi.all.items copy)
    ∙ more_at f c.args.phis.now c.loop-phi.phi-index c.phi-item.result c.loop-phi-test.true c.phi-item.is (values_of c.loop-phi.all.items) (value_of copy) found c.loop-phi.invariant

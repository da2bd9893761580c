use Rattle.std.proofs.Common.{◌≡◌, ◌∙◌, ◌+◌, ◌++◌, ◌∷◌, [], List, ap, arith, rules, drop, length}
use Rattle.std.specs.Prelude.{option_map}
use Rattle.std.proofs.lemmas.List.{map_push}
use Rattle.op_semantics.specs.Component.{each_one}
use Rattle.module_semantics.specs.State as state
use Rattle.run_state.specs.Ids.{ids_of, held_of}
use Rattle.run_operands.proofs.Operands.{none_here, one_more}
use Rattle.run_flow.specs.Flow.{all_held, passed_by}
use Rattle.run_flow.proofs.calls.all_arguments.Goals as goal

pub returns-in-None : goal.returns-in-None
returns-in-None c = none_here (passed_by c.args.site.now.map.now (ids_of c.args.conf.now.top.ids) (length c.args.conf.now.below.items)) c.args.list.now c.loop-id.id-index (omega arith) (all_held c.loop-id.all.items) (search rules) c.loop-id.invariant

pub loop-id-preserved : goal.loop-id-preserved
loop-id-preserved c =
    let f = passed_by c.args.site.now.map.now (ids_of c.args.conf.now.top.ids) (length c.args.conf.now.below.items) in
    let items : c.push.new.self.items ≡ c.loop-id.all.items ++ c.in-Some.argument ∷ [] = search rules in
    ap (λ l. option_map (λ (rest : List state.Held). all_held l ++ rest) (each_one f (drop (c.loop-id.id-index + 1) c.args.list.now))) items
    ∙ ap (λ l. option_map (λ (rest : List state.Held). l ++ rest) (each_one f (drop (c.loop-id.id-index + 1) c.args.list.now))) (map_push held_of c.loop-id.all.items c.in-Some.argument)
    ∙ one_more f c.args.list.now c.loop-id.id-index (omega arith) (all_held c.loop-id.all.items) (held_of c.in-Some.argument) (search rules) c.loop-id.invariant

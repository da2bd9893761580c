use Rattle.std.proofs.Common.{◌≡◌, ◌∙◌, ◌+◌, ◌++◌, ◌∷◌, [], List, ap, arith, rules, drop}
use Rattle.std.specs.Prelude.{option_map}
use Rattle.spv_types.specs.Tree.{ValueTree}
use Rattle.op_semantics.specs.Component.{each_one}
use Rattle.value_ops.specs.References.{referred}
use Rattle.constant_values.specs.Held.{value_in}
use Rattle.constant_values.proofs.Evaluation.{found_none, found_more}
use Rattle.constant_values.proofs.operate.found.Goals as goal

pub returns-in-None : goal.returns-in-None
returns-in-None c = found_none (value_in c.args.values.now) c.args.ids.now c.loop-id.id-index (referred c.loop-id.all.items) (omega arith) c.in-None.ensures c.loop-id.invariant

pub loop-id-preserved : goal.loop-id-preserved
loop-id-preserved c =
    let items : c.push.new.self.items ≡ c.loop-id.all.items ++ c.in-Some.value ∷ [] = search rules in
    ap (λ l. option_map (λ (rest : List ValueTree). referred l ++ rest) (each_one (value_in c.args.values.now) (drop (c.loop-id.id-index + 1) c.args.ids.now))) items
    ∙ found_more (value_in c.args.values.now) c.args.ids.now c.loop-id.id-index c.loop-id.all.items c.in-Some.value (omega arith) c.in-Some.ensures c.loop-id.invariant

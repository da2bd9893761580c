use Rattle.std.proofs.Common.{◌∙◌, refl}
use Rattle.id_map.specs.Entries.{entry_in}
use Rattle.hoist_plan.specs.Kept.{placed}
use Rattle.hoist_plan.proofs.Passes.{operand_raised}
use Rattle.hoist_plan.proofs.forms.add_operand.Goals as goal

pub returns-in_ok-raise_all : goal.returns-in_ok-raise_all
returns-in_ok-raise_all c = λ n.
    c.in_ok-raise_all.ensures n
    ∙ operand_raised c.args.locals.now (entry_in c.args.operands.now) c.args.value c.args.named (placed c.args.mentions.now c.args.row.now) c.function.result.now c.own_height-height.result c.args.mentions.now
    c.if-value.true c.if-not-named.true c.function.ensures c.own_height-height.ensures refl n

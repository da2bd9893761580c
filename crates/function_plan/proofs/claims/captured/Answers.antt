use Rattle.std.proofs.Common.{◌∙◌, sym}
use Rattle.hoist_plan.specs.Kept.{is_carried_in}
use Rattle.function_plan.proofs.Numbered.{numbers_captured}
use Rattle.function_plan.proofs.claims.captured.Goals as goal

pub returns : goal.returns
returns c =
    numbers_captured c.args.module.now.globals (is_carried_in c.args.naming.now) c.args.inst.now c.in_ok-indexes.indexes.items c.in_ok-numbers_of.field-0.items
    (sym c.is_captured.ensures ∙ c.if-not-is_captured.false) c.in_ok-indexes.ensures (rw c.deref.ensures.value at c.in_ok-numbers_of.ensures)

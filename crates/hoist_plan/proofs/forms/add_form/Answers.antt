use Rattle.std.proofs.Common.{◌∙◌, ◌&&◌, Bool, ap, not}
use Rattle.id_map.specs.Entries.{entry_in}
use Rattle.hoist_plan.specs.declared.form.Form.{Form}
use Rattle.hoist_plan.specs.Kept.{placed}
use Rattle.hoist_plan.specs.Plan.{form_by, operand_by, operand_if, with_told}
use Rattle.hoist_plan.proofs.forms.add_form.Goals as goal

pub returns-clause-operands : goal.returns-clause-operands
returns-clause-operands c = λ n.
    c.in_ok-add_operand.ensures n
    ∙ (ap (λ (b : Bool). operand_if (b && not c.is_named-named.result) c.args.locals.now (entry_in c.args.forms.now.operands) (placed c.args.mentions.now c.args.row.now) n) c.is_value-value.ensures
    ∙ ap (λ (b : Bool). operand_by c.args.«module».now.globals c.args.locals.now (entry_in c.args.forms.now.operands) b (placed c.args.mentions.now c.args.row.now) n) c.is_named-named.ensures)

pub returns-clause-forms : goal.returns-clause-forms
returns-clause-forms c = λ n.
    c.in_ok-tell.ensures n
    ∙ ap (λ (a : Form). with_told (entry_in c.args.forms.now.forms) c.args.row.now.result a n) (c.form_with-form.ensures ∙ ap (λ (b : Bool). form_by c.args.locals.now b (placed c.args.mentions.now c.args.row.now)) c.is_named-named.ensures)

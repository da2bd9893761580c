use Rattle.std.proofs.Common.{sym, ◌∙◌}
use Rattle.hoist_plan.proofs.Alone.{none_elsewhere}
use Rattle.hoist_plan.proofs.forms.some_elsewhere.Goals as goal

pub returns-then-is_alone : goal.returns-then-is_alone
returns-then-is_alone c = sym (none_elsewhere c.args.locals.now c.args.block c.args.places.now (sym c.is_alone.ensures ∙ c.if-is_alone.true))

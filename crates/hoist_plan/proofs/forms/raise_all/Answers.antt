use Rattle.std.proofs.Common.{◌∙◌}
use Rattle.id_map.specs.Entries.{entry_in}
use Rattle.hoist_plan.proofs.Passes.{raise_more}
use Rattle.hoist_plan.proofs.forms.raise_all.Goals as goal

pub loop-at-preserved : goal.loop-at-preserved
loop-at-preserved c = λ n.
    raise_more c.args.f.now c.args.height (entry_in c.loop-at.operands) (entry_in c.raise.new.operands) c.args.places.now c.loop-at.at-index _ c.loop-at-test.true c.in_ok-raise.ensures n ∙ c.loop-at.invariant n

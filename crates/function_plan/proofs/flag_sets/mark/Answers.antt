use Rattle.std.proofs.Common.{◌∙◌, get_or, false, ap}
use Rattle.function_plan.proofs.Marks.{padded}
use Rattle.function_plan.proofs.flag_sets.mark.Goals as goal

pub loop-marks-preserved : goal.loop-marks-preserved
loop-marks-preserved c = λ b. ap (λ marks. get_or marks b false) c.in_ok-push.ensures.items ∙ (padded c.loop-marks.marks.items b ∙ c.loop-marks.invariant b)

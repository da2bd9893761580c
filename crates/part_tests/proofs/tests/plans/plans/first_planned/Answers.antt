use Rattle.hoist_plan.proofs.Rising.{live_rise}
use Rattle.part_tests.proofs.tests.plans.plans.first_planned.Goals as goal

pub plan-requires : goal.plan-requires
plan-requires g c = live_rise _ _ _ c.in_ok-uses-in-Some.ensures.live

use Rattle.std.proofs.Common.{Bool, List, subst}
use Rattle.list_law.proofs.Results.{if_ok_both}
use Rattle.use_chains.specs.Links.{AreLiveLinks}
use Rattle.hoist_plan.proofs.Rising.{live_rise}
use Rattle.function_plan.proofs.planning.naming_of.Goals as goal

pub plan-requires : goal.plan-requires
plan-requires g c = live_rise c.args.locals.now c.args.reached.now c.in_ok-uses.uses c.in_ok-uses.ensures.live

pub returns : goal.returns
returns g c =
    let live = subst (λ (r : List Bool). AreLiveLinks c.args.locals.now r c.in_ok-uses.uses) c.requires.reached c.in_ok-uses.ensures.live in
    if_ok_both _ _ _ c.plan.result (λ naming forms carried. record { links = c.in_ok-uses.uses; live = live; forms = forms; carried = carried }) c.plan.ensures.forms c.plan.ensures.carried

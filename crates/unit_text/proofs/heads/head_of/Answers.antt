use Rattle.std.proofs.Common.{◌∙◌, List, ap, map, subst}
use Rattle.std.proofs.lemmas.Result.{MatchResult-weaker}
use Rattle.std.specs.List.{flat_map}
use Rattle.spv_module.specs.declared.inst.Function.{Function}
use Rattle.text_items.specs.State.{functions_at}
use Rattle.function_plan.specs.Claimed.{claimed_by}
use Rattle.function_text.specs.Live.{types_in, mentions_in}
use Rattle.unit_text.specs.Reached.{IsHead}
use Rattle.unit_text.proofs.heads.head_of.Goals as goal

pub returns : goal.returns
returns c =
    let plans = c.args.plans.now in
    MatchResult-weaker c.head_with.result c.head_with.ensures
    (λ head is.
    subst (λ (fs : List Function). IsHead c.args.readings.now (record { functions = fs; types = flat_map types_in plans; mentions = flat_map mentions_in plans }) (map claimed_by plans) head)
    (ap functions_at c.as_slice.ensures.value ∙ c.in_ok-functions.ensures) is)
    (λ e no. no)

use Rattle.std.proofs.Common.{◌∙◌, ap, List, ℕ}
use Rattle.std.specs.List.{concat, flat_map}
use Rattle.switch_ladder.specs.Ladder.{chains_of, items_of}
use Rattle.function_plan.specs.Orders.{order_with}
use Rattle.function_plan.proofs.Ordered.{joined}
use Rattle.function_plan.proofs.orders.order_of.Goals as goal

pub returns : goal.returns
returns c =
    let g = c.args.places.now in
    let h = c.args.header in
    let chains_are = ap (flat_map items_of) c.as_slice-2.ensures.value ∙ (joined c.in_ok-chains.chains.items ∙ ap concat c.in_ok-chains.ensures) in
    let targets_are = c.as_slice-3.ensures.value ∙ c.in_ok-targets.ensures.all in
    c.in_ok-order_with.ensures
    ∙ (ap (λ (xs : List ℕ). order_with xs c.as_slice-3.result.now) chains_are
    ∙ ap (order_with (concat (chains_of g h))) targets_are)

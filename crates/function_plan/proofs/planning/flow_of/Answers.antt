use Rattle.std.proofs.Common.{◌∙◌, List, ap}
use Rattle.structure_rules.specs.declared.graph.Node.{Node}
use Rattle.function_plan.specs.Orders.{order_by}
use Rattle.function_plan.proofs.planning.flow_of.Goals as goal

pub returns-clause-orders : goal.returns-clause-orders
returns-clause-orders c = λ h. c.in_ok-orders.ensures h ∙ ap (λ (g : List Node). order_by g h) c.requires

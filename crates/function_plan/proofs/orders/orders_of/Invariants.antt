use Rattle.function_plan.specs.Planned.{AreOrdersBelow}
use Rattle.function_plan.proofs.orders.orders_of.Given as goal

abbrev pub invariant-loop-header : goal.invariant-loop-header
invariant-loop-header l = AreOrdersBelow l.places l.header l.orders

use Rattle.type_rules.specs.Edges.{AreEmpty}
use Rattle.type_rules.proofs.edges.empty_lists.Given as goal

abbrev pub invariant-loop : goal.invariant-loop
invariant-loop l = AreEmpty l.counter l.lists.items

use Rattle.std.proofs.Common.{◌≡◌, ◌+◌, take}
use Rattle.std.specs.List.{sum_by}
use Rattle.profile_rules.specs.ValueRules.{given_or_zero}
use Rattle.type_rules.specs.Scopes.{types}
use Rattle.type_rules.proofs.composites.is_total.Given as goal

abbrev pub invariant-loop-id : goal.invariant-loop-id
invariant-loop-id l = l.left + sum_by (given_or_zero l.scope.m.globals (types l.scope) l.component) (take l.id-index l.ids) ≡ l.n

use Rattle.std.proofs.Common.{◌≡◌, ◌++◌, take, map}
use Rattle.declaration_check.proofs.uses.add_parameters.Given as goal

abbrev pub invariant-loop-param : goal.invariant-loop-param
invariant-loop-param l = l.ids.items ≡ l.initial.ids.items ++ map (λ p. p.1.0) (take l.param-index l.params)

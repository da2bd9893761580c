use Rattle.std.proofs.Common.{◌≡◌, drop, map}
use Rattle.std.specs.List.{find}
use Rattle.declaration_check.specs.Flaws.{has_flaw}
use Rattle.declaration_check.proofs.variables.first_flawed.Given as goal

abbrev pub invariant-loop-inst : goal.invariant-loop-inst
invariant-loop-inst l = find (has_flaw l.context l.flaw) (map (λ i. i.now) (drop l.inst-index l.variables)) ≡ find (has_flaw l.context l.flaw) (map (λ i. i.now) l.variables)

use Rattle.std.proofs.Common.{◌≡◌, ◌+◌, drop, map}
use Rattle.std.specs.List.{count_by}
use Rattle.profile_rules.specs.Variables.{is_push}
use Rattle.declaration_check.proofs.variables.count_pushes.Given as goal

abbrev pub invariant-loop-inst : goal.invariant-loop-inst
invariant-loop-inst l = l.count + count_by is_push (map (λ i. i.now) (drop l.inst-index l.inst-items)) ≡ count_by is_push (map (λ i. i.now) l.inst-items)

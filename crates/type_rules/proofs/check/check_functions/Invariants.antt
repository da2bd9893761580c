use Rattle.std.proofs.Common.{◌≡◌, [], take}
use Rattle.std.specs.List.{flat_map}
use Rattle.profile_rules.specs.TypeRules.{broken_by_function}
use Rattle.type_rules.proofs.check.check_functions.Given as goal

abbrev pub invariant-loop-function : goal.invariant-loop-function
invariant-loop-function l = record {
  same : l.judge.m ≡ l.initial.judge.m;
  none : flat_map (broken_by_function l.initial.judge.m) (take l.function-index l.functions) ≡ [];
}

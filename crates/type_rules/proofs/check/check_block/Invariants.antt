use Rattle.std.proofs.Common.{◌≡◌, [], take}
use Rattle.std.specs.List.{flat_map}
use Rattle.profile_rules.specs.TypeRules.{broken_by_local}
use Rattle.type_rules.proofs.check.check_block.Given as goal

abbrev pub invariant-loop-inst : goal.invariant-loop-inst
invariant-loop-inst l = record {
  same : l.judge ≡ l.initial.judge;
  none : flat_map (broken_by_local l.initial.judge.m l.here.function l.here.block) (take l.inst-index l.inst-items) ≡ [];
}

use Rattle.std.proofs.Common.{◌≡◌, [], take}
use Rattle.std.specs.List.{flat_map}
use Rattle.profile_rules.specs.TypeRules.{broken_by_block}
use Rattle.type_rules.proofs.check.check_blocks.Given as goal

abbrev pub invariant-loop-block : goal.invariant-loop-block
invariant-loop-block l = record {
  same : l.judge ≡ l.initial.judge;
  none : flat_map (broken_by_block l.initial.judge.m l.locals) (take l.block-index l.block-items) ≡ [];
}

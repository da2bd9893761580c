use Rattle.std.proofs.Common.{◌≡◌, map, [], take}
use Rattle.structure_recover.specs.Arms.{target_of, AreLabelled}
use Rattle.structure_recover.proofs.arms.bare_arms.Given as goal

abbrev pub invariant-loop-target : goal.invariant-loop-target
invariant-loop-target l = record {
  targets : map target_of l.arms.items ≡ take l.target-index l.order;
  bare : AreLabelled l.default [] l.arms.items;
}

use Rattle.std.proofs.Common.{◌≡◌, map, true, drop, length, None}
use Rattle.control_text.specs.Rising.{stand_so, target_of}
use Rattle.control_text.proofs.switches.stand_in_order.Given as goal

abbrev pub invariant-loop-place : goal.invariant-loop-place
invariant-loop-place l = record {
  same : length l.order ≡ length l.groups;
  so : stand_so l.before (drop l.place l.order) (map target_of (drop l.place l.groups)) ≡ true → stand_so None l.order (map target_of l.groups) ≡ true;
}

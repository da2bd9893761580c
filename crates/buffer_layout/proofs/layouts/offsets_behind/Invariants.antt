use Rattle.std.proofs.Common.{◌≡◌, ◌≤◌, ◌++◌, drop}
use Rattle.spv_types.specs.View.{trees_of}
use Rattle.layout_rules.specs.Sizes.{offsets_from, end_from}
use Rattle.buffer_layout.specs.declared.sizes.TheConstants.{LAST}
use Rattle.buffer_layout.proofs.layouts.offsets_behind.Given as goal

abbrev pub invariant-loop-k : goal.invariant-loop-k
invariant-loop-k l = record {
  within : l.end ≤ LAST;
  end : end_from l.ruler.kind l.end (trees_of (drop l.k l.members)) ≡ end_from l.ruler.kind 0 (trees_of l.members);
  offsets : l.offsets.items ++ offsets_from l.ruler.kind l.end (trees_of (drop l.k l.members)) ≡ offsets_from l.ruler.kind 0 (trees_of l.members);
}

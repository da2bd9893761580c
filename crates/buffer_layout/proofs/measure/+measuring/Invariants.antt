use Rattle.std.proofs.Common.{◌≡◌, ◌≤◌, ◌<◌, ◌||◌, drop, min, max}
use Rattle.spv_words.specs.declared.rule.Rule.TheVariants.{L1, L2, L3, L6, L7}
use Rattle.spv_types.specs.View.{trees_of}
use Rattle.layout_rules.specs.Sizes.{greatest_alignment}
use Rattle.layout_rules.specs.Parts.{any_member}
use Rattle.layout_rules.specs.Rules.{breaks, lacks_from, others_from}
use Rattle.buffer_layout.proofs.Steps.{end_before}
use Rattle.buffer_layout.proofs.measure.+measuring.Given as goal

abbrev pub invariant-measure_members-loop-k : goal.invariant-measure_members-loop-k
invariant-measure_members-loop-k l = record {
  size : l.all.size ≡ min 4294967296 (end_before l.ruler.kind l.members l.k);
  greatest : max l.all.alignment (greatest_alignment l.ruler.kind (trees_of (drop l.k l.members))) ≡ greatest_alignment l.ruler.kind (trees_of l.members);
  positive : 0 < l.all.alignment;
  small : l.all.alignment ≤ 16;
  l1 : (l.all.lacks_offset || (lacks_from l.ruler.heads l.id l.k (trees_of (drop l.k l.members)) || any_member (breaks l.ruler.heads l.ruler.kind L1) l.ruler.globals l.id l.k (trees_of (drop l.k l.members)))) ≡ (lacks_from l.ruler.heads l.id 0 (trees_of l.members) || any_member (breaks l.ruler.heads l.ruler.kind L1) l.ruler.globals l.id 0 (trees_of l.members));
  l2 : (l.all.other_stride || any_member (breaks l.ruler.heads l.ruler.kind L2) l.ruler.globals l.id l.k (trees_of (drop l.k l.members))) ≡ any_member (breaks l.ruler.heads l.ruler.kind L2) l.ruler.globals l.id 0 (trees_of l.members);
  l3 : (l.all.has_bool || any_member (breaks l.ruler.heads l.ruler.kind L3) l.ruler.globals l.id l.k (trees_of (drop l.k l.members))) ≡ any_member (breaks l.ruler.heads l.ruler.kind L3) l.ruler.globals l.id 0 (trees_of l.members);
  l6 : (l.all.other_offset || (others_from l.ruler.heads l.ruler.kind l.id l.k (end_before l.ruler.kind l.members l.k) (trees_of (drop l.k l.members)) || any_member (breaks l.ruler.heads l.ruler.kind L6) l.ruler.globals l.id l.k (trees_of (drop l.k l.members)))) ≡ (others_from l.ruler.heads l.ruler.kind l.id 0 0 (trees_of l.members) || any_member (breaks l.ruler.heads l.ruler.kind L6) l.ruler.globals l.id 0 (trees_of l.members));
  l7 : (l.all.ends_past || any_member (breaks l.ruler.heads l.ruler.kind L7) l.ruler.globals l.id l.k (trees_of (drop l.k l.members))) ≡ any_member (breaks l.ruler.heads l.ruler.kind L7) l.ruler.globals l.id 0 (trees_of l.members);
}

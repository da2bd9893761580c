use Rattle.std.proofs.Common.{◌≡◌, ◌+◌, ◌-◌, ◌*◌, ◌≤◌, length, map}
use Rattle.structure_recover.specs.Tree as tree
use Rattle.structure_recover.specs.View.{item_of, group_of, groups_of}
use Rattle.structure_recover.specs.declared.arms.Arm.{Arm}
use Rattle.structure_recover.specs.Follows.{Follows, FollowsGroups}
use Rattle.structure_recover.specs.Later.{IsReached, rank, rank_at}
use Rattle.structure_recover.proofs.trees.+recover.Given as goal

abbrev pub decreases-region : goal.decreases-region
decreases-region l = rank (length l.places.now) l.from + 3

abbrev pub decreases-item_at : goal.decreases-item_at
decreases-item_at l = rank_at (length l.places.now) l.start + 2

abbrev pub decreases-block_item : goal.decreases-block_item
decreases-block_item l = (length l.places.now - l.block) * 8 + 1

abbrev pub decreases-conditional : goal.decreases-conditional
decreases-conditional l = (length l.places.now - l.head) * 8

abbrev pub decreases-groups : goal.decreases-groups
decreases-groups l = (length l.places.now - l.head) * 8

abbrev pub invariant-region-loop-next : goal.invariant-region-loop-next
invariant-region-loop-next l = record {
  less : rank (length l.places) l.next ≤ rank (length l.places) l.fn.from;
  reached : IsReached l.places l.next;
  follows : (r : tree.Region) → Follows l.f l.places r l.next → Follows l.f l.places (tree.before (map item_of l.items.items) r) l.fn.from;
}

abbrev pub decreases-region-loop-next : goal.decreases-region-loop-next
decreases-region-loop-next l = rank (length l.places) l.next

abbrev pub invariant-groups-loop-arm : goal.invariant-groups-loop-arm
invariant-groups-loop-arm l = record {
  targets : tree.targets (groups_of (map group_of l.groups.items)) ≡ map (λ (a : Arm). a.target) l.yielded;
  follows : FollowsGroups l.f l.places (groups_of (map group_of l.groups.items)) l.head;
}

use Rattle.std.proofs.Common.{◌≡◌, ◌+◌, ◌++◌, ◌||◌, map, drop}
use Rattle.structure_recover.specs.Tree.{before, ends}
use Rattle.structure_recover.specs.View.{region_of, item_of, group_of, groups_of}
use Rattle.glsl_ast.specs.View.{stmt_of}
use Rattle.control_text.specs.Statements.{region_text, groups_text, has_break, groups_have_break}
use Rattle.control_text.specs.Size.{region_size, item_size, groups_size}
use Rattle.control_text.specs.Written.{group_written}
use Rattle.control_text.proofs.Steps.{left_text}
use Rattle.control_text.proofs.writer.Writer.+text.Given as goal

abbrev pub decreases-region_text : goal.decreases-region_text
decreases-region_text g l = region_size (region_of l.region.now) + 1

abbrev pub decreases-items_text : goal.decreases-items_text
decreases-items_text g l = region_size (before (map item_of l.items.now) (ends l.exit))

abbrev pub decreases-item_text : goal.decreases-item_text
decreases-item_text g l = item_size (item_of l.item.now)

abbrev pub decreases-branch : goal.decreases-branch
decreases-branch g l = region_size (region_of l.region.now) + 2

abbrev pub decreases-conditional : goal.decreases-conditional
decreases-conditional g l = region_size (region_of l.taken.now) + region_size (region_of l.other.now) + 3

abbrev pub decreases-plain_loop : goal.decreases-plain_loop
decreases-plain_loop g l = region_size (region_of l.body.now) + 2

abbrev pub decreases-continued_loop : goal.decreases-continued_loop
decreases-continued_loop g l = region_size (region_of l.cont.now) + region_size (region_of l.body.now) + 3

abbrev pub decreases-turn : goal.decreases-turn
decreases-turn g l = region_size (region_of l.cont.now) + 2

abbrev pub decreases-switch : goal.decreases-switch
decreases-switch g l = groups_size (groups_of (map group_of l.groups.now)) + 2

abbrev pub decreases-groups_text : goal.decreases-groups_text
decreases-groups_text g l = groups_size (groups_of (map group_of l.groups.now))

abbrev pub decreases-case_body : goal.decreases-case_body
decreases-case_body g l = region_size (region_of l.body.now) + 2

abbrev pub invariant-items_text-loop-item : goal.invariant-items_text-loop-item
invariant-items_text-loop-item g l = record {
  text : map stmt_of l.out.items ++ left_text (g.B.BlockText.blocks l.self.blocks.now) l.place l.exit l.from (drop l.item-index l.items) ≡ map stmt_of l.initial.out.items ++ region_text (g.B.BlockText.blocks l.self.blocks.now) l.place (before (map item_of l.items) (ends l.exit));
  breaks : (l.breaks || has_break (before (map item_of (drop l.item-index l.items)) (ends l.exit))) ≡ has_break (before (map item_of l.items) (ends l.exit));
}

abbrev pub invariant-groups_text-loop-group : goal.invariant-groups_text-loop-group
invariant-groups_text-loop-group g l = record {
  text : map group_written l.arms.items ++ groups_text (g.B.BlockText.blocks l.self.blocks.now) l.place l.head (groups_of (map group_of (drop l.group-index l.groups))) ≡ groups_text (g.B.BlockText.blocks l.self.blocks.now) l.place l.head (groups_of (map group_of l.groups));
  breaks : (l.breaks || groups_have_break (groups_of (map group_of (drop l.group-index l.groups)))) ≡ groups_have_break (groups_of (map group_of l.groups));
}

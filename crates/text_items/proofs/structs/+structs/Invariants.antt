use Rattle.std.proofs.Common.{◌≡◌, ◌||◌, ℕ, drop}
use Rattle.id_map.specs.Entries.{is_in}
use Rattle.spv_types.specs.View.{tree_of, trees_of}
use Rattle.spv_types.proofs.Heads.{tree_size, trees_size}
use Rattle.text_rules.specs.Printed.{have_struct}
use Rattle.text_items.proofs.structs.+structs.Given as goal

abbrev pub invariant-add_members-loop-member : goal.invariant-add_members-loop-member
invariant-add_members-loop-member l = (id : ℕ) → (is_in l.found id || have_struct id (trees_of (drop l.member-index l.members))) ≡ (is_in l.initial.found id || have_struct id (trees_of l.members))

abbrev pub decreases-add_structs : goal.decreases-add_structs
decreases-add_structs l = tree_size (tree_of l.shape.now)

abbrev pub decreases-add_members : goal.decreases-add_members
decreases-add_members l = trees_size (trees_of l.members.now)

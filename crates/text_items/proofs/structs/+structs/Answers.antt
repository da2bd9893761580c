use Rattle.std.proofs.Common.{◌≡◌, ◌||◌, ◌∙◌, List, ap, arith, subst}
use Rattle.id_map.specs.Entries.{is_in}
use Rattle.spv_module.specs.declared.tree.Shape.{Shape}
use Rattle.spv_types.specs.View.{tree_of, trees_of}
use Rattle.text_rules.specs.Printed.{has_struct, have_struct}
use Rattle.text_items.proofs.Parts.{have_step, struct_step}
use Rattle.text_items.proofs.structs.+structs.Goals as goal

pub add_members-loop-member-preserved : goal.add_members-loop-member-preserved
add_members-loop-member-preserved t c = λ id.
    have_step id c.args.members.now c.loop-member.member-index c.member-item.result (is_in c.add_structs.new.found id) (is_in c.loop-member.found id) (is_in c.args.found.now id || have_struct id (trees_of c.args.members.now)) (omega arith)
    (c.in_ok-add_structs.ensures id ∙ ap (λ (m : Shape). is_in c.loop-member.found id || has_struct id (tree_of m)) c.member-item.is)
    (c.loop-member.invariant id)

pub add_structs-returns-in_ok-add_members-in-Struct : goal.add_structs-returns-in_ok-add_members-in-Struct
add_structs-returns-in_ok-add_members-in-Struct t c = λ id.
    struct_step id c.args.shape.now c.in-Struct.id c.in-Struct.members (is_in c.add_members.new.found id) (is_in c.insert.new.self id) (is_in c.args.found.now id) c.in-Struct.is (c.in_ok-insert-in-Struct.ensures id)
    (subst (λ (l : List Shape). is_in c.add_members.new.found id ≡ (is_in c.insert.new.self id || have_struct id (trees_of l))) c.deref.ensures.value (c.in_ok-add_members-in-Struct.ensures id))

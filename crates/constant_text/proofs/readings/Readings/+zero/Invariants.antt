use Rattle.std.proofs.Common.{◌≡◌, ◌+◌, ◌*◌, map, replicate, drop}
use Rattle.glsl_ast.specs.View.{expr_of}
use Rattle.spv_types.specs.View.{tree_of, trees_of}
use Rattle.spv_types.proofs.Heads.{tree_size, trees_size}
use Rattle.text_rules.specs.Types.{zero_text, zero_texts}
use Rattle.text_rules.specs.Declarations.{spelling}
use Rattle.constant_text.specs.Named.{id_names}
use Rattle.constant_text.proofs.Members.{front}
use Rattle.constant_text.proofs.readings.Readings.+zero.Given as goal

abbrev pub invariant-zero_members-loop-member : goal.invariant-zero_members-loop-member
invariant-zero_members-loop-member l = front l.exprs.items (zero_texts (spelling l.self (id_names l.names)) (trees_of (drop l.member-index l.members))) ≡ zero_texts (spelling l.self (id_names l.names)) (trees_of l.members)

abbrev pub invariant-zero_parts-loop : goal.invariant-zero_parts-loop
invariant-zero_parts-loop l = map expr_of l.exprs.items ≡ replicate l.counter (zero_text (spelling l.self (id_names l.names)) (tree_of l.part))

abbrev pub decreases-zero_expr : goal.decreases-zero_expr
decreases-zero_expr l = 3 * tree_size (tree_of l.shape.now)

abbrev pub decreases-zero_array : goal.decreases-zero_array
decreases-zero_array l = 3 * tree_size (tree_of l.part.now) + 2

abbrev pub decreases-zero_parts : goal.decreases-zero_parts
decreases-zero_parts l = 3 * tree_size (tree_of l.part.now) + 1

abbrev pub decreases-zero_members : goal.decreases-zero_members
decreases-zero_members l = 3 * trees_size (trees_of l.members.now)

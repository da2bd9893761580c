use Rattle.std.proofs.Common.{◌≡◌, drop, map}
use Rattle.glsl_ast.specs.View.{decl_of}
use Rattle.text_check.specs.Items.{are_items, none}
use Rattle.text_check.specs.Words.{declares}
use Rattle.text_check.proofs.items.are_items.Given as goal

abbrev pub invariant-loop-item : goal.invariant-loop-item
invariant-loop-item l = are_items (declares l.structs) (map decl_of (drop l.item-index l.items)) ≡ are_items none (map decl_of l.items)

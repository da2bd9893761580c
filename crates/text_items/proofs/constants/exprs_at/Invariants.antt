use Rattle.std.proofs.Common.{◌≡◌, map, take}
use Rattle.glsl_ast.specs.View.{expr_of}
use Rattle.text_rules.specs.Declarations.{expr_at}
use Rattle.text_items.specs.Wording.{source_of, names_of}
use Rattle.text_items.proofs.constants.exprs_at.Given as goal

abbrev pub invariant-loop-id : goal.invariant-loop-id
invariant-loop-id l = map expr_of l.exprs.items ≡ map (expr_at (source_of l.wording) (names_of l.wording)) (take l.id-index l.ids)

use Rattle.std.proofs.Common.{◌≡◌, ◌<◌, ◌∙◌, length, map, arith}
use Rattle.std.proofs.lemmas.Grind.{common_steps}
use Rattle.glsl_ast.specs.View.{stmt_of, expr_of}
use Rattle.glsl_ast.proofs.Views.{stmt-When, stmt-Either}
use Rattle.control_text.proofs.Rows.{conditional_when, conditional_either}
use Rattle.control_text.proofs.regions.either.Goals as goal

pub returns-then-is_empty : goal.returns-then-is_empty
returns-then-is_empty c =
    let none : length c.args.other.items ≡ 0 = grind (arith, common_steps, c.is_empty.ensures, c.if-is_empty.true) in
    stmt-When c.args.condition c.args.taken ∙ conditional_when (expr_of c.args.condition) (map stmt_of c.args.taken.items) c.args.other.items none

pub returns-else-is_empty : goal.returns-else-is_empty
returns-else-is_empty c =
    let some : 0 < length c.args.other.items = grind (arith, common_steps, c.is_empty.ensures, c.if-is_empty.false) in
    stmt-Either c.args.condition c.args.taken c.args.other ∙ conditional_either (expr_of c.args.condition) (map stmt_of c.args.taken.items) c.args.other.items some

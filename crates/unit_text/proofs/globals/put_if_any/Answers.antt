use Rattle.std.proofs.Common.{◌==◌, ◌∙◌, None, Option, ap, sym, if◌then◌else◌}
use Rattle.std.specs.Prelude.{option_map}
use Rattle.std.proofs.lemmas.Result.{MatchResult-weaker}
use Rattle.glsl_ast.specs.View.{expr_of}
use Rattle.glsl_ast.specs.declared.expressions.Expr.{Expr}
use Rattle.expr_forward.specs.Globals.{global_in}
use Rattle.unit_text.specs.Reached.{or_before}
use Rattle.unit_text.proofs.Expressed.{nothing_put, something_put}
use Rattle.unit_text.proofs.globals.put_if_any.Goals as goal

pub returns-in-None : goal.returns-in-None
returns-in-None c = λ n.
    let old = global_in c.args.globals.now n in
    nothing_put (c.args.id.0 == n) old ∙ ap (λ (o : Option Expr). or_before old (if c.args.id.0 == n then option_map expr_of o else None)) (sym c.in-None.is)

pub returns-in-Some : goal.returns-in-Some
returns-in-Some c = MatchResult-weaker c.put.result c.put.ensures
    (λ u is n. let old = global_in c.args.globals.now n in
    is n
    ∙ (something_put (c.args.id.0 == n) (expr_of c.in-Some.expr) old
    ∙ ap (λ (o : Option Expr). or_before old (if c.args.id.0 == n then option_map expr_of o else None)) (sym c.in-Some.is))) (λ e no. no)

use Rattle.std.proofs.Common.{◌≡◌, subst, sym}
use Rattle.std.proofs.lemmas.Result.{MatchResult-weaker}
use Rattle.name_alloc.specs.declared.claims.Names.{Names}
use Rattle.glsl_ast.specs.View.{expr_of}
use Rattle.text_rules.specs.Constants.{Source}
use Rattle.text_rules.specs.Declarations.{initial}
use Rattle.expr_forward.specs.Context.{all_names}
use Rattle.function_text.proofs.scope.PlannedFunction.initial.Goals as goal

pub returns : goal.returns
returns c =
    let self = c.args.self.now in
    MatchResult-weaker c.initial.result c.initial.ensures
    (λ e is.
    let value = expr_of e in
    let named = subst (λ (k : Names). value ≡ initial self.readings.now (all_names k) c.args.inst.now) (sym self.names_are) is in
    subst (λ (s : Source). value ≡ initial s (all_names self.context.names) c.args.inst.now) (sym self.source_is) named)
    (λ e no. no)

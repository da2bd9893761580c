use Rattle.std.proofs.Common.{◌≡◌, IfOk, subst}
use Rattle.spv_types.specs.Tree.{Tree}
use Rattle.spv_types.specs.View.{tree_of}
use Rattle.glsl_ast.specs.View.{expr_of}
use Rattle.text_rules.specs.Types.{zero_text}
use Rattle.text_rules.specs.Declarations.{spelling}
use Rattle.constant_text.specs.Named.{id_names}
use Rattle.expr_forward.specs.Context.{ContextState}
use Rattle.expr_forward.proofs.context.Context.zero_of.Goals as goal

pub returns : goal.returns
returns c =
    let by_shape = subst (λ (s : ContextState). IfOk c.zero_expr.result (λ e. expr_of e ≡ zero_text (spelling s.source (id_names s.names)) (tree_of c.in_ok-shape.shape))) c.self.view_is c.zero_expr.ensures in
    subst (λ (t : Tree). IfOk c.zero_expr.result (λ e. expr_of e ≡ zero_text (spelling c.args.self.now.source (id_names c.args.self.now.names)) t)) c.in_ok-shape.ensures.shape by_shape

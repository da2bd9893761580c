use Rattle.std.proofs.Common.{◌≡◌, IfOk, subst}
use Rattle.glsl_ast.specs.View.{type_of}
use Rattle.text_rules.specs.Declarations.{type_at}
use Rattle.expr_forward.specs.Context.{ContextState, all_names}
use Rattle.expr_forward.proofs.context.Context.type_name_of.Goals as goal

pub returns : goal.returns
returns c = subst (λ (s : ContextState). IfOk c.type_name_of.result (λ t. type_of t ≡ type_at s.source (all_names s.names) c.args.ty)) c.self.view_is c.type_name_of.ensures

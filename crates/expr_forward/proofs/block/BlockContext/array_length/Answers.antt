use Rattle.std.proofs.Common.{◌≡◌, ◌∷◌, [], IfOk, ap, slice_index, subst, unwrap_or, ◌∙◌}
use Rattle.spv_module.specs.Lists.{id}
use Rattle.profile_rules.specs.MemoryRules.{pointee_of}
use Rattle.name_alloc.specs.declared.claims.Key.TheVariants.{Member}
use Rattle.glsl_ast.specs.Tree.{Expr, Text, build, exprs_in, length_of, type_name, uint}
use Rattle.glsl_ast.specs.View.{name_text, expr_of}
use Rattle.expr_forward.specs.Paths.{place_expr}
use Rattle.expr_forward.specs.Context.{key_text, setting_of}
use Rattle.expr_forward.proofs.block.BlockContext.array_length.Goals as goal

pub returns : goal.returns
returns c =
    let s = c.args.self.now.context.now in
    let block = c.args.self.now.block in
    let w = setting_of s in
    let first = slice_index c.args.inst.now.args 0 in
    let of_is = c.in_ok-of.ensures ∙ ap (λ n. place_expr w block n) c.operand.ensures in
    let pointee_is = c.pointee.ensures ∙ ap (λ n. unwrap_or (pointee_of s.source.of.globals s.function n) 0) c.operand.ensures in
    let pointee = unwrap_or (pointee_of s.source.of.globals s.function first) 0 in
    let name_is : name_text c.in_ok-name.field-0 ≡ key_text s.names (Member (id pointee) (slice_index c.args.inst.now.args 1)) =
    c.in_ok-name.ensures ∙ (ap (λ n. key_text s.names (Member (id n) c.operand-2.result)) pointee_is ∙ ap (λ k. key_text s.names (Member (id pointee) k)) c.operand-2.ensures) in
    let array_is = c.in_ok-array.ensures ∙ (ap (λ (x : Expr). Expr.member x (name_text c.in_ok-name.field-0)) of_is ∙ ap (λ (t : Text). Expr.member (place_expr w block first) t) name_is) in
    subst (λ (x : Expr). IfOk c.length_of.result (λ e. expr_of e ≡ build (type_name uint []) (exprs_in (length_of x ∷ [])))) array_is c.length_of.ensures

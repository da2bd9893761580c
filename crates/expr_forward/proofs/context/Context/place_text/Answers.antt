use Rattle.std.proofs.Common.{◌≡◌, ap, map, subst, unwrap_or, ◌∙◌}
use Rattle.profile_rules.specs.MemoryRules.{pointee_of}
use Rattle.glsl_ast.specs.Tree.{lvalue}
use Rattle.glsl_ast.specs.View.{lvalue_of, step_of}
use Rattle.access_paths.specs.Ways.{Way, path}
use Rattle.access_paths.specs.State.{PathsState, plain}
use Rattle.expr_forward.specs.Scope.{globals_in}
use Rattle.expr_forward.specs.Paths.{base_text, steps_text, way_text}
use Rattle.expr_forward.specs.Context.{ContextState, setting_of}
use Rattle.expr_forward.proofs.context.Context.place_text.Goals as goal

pub returns : goal.returns
returns c =
    let w = setting_of c.args.self.now in
    let p = c.in_ok-path.path in
    let of_function = subst (λ (q : PathsState). plain p ≡ path q.globals q.function c.args.block c.args.pointer.0) c.self.invariant.0 c.in_ok-path.ensures in
    let path_is = subst (λ (s : ContextState). plain p ≡ path s.source.of.globals s.function c.args.block c.args.pointer.0) c.self.view_is of_function in
    let steps_are : map step_of c.in_ok-steps_from.field-0.items ≡ steps_text w (unwrap_or (pointee_of (globals_in w) w.function p.base.0) 0) p.steps.items =
    c.in_ok-steps_from.ensures ∙ ap (λ l. steps_text w (unwrap_or (pointee_of (globals_in w) w.function p.base.0) 0) l) c.deref.ensures.value in
    subst (λ (q : Way). lvalue_of (record { name = c.in_ok-base_name.field-0; steps = c.in_ok-steps_from.field-0 }) ≡ way_text w q) path_is
    (ap (λ t. lvalue t (map step_of c.in_ok-steps_from.field-0.items)) c.in_ok-base_name.ensures ∙ ap (λ ss. lvalue (base_text w p.base.0) ss) steps_are)

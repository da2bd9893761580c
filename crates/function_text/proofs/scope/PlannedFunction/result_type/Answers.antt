use Rattle.std.proofs.Common.{◌∙◌, Bool, Some, None, if◌then◌else◌, ap, sym}
use Rattle.text_rules.specs.Declarations.{type_at}
use Rattle.expr_forward.specs.Context.{all_names}
use Rattle.function_text.proofs.scope.PlannedFunction.result_type.Goals as goal

pub returns : goal.returns
returns c =
    ap Some c.in_ok-type_name.ensures
    ∙ sym (ap (λ (b : Bool). if b then None else Some (type_at c.args.self.now.context.source (all_names c.args.self.now.context.names) c.args.ty.0)) (sym c.is_void.ensures ∙ c.if-is_void.false))

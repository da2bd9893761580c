use Rattle.std.proofs.Common.{◌≡◌, rules, subst, sym}
use Rattle.std.specs.List.{All}
use Rattle.spv_types.specs.View.{tree_of}
use Rattle.spv_types.proofs.Views.{shape_rows}
use Rattle.few_law.specs.Few.{HasFewMembers}
use Rattle.few_law.specs.Short.{HasFewArgs}
use Rattle.few_law.proofs.FewMembers.{shape_few}
use Rattle.text_rules.specs.Declarations.{shape_at}
use Rattle.expr_forward.specs.Context.{ContextState}
use Rattle.expr_forward.proofs.context.Context.shape_at.Goals as goal

pub returns-in-Some-clause-few : goal.returns-in-Some-clause-few
returns-in-Some-clause-few c =
    let few : All HasFewArgs c.args.self.now.source.of.globals = subst (λ (s : ContextState). All HasFewArgs s.source.of.globals) c.self.view_is c.self.invariant.1.1 in
    let shaped : tree_of c.in-Some.shape ≡ shape_at c.args.self.now.source c.args.ty = search (rules, shape_rows) in
    subst HasFewMembers (sym shaped) (shape_few c.args.self.now.source.of.globals few c.args.ty)

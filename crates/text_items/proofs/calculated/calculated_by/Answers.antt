use Rattle.std.proofs.Common.{◌≡◌, map, rules, subst, sym}
use Rattle.std.proofs.lemmas.Result.{MatchResult-weaker}
use Rattle.spv_types.specs.View.{tree_of}
use Rattle.glsl_ast.specs.View.{expr_of}
use Rattle.few_law.specs.Few.{HasFewMembers}
use Rattle.few_law.proofs.FewMembers.{shape_few}
use Rattle.vec_lowering.specs.Composite.{argument_of}
use Rattle.text_rules.specs.Declarations.{shape_at}
use Rattle.text_items.proofs.Fits.{calculated_is}
use Rattle.text_items.proofs.calculated.calculated_by.Goals as goal

pub lower_vector-requires : goal.lower_vector-requires
lower_vector-requires c =
    let shaped : tree_of c.in_ok-shape.shape ≡ shape_at c.args.readings.now c.args.inst.now.ty = search rules in
    subst HasFewMembers (sym shaped) (shape_few c.args.readings.now.of.globals c.requires c.args.inst.now.ty)

pub returns : goal.returns
returns c =
    let shaped : tree_of c.in_ok-shape.shape ≡ shape_at c.args.readings.now c.args.inst.now.ty = search rules in
    MatchResult-weaker c.lower_vector.result c.lower_vector.ensures.lowered (λ expr is. calculated_is c.args.readings.now c.args.names.now c.args.inst.now c.args.op c.behind_opcode-words.result.now c.inner_operands-ids.result.now c.inner_literals-literals.result.now (tree_of c.in_ok-shape.shape) (map argument_of c.in_ok-args.args.items) (expr_of expr)
    c.behind_opcode-words.ensures c.inner_operands-ids.ensures c.inner_literals-literals.ensures shaped c.in_ok-args.ensures is) (λ e no. no)

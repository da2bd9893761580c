-- The height of the answer, by the law on its definition.
use Rattle.std.proofs.Common.{◌≡◌, IfOk, Ok, map, rules}
use Rattle.spv_types.specs.View.{tree_of}
use Rattle.glsl_ast.specs.View.{expr_of}
use Rattle.vec_lowering.specs.Named.{naming_of}
use Rattle.vec_lowering.specs.Composite.{argument_of}
use Rattle.vec_lowering.specs.Lowered.{lowered_vector}
use Rattle.vec_lowering.proofs.Heights.{height-result}
use Rattle.vec_lowering.proofs.instructions.lower_vector.Goals as goal

pub returns-in-None-clause-height : goal.returns-in-None-clause-height
returns-in-None-clause-height c =
    let is_lowered : expr_of c.literal.result ≡ lowered_vector (naming_of c.args.names.now) c.args.op c.args.ext (tree_of c.args.shape) c.args.extra.now (map argument_of c.args.operands.items) = search rules in
    height-result (Ok c.literal.result) (naming_of c.args.names.now) c.args.op c.args.ext (tree_of c.args.shape) c.args.extra.now (map argument_of c.args.operands.items) is_lowered

pub returns-clause-height : goal.returns-clause-height
returns-clause-height c =
    let is_lowered : IfOk c.write_operation.result (λ e. expr_of e ≡ lowered_vector (naming_of c.args.names.now) c.args.op c.args.ext (tree_of c.args.shape) c.args.extra.now (map argument_of c.args.operands.items)) = search rules in
    height-result c.write_operation.result (naming_of c.args.names.now) c.args.op c.args.ext (tree_of c.args.shape) c.args.extra.now (map argument_of c.args.operands.items) is_lowered

use Rattle.std.proofs.Common.{◌≡◌, ◌+◌, ◌*◌, map, take}
use Rattle.glsl_ast.specs.View.{expr_of}
use Rattle.vec_lowering.specs.Composite.{argument_of}
use Rattle.expr_forward.specs.Context.{operand, scope_of}
use Rattle.expr_forward.specs.Values.{argument, value_in}
use Rattle.expr_forward.proofs.block.BlockContext.+value.Given as goal

abbrev pub invariant-values-loop-id : goal.invariant-values-loop-id
invariant-values-loop-id l = map expr_of l.list.items ≡ map (value_in (scope_of l.self.context.now) l.self.block l.deep) (take l.id-index l.ids)

abbrev pub invariant-arguments-loop-id : goal.invariant-arguments-loop-id
invariant-arguments-loop-id l = map argument_of l.args.items ≡ map operand (map (argument (scope_of l.self.context.now) (value_in (scope_of l.self.context.now) l.self.block l.deep)) (take l.id-index l.ids))

abbrev pub decreases-value_in : goal.decreases-value_in
decreases-value_in l = 16 * l.deep

abbrev pub decreases-by_form : goal.decreases-by_form
decreases-by_form l = 16 * l.deep + 12

abbrev pub decreases-forwarded : goal.decreases-forwarded
decreases-forwarded l = 16 * l.deep + 11

abbrev pub decreases-expression_in : goal.decreases-expression_in
decreases-expression_in l = 16 * l.deep + 10

abbrev pub decreases-lowered : goal.decreases-lowered
decreases-lowered l = 16 * l.deep + 8

abbrev pub decreases-extraction : goal.decreases-extraction
decreases-extraction l = 16 * l.deep + 8

abbrev pub decreases-construction : goal.decreases-construction
decreases-construction l = 16 * l.deep + 8

abbrev pub decreases-logical_copy : goal.decreases-logical_copy
decreases-logical_copy l = 16 * l.deep + 8

abbrev pub decreases-arguments : goal.decreases-arguments
decreases-arguments l = 16 * l.deep + 6

abbrev pub decreases-values : goal.decreases-values
decreases-values l = 16 * l.deep + 6

abbrev pub decreases-whole_argument : goal.decreases-whole_argument
decreases-whole_argument l = 16 * l.deep + 6

abbrev pub decreases-on_two : goal.decreases-on_two
decreases-on_two l = 16 * l.deep + 9

abbrev pub decreases-operated : goal.decreases-operated
decreases-operated l = 16 * l.deep + 5

abbrev pub decreases-amount : goal.decreases-amount
decreases-amount l = 16 * l.deep + 3

abbrev pub decreases-operand_as : goal.decreases-operand_as
decreases-operand_as l = 16 * l.deep + 2

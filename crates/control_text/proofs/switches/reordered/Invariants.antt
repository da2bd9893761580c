use Rattle.std.proofs.Common.{◌≡◌, ◌++◌, map, drop}
use Rattle.glsl_ast.specs.View.{arm_of}
use Rattle.control_text.specs.Statements.{in_order, by_target}
use Rattle.control_text.specs.Written.{group_written}
use Rattle.control_text.proofs.Orders.{arms_at}
use Rattle.control_text.proofs.switches.reordered.Given as goal

abbrev pub invariant-loop-target : goal.invariant-loop-target
invariant-loop-target l = map arm_of l.arms.items ++ in_order (drop l.target-index l.order) (arms_at l.by_target) ≡ in_order l.order (by_target (map group_written l.fn.groups.items))

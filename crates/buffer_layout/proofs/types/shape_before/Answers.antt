use Rattle.std.proofs.Common.{◌≡◌, IfOk, option_map, subst}
use Rattle.spv_types.specs.View.{tree_of}
use Rattle.buffer_layout.proofs.Before.{known_before}
use Rattle.buffer_layout.proofs.types.shape_before.Goals as goal

pub returns-in-Some : goal.returns-in-Some
returns-in-Some c = subst (λ t. IfOk c.judged_shape.result (λ s. option_map tree_of s ≡ t)) (known_before c.args.module.now.globals c.args.block.now.at c.args.id c.in-Some.inst.now c.in-Some.ensures c.if-inst-block.true) c.judged_shape.ensures

use Rattle.std.proofs.Common.{◌+◌, List, arith, subst, sym, take}
use Rattle.spv_module.specs.declared.inst.Block.{Block}
use Rattle.hoist_plan.specs.Kept.{form_in}
use Rattle.function_plan.specs.declared.edge_moves.Moves.{Moves}
use Rattle.function_plan.specs.Moved.{AreMovesFor}
use Rattle.function_plan.proofs.Moving.{AreMovesInto, moves_push}
use Rattle.function_plan.proofs.moves.Phis.moves_to.Goals as goal

pub loop-block-preserved : goal.loop-block-preserved
loop-block-preserved c =
    let b : Block = c.block-item.result in
    let pushed = moves_push c.args.self.now.«module».now.globals (form_in c.args.self.now.naming.now) c.args.self.now.locals.now c.args.blocks.now c.loop-block.block-index b c.loop-block.moves.items c.in_ok-own.own (omega arith)
    (subst (λ (x : Block). AreMovesFor c.args.self.now.«module».now.globals (form_in c.args.self.now.naming.now) c.args.self.now.locals.now x c.in_ok-own.own) c.block-item.is c.in_ok-own.ensures) c.loop-block.invariant in
    subst (λ (ms : List Moves). AreMovesInto c.args.self.now.«module».now.globals (form_in c.args.self.now.naming.now) c.args.self.now.locals.now (take (c.loop-block.block-index + 1) c.args.blocks.now) ms) (sym c.in_ok-push.ensures.items) pushed

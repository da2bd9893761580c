use Rattle.std.proofs.Common.{◌≡◌, ◌∙◌, List, ap, subst}
use Rattle.std.proofs.lemmas.Result.{MatchResult-weaker}
use Rattle.spv_module.specs.declared.inst.Block.{Block}
use Rattle.spv_module.specs.declared.inst.Function.{Function}
use Rattle.hoist_plan.specs.Kept.{form_in}
use Rattle.function_plan.proofs.Moving.{AreMovesInto, zipped}
use Rattle.function_plan.proofs.moves.moves_of.Goals as goal

pub returns : goal.returns
returns c =
    let gs = c.args.«module».now.globals in
    let form = form_in c.args.naming.now in
    let blocks_are : c.as_slice-blocks.result.now ≡ c.args.locals.now.blocks = c.as_slice-blocks.ensures ∙ ap (λ (f : Function). f.blocks) c.function.ensures in
    MatchResult-weaker c.moves_to.result c.moves_to.ensures
    (λ moves is. zipped gs form c.args.locals.now c.args.locals.now.blocks moves.items (subst (λ (bs : List Block). AreMovesInto gs form c.args.locals.now bs moves.items) blocks_are is)) (λ e no. no)

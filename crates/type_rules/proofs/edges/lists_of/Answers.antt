use Rattle.std.proofs.Common.{◌≡◌, ◌<◌, ℕ, List, length, get_or, take, refl, ap, subst, arith, ◌∙◌}
use Rattle.std.proofs.lemmas.List.{length-take-le}
use Rattle.spv_module.specs.declared.inst.Block.{Block}
use Rattle.spv_module.specs.declared.inst.Function.{Function}
use Rattle.type_rules.specs.Edges.{source_at, AreEmpty}
use Rattle.type_rules.proofs.Sources.{sources_none, block_more}
use Rattle.type_rules.proofs.edges.lists_of.Goals as goal

pub loop-place-init : goal.loop-place-init
loop-place-init c =
    let f : Function = c.args.locals.now in
    let blocks_are : c.as_slice-blocks.result.now ≡ f.blocks = c.as_slice-blocks.ensures ∙ ap (λ (g : Function). g.blocks) c.function.ensures in
    sources_none f c.in_ok-lists.lists.items (subst (λ (bs : List Block). AreEmpty (length bs) c.in_ok-lists.lists.items) blocks_are c.in_ok-lists.ensures)

pub loop-place-preserved : goal.loop-place-preserved
loop-place-preserved c =
    let f : Function = c.args.locals.now in
    let i : ℕ = c.loop-place.place in
    let b : Block = c.index-blocks-place.result in
    let blocks_are : c.as_slice-blocks.result.now ≡ f.blocks = c.as_slice-blocks.ensures ∙ ap (λ (g : Function). g.blocks) c.function.ensures in
    let inside : i < length f.blocks = subst (λ (bs : List Block). i < length bs) blocks_are c.loop-place-test.true in
    let is : b ≡ get_or f.blocks i b = subst (λ (bs : List Block). b ≡ get_or bs i b) blocks_are c.index-blocks-place.is in
    let sized : length (take i f.blocks) ≡ i = length-take-le i f.blocks (omega (arith, inside)) in
    block_more f (source_at (i, b)) f.blocks i b c.loop-place.lists.items c.add_block.new.lists.items inside is refl sized c.loop-place.invariant c.in_ok-add_block.ensures

use Rattle.std.proofs.Common.{◌≡◌, ◌<◌, ◌≤◌, List, length, get_or, ap, sym, subst, ◌∙◌, arith}
use Rattle.std.specs.List.{All}
use Rattle.spv_module.specs.declared.inst.Inst.{Inst}
use Rattle.spv_module.specs.declared.inst.Block.{Block}
use Rattle.few_law.specs.Short.{HasFewArgs, IsShortBlock}
use Rattle.access_paths.proofs.Folded.{blocks_more, blocks_all}
use Rattle.access_paths.proofs.links.Links.of.Goals as goal

pub add_block-requires-clause-few : goal.add_block-requires-clause-few
add_block-requires-clause-few c =
    let bs : List Block = c.as_slice-block-items.result.now in
    let b : Block = c.block-item.result in
    let inside : c.loop-stands.stands < length bs = omega arith in
    let same : bs ≡ c.args.locals.now.blocks = c.as_slice-block-items.ensures ∙ ap (λ f. f.blocks) c.function.ensures in
    let short : All IsShortBlock bs = subst (All IsShortBlock) (sym same) c.requires in
    subst (All HasFewArgs) (sym (c.as_slice.ensures ∙ ap (λ (d : Block). d.insts) c.block-item.is)) (short c.loop-stands.stands b inside)

pub loop-stands-preserved : goal.loop-stands-preserved
loop-stands-preserved c =
    let bs : List Block = c.as_slice-block-items.result.now in
    let i = c.loop-stands.stands in
    let b : Block = c.block-item.result in
    let parts : Block → List Inst = λ d. d.insts in
    let inside : i < length bs = omega arith in
    let insts : c.as_slice.result.now ≡ parts (get_or bs i b) = c.as_slice.ensures ∙ ap parts c.block-item.is in
    blocks_more c.args.module.now.globals c.args.locals.now bs i b c.as_slice.result.now c.loop-stands.links c.add_block.new.self inside insts c.loop-stands.invariant c.in_ok-add_block.ensures

pub returns : goal.returns
returns c =
    let bs : List Block = c.as_slice-block-items.result.now in
    let past : length bs ≤ c.loop-stands.stands = omega arith in
    let same : bs ≡ c.args.locals.now.blocks = c.as_slice-block-items.ensures ∙ ap (λ f. f.blocks) c.function.ensures in
    blocks_all c.args.module.now.globals c.args.locals.now bs c.loop-stands.stands c.loop-stands.links past same c.loop-stands.invariant

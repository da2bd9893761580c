use Rattle.std.proofs.Common.{◌≡◌, ◌+◌, ◌∙◌, ap, subst, drop}
use Rattle.spv_module.specs.declared.inst.Function.{Function}
use Rattle.module_semantics.specs.Steps.{based_among}
use Rattle.module_semantics.specs.Setting.{is_listed}
use Rattle.run_state.proofs.Based.{insts_in, blocks_more}
use Rattle.run_state.proofs.chain.based_on.Goals as goal

pub loop-block-preserved : goal.loop-block-preserved
loop-block-preserved c =
    let bs = c.as_slice-block-items.result.now in
    let k = c.loop-block.block-index in
    let old = is_listed c.loop-block.based.items in
    let new = is_listed c.add_based_in.new.based.items in
    subst (λ xs. based_among c.args.chain new (insts_in (drop (k + 1) xs)) ≡ based_among c.args.chain old (insts_in (drop k xs))) (c.as_slice-block-items.ensures ∙ ap (λ (f : Function). f.blocks) c.function.ensures)
    (blocks_more c.args.chain bs k c.block-item.result old new c.loop-block-test.true c.block-item.is (λ q. c.in_ok-add_based_in.ensures q ∙ ap (λ xs. based_among c.args.chain old xs q) c.as_slice.ensures))
    ∙ c.loop-block.invariant

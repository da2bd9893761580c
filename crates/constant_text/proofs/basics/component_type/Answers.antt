use Rattle.std.proofs.Common.{◌≡◌, Some, slice_index, subst, sym, ◌∙◌}
use Rattle.spv_module.specs.Held.{global}
use Rattle.constant_text.proofs.Basic.{part_before, part_behind}
use Rattle.constant_text.proofs.basics.component_type.Goals as goal

pub returns-then-part-inst : goal.returns-then-part-inst
returns-then-part-inst c =
    let gs = c.args.module.now.globals in
    let id = slice_index c.args.inst.now.args 0 in
    let there : global gs id ≡ Some c.in_ok-part.part.now = sym (subst (λ k. Some c.in_ok-part.part.now ≡ global gs k) c.operand.ensures c.in_ok-part.ensures) in
    c.scalar.ensures gs ∙ sym (part_before gs c.args.inst.now.at id c.in_ok-part.part.now there c.if-part-inst.true)

pub returns-else-part-inst : goal.returns-else-part-inst
returns-else-part-inst c =
    let gs = c.args.module.now.globals in
    let id = slice_index c.args.inst.now.args 0 in
    let there : global gs id ≡ Some c.in_ok-part.part.now = sym (subst (λ k. Some c.in_ok-part.part.now ≡ global gs k) c.operand.ensures c.in_ok-part.ensures) in
    sym (part_behind gs c.args.inst.now.at id c.in_ok-part.part.now there c.if-part-inst.false)

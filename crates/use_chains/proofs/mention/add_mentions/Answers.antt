use Rattle.std.proofs.Common.{◌≡◌, ◌<◌, ◌∙◌, ℕ, length, ap, sym, subst}
use Rattle.spv_module.specs.declared.inst.Inst.{Inst}
use Rattle.use_chains.specs.Slots.{is_slot}
use Rattle.use_chains.proofs.Taken.{taken_yes, taken_no}
use Rattle.use_chains.proofs.mention.add_mentions.Goals as goal
use Rattle.use_chains.proofs.mention.add_mentions.Goals.{then-mentions+in_ok-push, else-mentions}

pub loop-k-preserved : goal.loop-k-preserved
loop-k-preserved c =
    let inside : c.loop-k.k < length c.args.inst.now.args = subst (λ xs. c.loop-k.k < length xs) c.as_slice-id-items.ensures c.loop-k-test.true in
    let slot : is_slot c.args.locals.now c.args.reached.now c.args.inst.now c.loop-k.k ≡ c.mentions.result = sym (c.mentions.ensures ∙ ap (λ (i : Inst). is_slot c.args.locals.now c.args.reached.now i c.loop-k.k) c.of-operands.ensures) in
    elim c.if-mentions.branch [
      | then-mentions+in_ok-push w ↦
          rw (w.mentions-is, w.in_ok-push.ensures.items, c.as_slice-id-items.ensures)
          (taken_yes (λ (operand : ℕ × ℕ). is_slot c.args.locals.now c.args.reached.now c.args.inst.now operand.0) (λ (operand : ℕ × ℕ). operand.1) c.loop-k.mentions.items c.args.inst.now.args c.loop-k.k 0 inside (slot ∙ w.if-mentions.true) ∙ c.loop-k.invariant)
      | else-mentions w ↦
          rw w.mentions-is
          (taken_no (λ (operand : ℕ × ℕ). is_slot c.args.locals.now c.args.reached.now c.args.inst.now operand.0) (λ (operand : ℕ × ℕ). operand.1) c.loop-k.mentions.items c.args.inst.now.args c.loop-k.k 0 inside (slot ∙ w.if-mentions.false) ∙ c.loop-k.invariant)
    ]

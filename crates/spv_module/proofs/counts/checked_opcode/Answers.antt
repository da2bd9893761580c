use Rattle.std.proofs.Common.{◌≡◌, refl, sym, ◌∙◌, Some, None, rules}
use Rattle.spv_words.specs.Words.{nth_inst}
use Rattle.spv_ops.specs.Opcode.{op_of}
use Rattle.spv_module.proofs.Behind.{unknown_none, unknown_inner, misfit_here}
use Rattle.spv_module.proofs.counts.checked_opcode.Goals as goal

pub returns-in-None-clause-refused : goal.returns-in-None-clause-refused
returns-in-None-clause-refused c =
    let here : op_of (nth_inst c.args.words.now c.args.i).opcode ≡ None = search rules in
    rw c.refused.ensures (c.args.i, c.requires, refl, unknown_none c.args.words.now (nth_inst c.args.words.now c.args.i) here)

pub returns-then-lacks_inner-clause-refused : goal.returns-then-lacks_inner-clause-refused
returns-then-lacks_inner-clause-refused c =
    let here : op_of (nth_inst c.args.words.now c.args.i).opcode ≡ Some c.in-Some.op = search rules in
    rw c.refused-then-lacks_inner.ensures (c.args.i, c.requires, refl, unknown_inner c.args.words.now (nth_inst c.args.words.now c.args.i) c.in-Some.op here (sym c.lacks_inner.ensures ∙ c.if-lacks_inner.true))

pub returns-then-is_misfit-clause-refused : goal.returns-then-is_misfit-clause-refused
returns-then-is_misfit-clause-refused c =
    let here : op_of (nth_inst c.args.words.now c.args.i).opcode ≡ Some c.in-Some.op = search rules in
    rw c.refused-then-is_misfit.ensures (c.args.i, c.requires, refl, misfit_here c.args.words.now (nth_inst c.args.words.now c.args.i) c.in-Some.op here (sym c.is_misfit.ensures ∙ c.if-is_misfit.true))

use Rattle.std.proofs.Common.{◌≡◌, refl}
use Rattle.spv_words.specs.Words.{nth_inst}
use Rattle.spv_module.specs.Ids.{result_by}
use Rattle.spv_module.specs.Inst.{inst_of}
use Rattle.spv_module.specs.declared.inst.Inst.{Inst}
use Rattle.spv_module.specs.declared.kind.Kind.{Kind}
use Rattle.spv_module.specs.declared.kind.Kind.TheVariants.{Debug}
use Rattle.spv_module.proofs.Results.{result_at}
use Rattle.spv_module.proofs.ids.checked_result.Goals as goal

-- what the rule considers has its result
considered : (k : Kind) → (k ≡ Debug → ⊥) → (i : Inst) → result_by k i ≡ i.result
considered Debug not i = absurd (not refl)
considered k not i = refl

pub returns-else-has_operand_out-clause-value : goal.returns-else-has_operand_out-clause-value
returns-else-has_operand_out-clause-value c =
    let own : Inst = inst_of c.args.rows.now (nth_inst c.args.rows.now c.args.i) in
    let all : result_by c.kind-kind.result own ≡ own.result = considered c.kind-kind.result c.in_default.not-Debug own in
    rw (result_at c.args.rows.now c.args.i c.requires, ← c.kind-kind.ensures, all, c.result_in-id.ensures, c.own_words-own.ensures, c.outcome_of-outcome.ensures.typed, c.outcome_of-outcome.ensures.named, c.op-op.ensures) refl

use Rattle.std.proofs.Common.{◌≡◌, ℕ, zero, suc, List, [], ◌∷◌, Some, ap, sym, subst, ◌∙◌, arith}
use Rattle.std.specs.Prelude.{slice_get}
use Rattle.std.specs.List.{All}
use Rattle.std.proofs.lemmas.List.Elements.{All-nil, All-head, All-tail}
use Rattle.std.proofs.lemmas.Grind.{common_steps}
use Rattle.std.proofs.lemmas.Option.{gets}
use Rattle.spv_module.specs.declared.inst.Function.{Function}
use Rattle.spv_module.specs.declared.inst.Block.{Block}
use Rattle.few_law.specs.Short.{HasFewArgs, IsShortBlock}
use Rattle.expr_forward.proofs.context.Context.insts_at.Goals as goal

found_short : (bs : List Block) (k : ℕ) (b : Block) → All IsShortBlock bs → slice_get bs k ≡ Some b → IsShortBlock b
found_short [] k b short found = cc
found_short (c ∷ bs) zero b short found = (let same : c ≡ b = cc in subst IsShortBlock same (All-head IsShortBlock c bs short))
found_short (c ∷ bs) (suc k) b short found = found_short bs k b (All-tail IsShortBlock c bs short) found

pub returns-in-None-clause-few : goal.returns-in-None-clause-few
returns-in-None-clause-few c = All-nil HasFewArgs

pub returns-in-Some-clause-few : goal.returns-in-Some-clause-few
returns-in-Some-clause-few c =
    let b : Block = c.in-Some.found.now in
    let bs : List Block = c.as_slice.result.now in
    let same = c.as_slice.ensures ∙ ap (λ (f : Function). f.blocks) c.function.ensures in
    let found : slice_get bs c.args.block ≡ Some b = grind (arith, common_steps, gets, c.get.ensures.lookup, c.in-Some.is) in
    let short : All IsShortBlock bs = subst (All IsShortBlock) (sym same) c.self.invariant.1.0 in
    subst (All HasFewArgs) (sym c.as_slice-in-Some.ensures) (found_short bs c.args.block b short found)

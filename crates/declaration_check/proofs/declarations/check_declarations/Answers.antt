use Rattle.std.proofs.Common.{ℕ, List, Option, subst}
use Rattle.std.specs.Prelude.{option_map}
use Rattle.std.specs.Borrow.{Bor}
use Rattle.spv_words.specs.Breaks.{NoRuleBroken}
use Rattle.spv_module.specs.State.{ModuleState}
use Rattle.profile_rules.specs.DataRules.{Broken, data_rules}
use Rattle.declaration_check.proofs.Judged.{passes_by}
use Rattle.declaration_check.proofs.declarations.check_declarations.Goals as goal

pub returns-clause-passes : goal.returns-clause-passes
returns-clause-passes c =
    let m : ModuleState = c.in_ok-context.context in
    let name : Option (List ℕ) = option_map (λ (n : Bor (List ℕ)). n.now) c.args.entry in
    let all : NoRuleBroken (Broken m name) data_rules = passes_by m name c.in_ok-inst.inst.now c.in_ok-inst.ensures.chosen c.in_ok-inst.ensures.x1 c.in_ok-inst.ensures.x2 c.in_ok-check_all.ensures.passes in
    let P : ModuleState → Type 0 = λ x. NoRuleBroken (Broken x name) data_rules in
    subst P c.in_ok-context.ensures all

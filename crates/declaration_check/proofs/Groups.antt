-- Checks of single rules, as one check of several.
use Rattle.std.proofs.Common.{◌≡◌, ◌++◌, List, [], ◌∷◌, Result, Err, sym, subst}
use Rattle.std.specs.Prelude.{Contains}
use Rattle.spv_words.specs.declared.rule.Rule.{Rule}
use Rattle.spv_words.specs.declared.rule.Fault.{Fault}
use Rattle.spv_words.specs.declared.rule.Fault.TheVariants.{Refused, Limit, Memory}
use Rattle.spv_module.specs.State.{ModuleState}
use Rattle.spv_module.specs.declared.inst.Inst.{Inst}
use Rattle.declaration_check.specs.Checked.{IsCause, IsChecked}
use Rattle.declaration_check.specs.Grouped.{broken_with, AreUnbroken, IsBroken, AreChecked}

pub broken_by : (m : ModuleState) (entry : Inst) (rule : Rule) (fault : Fault) → IsCause rule (broken_with m entry rule) fault → IsBroken m entry fault
broken_by m entry rule (Refused r) cause = let P : Rule → Type 0 = λ x. Contains (broken_with m entry x) r.at in subst P (sym cause.0) cause.1
broken_by m entry rule (Limit l) cause = cause
broken_by m entry rule Memory cause = tt

-- a refusal by one of them
pub refused_by : (m : ModuleState) (entry : Inst) (rules : List Rule) (rule : Rule) (fault : Fault) (result : Result (Unit {0}) Fault) → IsChecked rule (broken_with m entry rule) (Err fault) → result ≡ Err fault → AreChecked m entry rules result
refused_by m entry rules rule fault result checked is =
    let P : Result (Unit {0}) Fault → Type 0 = AreChecked m entry rules in
    let by : AreChecked m entry rules (Err fault) = record { passes = tt; refused = broken_by m entry rule fault checked.refused } in
    subst P (sym is) by

-- two groups, as one
pub joined : (m : ModuleState) (entry : Inst) (xs ys : List Rule) → AreUnbroken m entry xs → AreUnbroken m entry ys → AreUnbroken m entry (xs ++ ys)
joined m entry [] ys h k = k
joined m entry (x ∷ xs) ys h k = (h.0, joined m entry xs ys h.1 k)

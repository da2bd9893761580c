-- The rules on what a module declares, where an entry point is chosen.
use Rattle.std.specs.Prelude.{ℕ, ◌≡◌, List, [], ◌∷◌, Contains, Result, OnOk, IfErr}
use Rattle.spv_words.specs.declared.rule.Rule.{Rule}
use Rattle.spv_words.specs.declared.rule.Rule.TheVariants.{P5, P6, P7, P8, P9, P10, P13, P14, P15, P16, P17, P18, P19, P20}
use Rattle.spv_words.specs.declared.rule.Fault.{Fault}
use Rattle.spv_words.specs.declared.rule.Fault.TheVariants.{Refused, Limit, Memory}
use Rattle.spv_module.specs.State.{ModuleState}
use Rattle.spv_module.specs.declared.inst.Inst.{Inst}
use Rattle.profile_rules.specs.Heads.{p5, p6, p7}
use Rattle.profile_rules.specs.Entry.{p8_of, p9_of, p10_of}
use Rattle.profile_rules.specs.Variables.{p13, p14, p15, p16}
use Rattle.profile_rules.specs.TypeForm.{p17, p18, p19, p20}

-- the words at which a rule is broken, where this entry point is chosen
abbrev pub broken_with : ModuleState → Inst → Rule → List ℕ
broken_with m entry P5 = p5 m.heads
broken_with m entry P6 = p6 m.heads
broken_with m entry P7 = p7 m.heads
broken_with m entry P8 = p8_of m entry
broken_with m entry P9 = p9_of m entry
broken_with m entry P10 = p10_of m entry
broken_with m entry P13 = p13 m
broken_with m entry P14 = p14 m
broken_with m entry P15 = p15 m
broken_with m entry P16 = p16 m
broken_with m entry P17 = p17 m
broken_with m entry P18 = p18 m
broken_with m entry P19 = p19 m
broken_with m entry P20 = p20 m
broken_with m entry _ = []

-- none of these rules is broken
abbrev pub AreUnbroken : ModuleState → Inst → List Rule → Type 0
AreUnbroken m entry [] = Unit {0}
AreUnbroken m entry (rule ∷ rules) = (broken_with m entry rule ≡ []) × AreUnbroken m entry rules

-- a refusal by a rule that is broken at its word
abbrev pub IsBroken : ModuleState → Inst → Fault → Type 0
IsBroken m entry (Refused r) = Contains (broken_with m entry r.rule) r.at
IsBroken m entry (Limit l) = ⊥
IsBroken m entry Memory = Unit {0}

-- what a check of several rules answers
pub record AreChecked (m : ModuleState) (entry : Inst) (rules : List Rule) (result : Result (Unit {0}) Fault) : Type 0 where
  pub passes : OnOk result (AreUnbroken m entry rules)
  pub refused : IfErr result (IsBroken m entry)

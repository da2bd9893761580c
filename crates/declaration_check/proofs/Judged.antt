-- What is broken where an entry point is chosen, said of the module.
use Rattle.std.proofs.Common.{◌≡◌, ℕ, length, List, [], Option, Some, sym, subst, ap, ◌∙◌, arith}
use Rattle.std.specs.Prelude.{Contains}
use Rattle.std.specs.Option.{option_map_or}
use Rattle.spv_words.specs.declared.rule.Rule.{Rule}
use Rattle.spv_words.specs.declared.rule.Rule.TheVariants.{P5, P6, P7, P8, P9, P10, P13, P14, P15, P16, P17, P18, P19, P20}
use Rattle.spv_words.specs.declared.rule.Fault.{Fault}
use Rattle.spv_words.specs.declared.rule.Fault.TheVariants.{Refused, Limit, Memory}
use Rattle.spv_words.specs.Breaks.{NoRuleBroken}
use Rattle.spv_module.specs.State.{ModuleState}
use Rattle.spv_module.specs.declared.inst.Inst.{Inst}
use Rattle.profile_rules.specs.Entry.{chosen, x1, x2, p8, p8_of, p9, p9_of, p10, p10_of, composite_faults}
use Rattle.profile_rules.specs.DataRules.{Broken, Breaks, IsRight, choice_rules, form_rules, data_rules}
use Rattle.declaration_check.specs.Grouped.{broken_with, AreUnbroken, IsBroken}

none_in : (words : List ℕ) → words ≡ [] → (at : ℕ) → Contains words at → ⊥
none_in words none at (k, inside, is) = let e = ap length none in absurd (omega arith)

no_choice : (m : ModuleState) (name : Option (List ℕ)) → x1 name m.heads ≡ [] → x2 name m.heads ≡ [] → NoRuleBroken (Broken m name) choice_rules
no_choice m name first second = (none_in (x1 name m.heads) first, (none_in (x2 name m.heads) second, tt))

module _ (m : ModuleState) (name : Option (List ℕ)) (entry : Inst) (is : chosen name m.heads ≡ Some entry) where
  p8_is : p8 m name ≡ p8_of m entry
  p8_is = ap (λ o. option_map_or (p8_of m) o []) is

  p9_is : p9 m name ≡ p9_of m entry
  p9_is = ap (λ o. option_map_or (p9_of m) o []) is

  p10_is : p10 m name ≡ p10_of m entry
  p10_is = ap (λ o. option_map_or (p10_of m) o (composite_faults m)) is

  module _ (first : x1 name m.heads ≡ []) (second : x2 name m.heads ≡ []) where
    breaks : (rule : Rule) (at : ℕ) → Contains (broken_with m entry rule) at → Breaks m name rule at
    breaks P5 at h = (no_choice m name first second, h)
    breaks P6 at h = (no_choice m name first second, h)
    breaks P7 at h = (no_choice m name first second, h)
    breaks P8 at h = (no_choice m name first second, (let P : List ℕ → Type 0 = λ l. Contains l at in subst P (sym p8_is) h))
    breaks P9 at h = (no_choice m name first second, (let P : List ℕ → Type 0 = λ l. Contains l at in subst P (sym p9_is) h))
    breaks P10 at h = (no_choice m name first second, (let P : List ℕ → Type 0 = λ l. Contains l at in subst P (sym p10_is) h))
    breaks P13 at h = (no_choice m name first second, h)
    breaks P14 at h = (no_choice m name first second, h)
    breaks P15 at h = (no_choice m name first second, h)
    breaks P16 at h = (no_choice m name first second, h)
    breaks P17 at h = (no_choice m name first second, h)
    breaks P18 at h = (no_choice m name first second, h)
    breaks P19 at h = (no_choice m name first second, h)
    breaks P20 at h = (no_choice m name first second, h)
    breaks _ at (k, inside, is) = absurd (omega arith)

    pub right_by : (fault : Fault) → IsBroken m entry fault → IsRight m name fault
    right_by (Refused r) h = breaks r.rule r.at h
    right_by (Limit l) h = h
    right_by Memory h = tt

    pub passes_by : AreUnbroken m entry form_rules → NoRuleBroken (Broken m name) data_rules
    passes_by h = (
      none_in (x1 name m.heads) first,
      (
        none_in (x2 name m.heads) second,
        (
          none_in _ h.0,
          (
            none_in _ h.1.0,
            (
              none_in _ h.1.1.0,
              (
                none_in _ (p8_is ∙ h.1.1.1.0),
                (
                  none_in _ (p9_is ∙ h.1.1.1.1.0),
                  (
                    none_in _ (p10_is ∙ h.1.1.1.1.1.0),
                    (
                      none_in _ h.1.1.1.1.1.1.0,
                      (
                        none_in _ h.1.1.1.1.1.1.1.0,
                        (
                          none_in _ h.1.1.1.1.1.1.1.1.0,
                          (
                            none_in _ h.1.1.1.1.1.1.1.1.1.0,
                            (
                              none_in _ h.1.1.1.1.1.1.1.1.1.1.0,
                              (
                                none_in _ h.1.1.1.1.1.1.1.1.1.1.1.0,
                                (
                                  none_in _ h.1.1.1.1.1.1.1.1.1.1.1.1.0,
                                  (
                                    none_in _ h.1.1.1.1.1.1.1.1.1.1.1.1.1.0,
                                    tt,
                                  ),
                                ),
                              ),
                            ),
                          ),
                        ),
                      ),
                    ),
                  ),
                ),
              ),
            ),
          ),
        ),
      ),
    )

pub ruleset judged_rules = (right_by, passes_by)

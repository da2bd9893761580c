-- What the crates that read and judge a module say of its rules, said of its bytes.
use Rattle.std.proofs.Common.{◌≡◌, ◌<◌, ◌≤◌, length, ℕ, List, [], ◌∷◌, ◌++◌, Option, None, Some, IsSomeAnd, subst, sym, arith, refl}
use Rattle.std.specs.List.{All, Any, Contains}
use Rattle.std.proofs.lemmas.List.Elements.{All-contains}
use Rattle.spv_words.specs.declared.rule.Rule.{Rule}
use Rattle.spv_words.specs.declared.rule.Rule.TheVariants.{W1, W2, W3, W4, W5, W6, W7, W8, W9, X1, X2, X3, X4, P1, P2, P3, P4, P5, P6, P7, P8, P9, P10, P11, P12, P13, P14, P15, P16, P17, P18, P19, P20, M6, K1, K2, K3, K4, K5, K6, K7, K8, K9, K10, K11}
use Rattle.spv_words.specs.declared.rule.Refusal.{Refusal}
use Rattle.spv_words.specs.declared.rule.Fault.{Fault}
use Rattle.spv_words.specs.declared.rule.Fault.TheVariants.{Refused, Limit, Memory}
use Rattle.spv_words.specs.declared.rule.Limit.TheVariants as limit
use Rattle.spv_words.specs.Rule.{letter_of}
use Rattle.spv_words.specs.Words.{words}
use Rattle.spv_words.specs.Limit.{limit_number}
use Rattle.spv_words.specs.Breaks.{Broken as BrokenWords, NoRuleBroken, AreWords, bound}
use Rattle.spv_module.specs.Broken.{Broken as BrokenForm, Breaks as BreaksForm, IsRight as IsRightOfForm}
use Rattle.spv_module.specs.declared.inst.Inst.{Inst}
use Rattle.spv_module.specs.declared.inst.Function.{Function}
use Rattle.spv_decor.specs.Broken.{Broken as BrokenDecorations, IsRight as IsRightOfDecorations}
use Rattle.spv_decor.specs.Rows.{word}
use Rattle.spv_types.specs.Types.{depth_at, parts_at}
use Rattle.profile_rules.specs.Entry.{chosen}
use Rattle.profile_rules.specs.DataRules.{Broken as BrokenData, Breaks as BreaksData, IsRight as IsRightOfData, choice_rules, form_rules as data_rules}
use Rattle.profile_rules.specs.TypeRules.{broken, AreWithin, Broken as BrokenTypes, IsRight as IsRightOfTypes, type_rules}
use Rattle.profile_rules.specs.AccessRules.{Broken as BrokenAccess, access_rules}
use Rattle.profile_rules.specs.Leaves.{leaves_of_module}
use Rattle.profile_rules.specs.Calls.{Broken as BrokenCalls, IsAcyclic, IsWithinCalls, Exceeds as CallsExceed, IsRight as IsRightOfCalls}
use Rattle.layout_rules.specs.Blocks.{Broken as BrokenLayout}
use Rattle.structure_rules.specs.Graph.{graph}
use Rattle.structure_rules.specs.Structure.{BrokenIn, BreaksIn, IsTooDeep, IsRightStructure, structure_rules}
use Rattle.conformance.proofs.TypeRefusals.{on_types as types_alone}
use Rattle.conformance.proofs.LaterRules.{on_access as accesses_alone, on_layout as letter_on_layout}
use Rattle.conformance.specs.Rules.{Options, Group, on_words, on_strings, on_form, on_decorations, on_choice, on_data, on_types, on_layout, on_access, on_recursion, on_structure, on_overrides, group_of, module_in, before_group, BrokenOf, BrokenOverrides, BrokenFirst, Broken, Breaks, Conforms, IsFormed, IsRight, IsWithinLimits, word_rules, text_rules, list_rules, rules_to_choice, rules_to_data, rules_to_types}

-- rules that are not broken, and others
none_broken : (broken : Rule → ℕ → Type 0) (first second : List Rule) → NoRuleBroken broken first → NoRuleBroken broken second → NoRuleBroken broken (first ++ second)
none_broken broken [] second h k = k
none_broken broken (rule ∷ rules) second h k = (h.0, none_broken broken rules second h.1 k)

nothing : (at : ℕ) → Contains [] at → ⊥
nothing at h = omega (arith, h.1)

nothing_there : (list : List Refusal) (r : Refusal) → list ≡ [] → Contains list r → ⊥
nothing_there list r is h = omega (arith, (subst (λ (l : List Refusal). Contains l r) is h).1)

-- what holds of some, whatever it is
some_of : {X P : Type 0} (o : Option X) → IsSomeAnd o (λ x. P) → P
some_of None h = absurd h
some_of (Some x) h = h

module _ (bytes : List ℕ) (o : Options) where
  -- no rule before those on the form is broken, before the choice of the entry point, before the other rules on data, before those on types
  texts : IsFormed bytes → NoRuleBroken (Broken bytes o) text_rules
  texts h = none_broken (Broken bytes o) word_rules (W9 ∷ []) h.0 (h.1.0, tt)

  lists : IsFormed bytes → NoRuleBroken (BrokenDecorations (module_in bytes)) (P11 ∷ P12 ∷ []) → NoRuleBroken (Broken bytes o) list_rules
  lists h d = none_broken (Broken bytes o) text_rules (P1 ∷ P2 ∷ P3 ∷ P4 ∷ P11 ∷ P12 ∷ []) (texts h) (h.1.1.0, (h.1.1.1.0, (h.1.1.1.1.0, (h.1.1.1.1.1.0, d))))

  to_choice : IsFormed bytes → NoRuleBroken (BrokenDecorations (module_in bytes)) (P11 ∷ P12 ∷ []) → NoRuleBroken (BrokenData (module_in bytes) o.entry) choice_rules → NoRuleBroken (Broken bytes o) rules_to_choice
  to_choice h d c = none_broken (Broken bytes o) list_rules choice_rules (lists h d) c

  to_data : IsFormed bytes → NoRuleBroken (BrokenDecorations (module_in bytes)) (P11 ∷ P12 ∷ []) → NoRuleBroken (BrokenData (module_in bytes) o.entry) choice_rules → NoRuleBroken (BrokenData (module_in bytes) o.entry) data_rules → NoRuleBroken (Broken bytes o) rules_to_data
  to_data h d c p = none_broken (Broken bytes o) rules_to_choice data_rules (to_choice h d c) p

  form_break : (rule : Rule) (at : ℕ) → AreWords bytes → BreaksForm (words bytes) rule at → Breaks bytes o rule at
  form_break W9 at h b = (h, b.1)
  form_break P1 at h b = (none_broken (Broken bytes o) word_rules (W9 ∷ []) h b.0, b.1)
  form_break P2 at h b = (none_broken (Broken bytes o) word_rules (W9 ∷ []) h b.0, b.1)
  form_break P3 at h b = (none_broken (Broken bytes o) word_rules (W9 ∷ []) h b.0, b.1)
  form_break P4 at h b = (none_broken (Broken bytes o) word_rules (W9 ∷ []) h b.0, b.1)
  form_break _ at h b = absurd b.1

  -- a fault that the form of the module has
  pub form_right : (fault : Fault) → AreWords bytes → IsRightOfForm (words bytes) fault → IsRight bytes o fault
  form_right (Refused r) words_fine h = form_break r.rule r.at words_fine h
  form_right (Limit l) words_fine h = absurd h
  form_right Memory words_fine h = tt

  decorations_break : (rule : Rule) (at : ℕ) → NoRuleBroken (Broken bytes o) text_rules → BrokenDecorations (module_in bytes) rule at → Breaks bytes o rule at
  decorations_break P11 at h b = (h, b)
  decorations_break P12 at h b = (h, b)
  decorations_break _ at h b = absurd b

  -- a fault that the decorations have
  pub decorations_right : (fault : Fault) → IsFormed bytes → IsRightOfDecorations (module_in bytes) fault → IsRight bytes o fault
  decorations_right (Refused r) formed h = decorations_break r.rule r.at (texts formed) h
  decorations_right (Limit l) formed h = absurd h
  decorations_right Memory formed h = tt

  data_break : (rule : Rule) (at : ℕ) → IsFormed bytes → NoRuleBroken (BrokenDecorations (module_in bytes)) (P11 ∷ P12 ∷ []) → BreaksData (module_in bytes) o.entry rule at → Breaks bytes o rule at
  data_break X1 at h d b = (lists h d, b.1)
  data_break X2 at h d b = (lists h d, b.1)
  data_break P5 at h d b = (to_choice h d b.0, b.1)
  data_break P6 at h d b = (to_choice h d b.0, b.1)
  data_break P7 at h d b = (to_choice h d b.0, b.1)
  data_break P8 at h d b = (to_choice h d b.0, b.1)
  data_break P9 at h d b = (to_choice h d b.0, b.1)
  data_break P10 at h d b = (to_choice h d b.0, b.1)
  data_break P13 at h d b = (to_choice h d b.0, b.1)
  data_break P14 at h d b = (to_choice h d b.0, b.1)
  data_break P15 at h d b = (to_choice h d b.0, b.1)
  data_break P16 at h d b = (to_choice h d b.0, b.1)
  data_break P17 at h d b = (to_choice h d b.0, b.1)
  data_break P18 at h d b = (to_choice h d b.0, b.1)
  data_break P19 at h d b = (to_choice h d b.0, b.1)
  data_break P20 at h d b = (to_choice h d b.0, b.1)
  data_break _ at h d b = absurd (nothing at b.1)

  -- a fault that its data have
  pub data_right : (fault : Fault) → IsFormed bytes → NoRuleBroken (BrokenDecorations (module_in bytes)) (P11 ∷ P12 ∷ []) → IsRightOfData (module_in bytes) o.entry fault → IsRight bytes o fault
  data_right (Refused r) formed fine h = data_break r.rule r.at formed fine h
  data_right (Limit l) formed fine h = absurd h
  data_right Memory formed fine h = tt

  on_types_of : (rule : Rule) → letter_of rule ≡ 84 → group_of rule ≡ on_types
  on_types_of rule is = rw is refl

  types_break : (rule : Rule) (at : ℕ) → letter_of rule ≡ 84 → NoRuleBroken (Broken bytes o) rules_to_data → BrokenTypes (module_in bytes) rule at → Breaks bytes o rule at
  types_break rule at is h b = subst (λ (g : Group). NoRuleBroken (Broken bytes o) (before_group g rule) × BrokenFirst bytes o g rule at) (sym (on_types_of rule is)) (h, b)

  -- a fault that its types have
  pub types_right : (fault : Fault) → IsFormed bytes → NoRuleBroken (BrokenDecorations (module_in bytes)) (P11 ∷ P12 ∷ []) → NoRuleBroken (BrokenData (module_in bytes) o.entry) (choice_rules ++ data_rules) → IsRightOfTypes (module_in bytes) fault → IsRight bytes o fault
  types_right (Refused r) formed fine judged h = types_break r.rule r.at (types_alone (module_in bytes) r h) (none_broken (Broken bytes o) list_rules (choice_rules ++ data_rules) (lists formed fine) judged) h
  types_right (Limit limit.Types) formed fine judged h = (formed, h)
  types_right (Limit limit.Parts) formed fine judged h = (formed, h)
  types_right (Limit _) formed fine judged h = absurd h.4
  types_right Memory formed fine judged h = tt

  -- no rule before those behind the ones on types is broken
  pub to_types : IsFormed bytes → NoRuleBroken (BrokenDecorations (module_in bytes)) (P11 ∷ P12 ∷ []) → NoRuleBroken (BrokenData (module_in bytes) o.entry) (choice_rules ++ data_rules) → NoRuleBroken (BrokenTypes (module_in bytes)) type_rules → NoRuleBroken (Broken bytes o) rules_to_types
  to_types formed fine judged typed = none_broken (Broken bytes o) rules_to_data type_rules (none_broken (Broken bytes o) list_rules (choice_rules ++ data_rules) (lists formed fine) judged) typed

  on_layout_of : (rule : Rule) → letter_of rule ≡ 76 → group_of rule ≡ on_layout
  on_layout_of rule is = rw is refl

  module _ (late : NoRuleBroken (Broken bytes o) rules_to_types) where
    -- a rule on layout that is broken, on accesses, on overrides
    pub layout_break : (rule : Rule) (at : ℕ) → BrokenLayout (module_in bytes) rule at → Breaks bytes o rule at
    layout_break rule at b = subst (λ (g : Group). NoRuleBroken (Broken bytes o) (before_group g rule) × BrokenFirst bytes o g rule at) (sym (on_layout_of rule (letter_on_layout (module_in bytes) rule at b))) (late, b)

    pub access_break : (rule : Rule) (at : ℕ) → BrokenAccess (module_in bytes) rule at → Breaks bytes o rule at
    access_break rule at b =
        accesses_alone (module_in bytes) at (λ (r : Rule). BrokenAccess (module_in bytes) r at → Breaks bytes o r at)
        (λ h. (late, h)) (λ h. (late, h)) (λ h. (late, h)) (λ h. (late, h)) (λ h. (late, h))
        (λ h. (late, h)) (λ h. (late, h)) (λ h. (late, h)) (λ h. (late, h)) (λ h. (late, h)) rule b b

    pub overrides_break : (rule : Rule) (at : ℕ) → BrokenOverrides (module_in bytes) o.overrides rule at → Breaks bytes o rule at
    overrides_break X3 at b = (late, b)
    overrides_break X4 at b = (late, b)
    overrides_break _ at b = absurd b

    structure_break : (f : Function) → Contains (module_in bytes).functions f → (rule : Rule) (at : ℕ) → BreaksIn (graph f) rule at → Breaks bytes o rule at
    structure_break f has K1 at b = (late, (f, has, b))
    structure_break f has K2 at b = (late, (f, has, b))
    structure_break f has K3 at b = (late, (f, has, b))
    structure_break f has K4 at b = (late, (f, has, b))
    structure_break f has K5 at b = (late, (f, has, b))
    structure_break f has K6 at b = (late, (f, has, b))
    structure_break f has K7 at b = (late, (f, has, b))
    structure_break f has K8 at b = (late, (f, has, b))
    structure_break f has K9 at b = (late, (f, has, b))
    structure_break f has K10 at b = (late, (f, has, b))
    structure_break f has K11 at b = (late, (f, has, b))
    structure_break f has _ at b = absurd b.1

    -- a fault that the structure of a function has
    pub structure_right : (f : Function) → Contains (module_in bytes).functions f → (fault : Fault) → IsFormed bytes → IsRightStructure f fault → IsRight bytes o fault
    structure_right f has (Refused r) formed h = structure_break f has r.rule r.at h
    structure_right f has (Limit l) formed h = rw h.0 (formed, (f, has, (h.1, h.2)))
    structure_right f has Memory formed h = tt

    recursion_break : (rule : Rule) (at : ℕ) → BrokenCalls (module_in bytes).functions rule at → Breaks bytes o rule at
    recursion_break M6 at b = (late, b)
    recursion_break _ at b = absurd b

  -- a fault that its calls have, from the function of the chosen entry point
  pub calls_right : (fault : Fault) → NoRuleBroken (Broken bytes o) rules_to_types → IsFormed bytes → NoRuleBroken (BrokenData (module_in bytes) o.entry) (choice_rules ++ data_rules) → IsSomeAnd (chosen o.entry (module_in bytes).heads) (λ (i : Inst). IsRightOfCalls (module_in bytes).functions (word i 1) fault) → IsRight bytes o fault
  calls_right (Refused r) late formed judged h = recursion_break late r.rule r.at (some_of (chosen o.entry (module_in bytes).heads) h)
  calls_right (Limit limit.Calls) late formed judged h = (formed, ((judged.0, (judged.1.0, (judged.1.1.1.1.1.0, tt))), h))
  calls_right (Limit _) late formed judged h = absurd (some_of (chosen o.entry (module_in bytes).heads) h)
  calls_right Memory late formed judged h = tt

  -- what is not broken, group by group
  module _ (formed : IsFormed bytes) (fine : NoRuleBroken (BrokenDecorations (module_in bytes)) (P11 ∷ P12 ∷ [])) (judged : NoRuleBroken (BrokenData (module_in bytes) o.entry) (choice_rules ++ data_rules)) (types : broken (module_in bytes) ≡ [])
      (layout : (rule : Rule) (at : ℕ) → BrokenLayout (module_in bytes) rule at → ⊥) (access : NoRuleBroken (BrokenAccess (module_in bytes)) access_rules)
      (overrides : (rule : Rule) (at : ℕ) → BrokenOverrides (module_in bytes) o.overrides rule at → ⊥)
      (structure : (f : Function) → Contains (module_in bytes).functions f → NoRuleBroken (BrokenIn (graph f)) structure_rules) (acyclic : IsAcyclic (module_in bytes).functions) where
    no_words : (rule : Rule) (at : ℕ) → BrokenWords bytes rule at → ⊥
    no_words W1 at b = formed.0.0 at b
    no_words W2 at b = formed.0.1.0 at b
    no_words W3 at b = formed.0.1.1.0 at b
    no_words W4 at b = formed.0.1.1.1.0 at b
    no_words W5 at b = formed.0.1.1.1.1.0 at b
    no_words W6 at b = formed.0.1.1.1.1.1.0 at b
    no_words W7 at b = formed.0.1.1.1.1.1.1.0 at b
    no_words W8 at b = formed.0.1.1.1.1.1.1.1.0 at b
    no_words _ at b = absurd b

    no_form : (rule : Rule) (at : ℕ) → BrokenForm (words bytes) rule at → ⊥
    no_form W9 at b = formed.1.0 at b
    no_form P1 at b = formed.1.1.0 at b
    no_form P2 at b = formed.1.1.1.0 at b
    no_form P3 at b = formed.1.1.1.1.0 at b
    no_form P4 at b = formed.1.1.1.1.1.0 at b
    no_form _ at b = absurd b

    no_decorations : (rule : Rule) (at : ℕ) → BrokenDecorations (module_in bytes) rule at → ⊥
    no_decorations P11 at b = fine.0 at b
    no_decorations P12 at b = fine.1.0 at b
    no_decorations _ at b = absurd b

    no_data : (rule : Rule) (at : ℕ) → BrokenData (module_in bytes) o.entry rule at → ⊥
    no_data X1 at b = judged.0 at b
    no_data X2 at b = judged.1.0 at b
    no_data P5 at b = judged.1.1.0 at b
    no_data P6 at b = judged.1.1.1.0 at b
    no_data P7 at b = judged.1.1.1.1.0 at b
    no_data P8 at b = judged.1.1.1.1.1.0 at b
    no_data P9 at b = judged.1.1.1.1.1.1.0 at b
    no_data P10 at b = judged.1.1.1.1.1.1.1.0 at b
    no_data P13 at b = judged.1.1.1.1.1.1.1.1.0 at b
    no_data P14 at b = judged.1.1.1.1.1.1.1.1.1.0 at b
    no_data P15 at b = judged.1.1.1.1.1.1.1.1.1.1.0 at b
    no_data P16 at b = judged.1.1.1.1.1.1.1.1.1.1.1.0 at b
    no_data P17 at b = judged.1.1.1.1.1.1.1.1.1.1.1.1.0 at b
    no_data P18 at b = judged.1.1.1.1.1.1.1.1.1.1.1.1.1.0 at b
    no_data P19 at b = judged.1.1.1.1.1.1.1.1.1.1.1.1.1.1.0 at b
    no_data P20 at b = judged.1.1.1.1.1.1.1.1.1.1.1.1.1.1.1.0 at b
    no_data _ at b = nothing at b

    no_types : (rule : Rule) (at : ℕ) → BrokenTypes (module_in bytes) rule at → ⊥
    no_types rule at b = nothing_there _ _ types b

    no_access : (rule : Rule) (at : ℕ) → BrokenAccess (module_in bytes) rule at → ⊥
    no_access rule at b =
        accesses_alone (module_in bytes) at (λ (r : Rule). BrokenAccess (module_in bytes) r at → ⊥)
        (access.0 at) (access.1.0 at) (access.1.1.0 at) (access.1.1.1.0 at) (access.1.1.1.1.0 at)
        (access.1.1.1.1.1.0 at) (access.1.1.1.1.1.1.0 at) (access.1.1.1.1.1.1.1.0 at) (access.1.1.1.1.1.1.1.1.0 at) (access.1.1.1.1.1.1.1.1.1.0 at) rule b b

    no_recursion : (rule : Rule) (at : ℕ) → BrokenCalls (module_in bytes).functions rule at → ⊥
    no_recursion M6 at b = acyclic at b
    no_recursion _ at b = absurd b

    no_structure : (f : Function) → NoRuleBroken (BrokenIn (graph f)) structure_rules → (rule : Rule) (at : ℕ) → BrokenIn (graph f) rule at → ⊥
    no_structure f none K1 at b = none.0 at b
    no_structure f none K2 at b = none.1.0 at b
    no_structure f none K3 at b = none.1.1.0 at b
    no_structure f none K4 at b = none.1.1.1.0 at b
    no_structure f none K5 at b = none.1.1.1.1.0 at b
    no_structure f none K6 at b = none.1.1.1.1.1.0 at b
    no_structure f none K7 at b = none.1.1.1.1.1.1.0 at b
    no_structure f none K8 at b = none.1.1.1.1.1.1.1.0 at b
    no_structure f none K9 at b = none.1.1.1.1.1.1.1.1.0 at b
    no_structure f none K10 at b = none.1.1.1.1.1.1.1.1.1.0 at b
    no_structure f none K11 at b = none.1.1.1.1.1.1.1.1.1.1.0 at b
    no_structure f none _ at b = absurd b

    none_of : (g : Group) (rule : Rule) (at : ℕ) → BrokenOf bytes o g rule at → ⊥
    none_of on_words = no_words
    none_of on_strings = no_form
    none_of on_form = no_form
    none_of on_decorations = no_decorations
    none_of on_choice = no_data
    none_of on_data = no_data
    none_of on_types = no_types
    none_of on_layout = layout
    none_of on_access = no_access
    none_of on_recursion = no_recursion
    none_of on_structure = λ rule at b. no_structure b.0 (structure b.0 b.1) rule at b.2
    none_of on_overrides = overrides

    -- no rule is broken
    pub conforms : Conforms bytes o
    conforms rule at b = none_of (group_of rule) rule at b

-- what holds of each holds of the one that is found
found : {X : Type 0} (P Q : X → Type 0) (list : List X) → All P list → Any Q list → (x : X) × P x × Q x
found P Q list all some = (some.1, All-contains P list some.1 all (some.0, some.2, some.3), some.4)

-- a chain of calls that is too long, and none
no_chain : (fs : List Function) (entry : Option Inst) → IsSomeAnd entry (λ (i : Inst). IsWithinCalls fs (word i 1)) → IsSomeAnd entry (λ (i : Inst). CallsExceed fs (word i 1) limit.Calls) → ⊥
no_chain fs None within h = h
no_chain fs (Some i) within h = omega (arith, h.1.1, within h.1.0 h.1.2)

module _ (bytes : List ℕ) (o : Options) (fits : length bytes ≤ limit_number limit.Bytes) (bounded : bound bytes ≤ limit_number limit.Bound) (types : AreWithin (module_in bytes))
    (leaves : leaves_of_module (module_in bytes) ≤ limit_number limit.Leaves) (shallow : (f : Function) → Contains (module_in bytes).functions f → IsTooDeep (graph f) → ⊥)
    (calls : IsSomeAnd (chosen o.entry (module_in bytes).heads) (λ (i : Inst). IsWithinCalls (module_in bytes).functions (word i 1))) where
  -- no limit is exceeded
  pub within_limits : IsWithinLimits bytes o
  within_limits limit.Bytes h = omega (arith, fits, h)
  within_limits limit.Bound h = omega (arith, bounded, h.1)
  within_limits limit.Types h =
      let gs = (module_in bytes).globals in
      let both = found (λ (g : Inst). (depth_at gs g ≤ limit_number limit.Types) × (parts_at gs g ≤ limit_number limit.Parts)) (λ (g : Inst). limit_number limit.Types < depth_at gs g) gs types h.1 in
      omega (arith, both.1.0, both.2)
  within_limits limit.Parts h =
      let gs = (module_in bytes).globals in
      let both = found (λ (g : Inst). (depth_at gs g ≤ limit_number limit.Types) × (parts_at gs g ≤ limit_number limit.Parts)) (λ (g : Inst). limit_number limit.Parts < parts_at gs g) gs types h.1 in
      omega (arith, both.1.1, both.2)
  within_limits limit.Leaves h = omega (arith, leaves, h.1)
  within_limits limit.Depth h = shallow h.1.0 h.1.1 h.1.2.1
  within_limits limit.Calls h = no_chain (module_in bytes).functions (chosen o.entry (module_in bytes).heads) calls h.1.1

first_broken : (bytes : List ℕ) (o : Options) (g : Group) (rule : Rule) (at : ℕ) → BrokenFirst bytes o g rule at → BrokenOf bytes o g rule at
first_broken bytes o on_structure rule at b = (b.0, b.1, b.2.1)
first_broken bytes o _ rule at b = b

-- a rule that is considered is broken
pub is_broken : (bytes : List ℕ) (o : Options) (rule : Rule) (at : ℕ) → Breaks bytes o rule at → Broken bytes o rule at
is_broken bytes o rule at h = first_broken bytes o (group_of rule) rule at h.1

-- What the crates that read and judge a module say of it, said of its bytes.
use Rattle.std.proofs.Common.{◌≡◌, ◌<◌, ◌≤◌, ℕ, false, List, [], ◌∷◌, ◌++◌, Option, None, Some, IsSomeAnd, length, subst, sym, ap, ◌∙◌}
use Rattle.std.specs.List.{Contains}
use Rattle.std.proofs.lemmas.List.Elements.{All-contains}
use Rattle.spv_words.specs.declared.rule.Rule.{Rule}
use Rattle.spv_words.specs.declared.rule.Rule.TheVariants.{X3, X4, P11, P12}
use Rattle.spv_words.specs.declared.rule.Fault.{Fault}
use Rattle.spv_words.specs.declared.rule.Fault.TheVariants.{Refused, Limit, Memory}
use Rattle.spv_words.specs.declared.rule.Limit.TheVariants.{Bytes, Bound, Types, Parts, Leaves}
use Rattle.spv_words.specs.Limit.{limit_number}
use Rattle.spv_words.specs.Words.{words}
use Rattle.spv_words.specs.Breaks.{NoRuleBroken, AreWords, bound}
use Rattle.spv_module.specs.State.{ModuleState}
use Rattle.spv_module.specs.Broken.{Broken as BrokenForm, IsRight as IsRightOfForm, form_rules}
use Rattle.spv_module.specs.Lists.{module_of}
use Rattle.spv_module.specs.declared.inst.Inst.{Inst}
use Rattle.spv_decor.specs.Broken.{Broken as BrokenDecorations, IsRight as IsRightOfDecorations}
use Rattle.spv_decor.specs.Rows.{word}
use Rattle.profile_rules.specs.declared.given.Given.{Given}
use Rattle.profile_rules.specs.Entry.{chosen}
use Rattle.profile_rules.specs.DataRules.{Broken as BrokenData, IsRight as IsRightOfData, choice_rules, form_rules as data_rules}
use Rattle.profile_rules.specs.TypeRules.{broken, AreWithin, Broken as BrokenTypes, IsRight as IsRightOfTypes, type_rules}
use Rattle.profile_rules.specs.AccessRules.{Broken as BrokenAccess, access_rules}
use Rattle.profile_rules.specs.Constants.{breaks_x3, breaks_x4}
use Rattle.profile_rules.specs.Leaves.{leaves_of_module}
use Rattle.profile_rules.specs.Calls.{AreCalleesFunctions, HaveOwnIds, IsAcyclic, IsWithinCalls, IsRight as IsRightOfCalls}
use Rattle.layout_rules.specs.Blocks.{Broken as BrokenLayout}
use Rattle.spec_constants.specs.Fit.{Broken as BrokenFit}
use Rattle.profile_check.specs.Data.{BreaksRest, laid_out, accessed, overridden, IsRestRight}
use Rattle.conformance.specs.Rules.{Options, BrokenOverrides, Broken, Breaks, Conforms, IsFormed, IsRight, IsWithinLimits, module_in, rules_to_types}
use Rattle.conformance.proofs.Considered.{form_right, decorations_right, data_right, types_right, to_types, layout_break, access_break, overrides_break, structure_right, calls_right, conforms, within_limits}
use Rattle.conformance.proofs.Callees.{callees_known}
use Rattle.conformance.proofs.OwnIds.{own_ids}
use Rattle.conformance.proofs.TypeLimits.{none_passes}
use Rattle.module_check.specs.Structure.{IsStructured, IsUnstructured}
use Rattle.module_check.specs.Judged.{IsFineLater, IsLaterFault, by_rest, by_structure, by_calls, IsTyped, IsEntry, IsFine, IsFault, by_declarations, by_types, by_later}

-- the rules on overrides, as they are judged
on_overrides : (m : ModuleState) (pairs : List (ℕ × Given)) (rule : Rule) (at : ℕ) → BrokenFit m pairs rule at → BrokenOverrides m pairs rule at
on_overrides m pairs X3 at b = b
on_overrides m pairs X4 at b = b
on_overrides m pairs _ at b = absurd b

no_overrides : (m : ModuleState) (pairs : List (ℕ × Given)) → breaks_x3 m pairs ≡ false → breaks_x4 m pairs ≡ false → (rule : Rule) (at : ℕ) → BrokenOverrides m pairs rule at → ⊥
no_overrides m pairs x3 x4 X3 at b = let broken = b.1 in cc
no_overrides m pairs x3 x4 X4 at b = let broken = b.1 in cc
no_overrides m pairs x3 x4 _ at b = b

-- what holds of the function of the entry point
at_entry : (m : ModuleState) (P : ℕ → Type 0) (entry : Option Inst) (id : ℕ) → IsSomeAnd entry (λ (i : Inst). id ≡ word i 1) → P id → IsSomeAnd entry (λ (i : Inst). P (word i 1))
at_entry m P None id at h = absurd at
at_entry m P (Some i) id at h = subst P at h

module _ (bytes ws : List ℕ) (o : Options) (is : ws ≡ words bytes) (fine : AreWords bytes) where
  pub form_fault : (fault : Fault) → IsRightOfForm ws fault → IsRight bytes o fault
  form_fault fault h = form_right bytes o fault fine (subst (λ (l : List ℕ). IsRightOfForm l fault) is h)

  module _ (m : ModuleState) (made : m ≡ module_of ws) (form : NoRuleBroken (BrokenForm ws) form_rules) where
    formed : IsFormed bytes
    formed = (fine, subst (λ (l : List ℕ). NoRuleBroken (BrokenForm l) form_rules) is form)

    same : m ≡ module_in bytes
    same = made ∙ ap module_of is

    pub decorations_fault : (fault : Fault) → IsRightOfDecorations m fault → IsRight bytes o fault
    decorations_fault fault h = decorations_right bytes o fault formed (subst (λ (n : ModuleState). IsRightOfDecorations n fault) same h)

    -- each function has an id of its own, and each that is called is one of them
    pub have_own_ids : HaveOwnIds m.functions
    have_own_ids = subst (λ (n : ModuleState). HaveOwnIds n.functions) (sym made) (own_ids ws form.1.1.0 form.1.1.1.0)

    pub callees_there : broken m ≡ [] → AreCalleesFunctions m.functions
    callees_there unbroken =
        subst (λ (n : ModuleState). AreCalleesFunctions n.functions) (sym same)
        (callees_known bytes fine formed.1.1.1.0 (subst (λ (n : ModuleState). broken n ≡ []) same unbroken))

    module _ (decorations : NoRuleBroken (BrokenDecorations m) (P11 ∷ P12 ∷ [])) where
      decorated : NoRuleBroken (BrokenDecorations (module_in bytes)) (P11 ∷ P12 ∷ [])
      decorated = subst (λ (n : ModuleState). NoRuleBroken (BrokenDecorations n) (P11 ∷ P12 ∷ [])) same decorations

      pub data_fault : (fault : Fault) → IsRightOfData m o.entry fault → IsRight bytes o fault
      data_fault fault h = data_right bytes o fault formed decorated (subst (λ (n : ModuleState). IsRightOfData n o.entry fault) same h)

      module _ (judged : NoRuleBroken (BrokenData m o.entry) (choice_rules ++ data_rules)) where
        declared : NoRuleBroken (BrokenData (module_in bytes) o.entry) (choice_rules ++ data_rules)
        declared = subst (λ (n : ModuleState). NoRuleBroken (BrokenData n o.entry) (choice_rules ++ data_rules)) same judged

        pub types_fault : (fault : Fault) → IsRightOfTypes m fault → IsRight bytes o fault
        types_fault fault h = types_right bytes o fault formed decorated declared (subst (λ (n : ModuleState). IsRightOfTypes n fault) same h)

        module _ (types : IsTyped m) where
          late : NoRuleBroken (Broken bytes o) rules_to_types
          late = to_types bytes o formed decorated declared (subst (λ (n : ModuleState). NoRuleBroken (BrokenTypes n) type_rules) same types.typed)

          rest_break : (rule : Rule) (at : ℕ) → BreaksRest m o.overrides rule at → Breaks bytes o rule at
          rest_break rule at (laid_out b) = layout_break bytes o late rule at (subst (λ (n : ModuleState). BrokenLayout n rule at) same b)
          rest_break rule at (accessed b) = access_break bytes o late rule at (subst (λ (n : ModuleState). BrokenAccess n rule at) same b)
          rest_break rule at (overridden b) = overrides_break bytes o late rule at (subst (λ (n : ModuleState). BrokenOverrides n o.overrides rule at) same (on_overrides m o.overrides rule at b))

          rest_fault : (fault : Fault) → IsRestRight m o.overrides fault → IsRight bytes o fault
          rest_fault (Refused r) h = rest_break r.rule r.at h
          rest_fault (Limit Types) h = absurd (none_passes m.globals Types types.within h)
          rest_fault (Limit Parts) h = absurd (none_passes m.globals Parts types.within h)
          rest_fault (Limit Leaves) h = (formed, subst (λ (n : ModuleState). limit_number Leaves < leaves_of_module n) same h)
          rest_fault (Limit _) h = absurd h
          rest_fault Memory h = tt

          structure_fault : (fault : Fault) → IsUnstructured m.functions fault → IsRight bytes o fault
          structure_fault fault h = structure_right bytes o late h.0 (subst (λ (n : ModuleState). Contains n.functions h.0) same h.1) fault formed h.2

          calls_fault : (id : ℕ) (fault : Fault) → IsEntry m o id → IsRightOfCalls m.functions id fault → IsRight bytes o fault
          calls_fault id fault at h =
              calls_right bytes o fault late formed declared
              (subst (λ (n : ModuleState). IsSomeAnd (chosen o.entry n.heads) (λ (i : Inst). IsRightOfCalls n.functions (word i 1) fault)) same (at_entry m (λ k. IsRightOfCalls m.functions k fault) (chosen o.entry m.heads) id at h))

          later_fault : (id : ℕ) (fault : Fault) → IsEntry m o id → IsLaterFault m o.overrides id fault → IsRight bytes o fault
          later_fault id fault at (by_rest h) = rest_fault fault h
          later_fault id fault at (by_structure h) = structure_fault fault h
          later_fault id fault at (by_calls h) = calls_fault id fault at h

          module _ (id : ℕ) (at : IsEntry m o id) (later : IsFineLater m o.overrides id) where
            fine_later : Conforms bytes o
            fine_later =
                conforms bytes o formed decorated declared (subst (λ (n : ModuleState). broken n ≡ []) same types.unbroken)
                (subst (λ (n : ModuleState). (rule : Rule) (at : ℕ) → BrokenLayout n rule at → ⊥) same later.layout)
                (subst (λ (n : ModuleState). NoRuleBroken (BrokenAccess n) access_rules) same later.access)
                (subst (λ (n : ModuleState). (rule : Rule) (at : ℕ) → BrokenOverrides n o.overrides rule at → ⊥) same (no_overrides m o.overrides later.known later.fits))
                (λ f has. (All-contains IsStructured m.functions f later.structure (subst (λ (n : ModuleState). Contains n.functions f) (sym same) has)).unbroken)
                (subst (λ (n : ModuleState). IsAcyclic n.functions) same later.acyclic)

            within_later : length bytes ≤ limit_number Bytes → bound bytes ≤ limit_number Bound → IsWithinLimits bytes o
            within_later bytes_fit bound_fits =
                within_limits bytes o bytes_fit bound_fits (subst AreWithin same types.within)
                (subst (λ (n : ModuleState). leaves_of_module n ≤ limit_number Leaves) same later.leaves)
                (λ f has. (All-contains IsStructured m.functions f later.structure (subst (λ (n : ModuleState). Contains n.functions f) (sym same) has)).shallow)
                (subst (λ (n : ModuleState). IsSomeAnd (chosen o.entry n.heads) (λ (i : Inst). IsWithinCalls n.functions (word i 1))) same (at_entry m (λ k. IsWithinCalls m.functions k) (chosen o.entry m.heads) id at later.calls))

      -- a fault that the judges of the module find
      pub module_fault : (fault : Fault) → IsFault m o fault → IsRight bytes o fault
      module_fault fault (by_declarations h) = data_fault fault h
      module_fault fault (by_types judged h) = types_fault judged fault h
      module_fault fault (by_later judged types id at h) = later_fault judged types id fault at h

      -- a module in which they find none
      pub module_fine : IsFine m o → Conforms bytes o
      module_fine h = fine_later h.declared h.typed h.entry h.is h.later

      pub module_within : IsFine m o → length bytes ≤ limit_number Bytes → bound bytes ≤ limit_number Bound → IsWithinLimits bytes o
      module_within h bytes_fit bound_fits = within_later h.declared h.typed h.entry h.is h.later bytes_fit bound_fits

-- The rules on layout and on accesses are all that their definitions tell of.
use Rattle.std.proofs.Common.{◌≡◌, ◌++◌, ◌||◌, ℕ, Bool, true, false, cond, List, [], ◌∷◌, Option, None, Some, IsSomeAnd, map, filter, refl, ap, ◌∙◌, subst, arith}
use Rattle.std.specs.Prelude.{Contains}
use Rattle.std.specs.List.{flat_map, list_any}
use Rattle.std.proofs.lemmas.List.Concat.{flat_map-cons}
use Rattle.spv_words.specs.Rule.{letter_of}
use Rattle.spv_words.specs.declared.rule.Rule.{Rule}
use Rattle.spv_words.specs.declared.rule.Rule.TheVariants.{L1, L2, L3, L4, L5, L6, L7, M1, M2, M3, M4, M5, A1, A2, A3, A4, A5}
use Rattle.spv_module.specs.State.{ModuleState}
use Rattle.spv_module.specs.declared.inst.Inst.{Inst}
use Rattle.spv_module.specs.declared.inst.Function.{Function}
use Rattle.spv_index.specs.Locals.{insts_of}
use Rattle.profile_rules.specs.AccessRules.{breaks, broken_in, broken_at, Broken}
use Rattle.layout_rules.specs.declared.Kind.{Kind}
use Rattle.layout_rules.specs.Blocks.{Member, member_breaks, members_break, members_of, first_at, block_of, IsBrokenBy, BreaksAt, Broken as BrokenLayout}
use Rattle.spv_module.specs.Held.{global}

none_pass : {X : Type 0} (p : X → Bool) → ((x : X) → p x ≡ false) → (xs : List X) → filter p xs ≡ []
none_pass p never [] = refl
none_pass p never (x ∷ xs) = ap (λ b. cond b (x ∷ filter p xs) (filter p xs)) (never x) ∙ none_pass p never xs

none_any : {X : Type 0} (p : X → Bool) → ((x : X) → p x ≡ false) → (xs : List X) → list_any p xs ≡ false
none_any p never [] = refl
none_any p never (x ∷ xs) = ap (λ b. b || list_any p xs) (never x) ∙ none_any p never xs

none_each : {X : Type 0} (f : X → List ℕ) → ((x : X) → f x ≡ []) → (xs : List X) → flat_map f xs ≡ []
none_each f never [] = refl
none_each f never (x ∷ xs) = flat_map-cons f x xs ∙ ap (λ vs. vs ++ flat_map f xs) (never x) ∙ none_each f never xs

-- a rule that no instruction breaks is broken nowhere
unbroken : (m : ModuleState) (rule : Rule) → ((f : Function) (i : Inst) → breaks m.heads m.globals f rule i ≡ false) → (at : ℕ) → Broken m rule at → ⊥
unbroken m rule never at h =
    let each : (f : Function) → broken_in m rule f ≡ [] = λ f. ap (λ is. map (λ (i : Inst). i.at) is) (none_pass (breaks m.heads m.globals f rule) (never f) (insts_of f)) in
    let none : broken_at m rule ≡ [] = none_each (broken_in m rule) each m.functions in
    omega (arith, (subst (λ (l : List ℕ). Contains l at) none h).1)

-- what holds of the rules on accesses holds of any that is broken
pub on_access : (m : ModuleState) (at : ℕ) (P : Rule → Type 0) → P M1 → P M2 → P M3 → P M4 → P M5 → P A1 → P A2 → P A3 → P A4 → P A5 → (rule : Rule) → Broken m rule at → P rule
on_access m at P m1 m2 m3 m4 m5 a1 a2 a3 a4 a5 M1 h = m1
on_access m at P m1 m2 m3 m4 m5 a1 a2 a3 a4 a5 M2 h = m2
on_access m at P m1 m2 m3 m4 m5 a1 a2 a3 a4 a5 M3 h = m3
on_access m at P m1 m2 m3 m4 m5 a1 a2 a3 a4 a5 M4 h = m4
on_access m at P m1 m2 m3 m4 m5 a1 a2 a3 a4 a5 M5 h = m5
on_access m at P m1 m2 m3 m4 m5 a1 a2 a3 a4 a5 A1 h = a1
on_access m at P m1 m2 m3 m4 m5 a1 a2 a3 a4 a5 A2 h = a2
on_access m at P m1 m2 m3 m4 m5 a1 a2 a3 a4 a5 A3 h = a3
on_access m at P m1 m2 m3 m4 m5 a1 a2 a3 a4 a5 A4 h = a4
on_access m at P m1 m2 m3 m4 m5 a1 a2 a3 a4 a5 A5 h = a5
on_access m at P m1 m2 m3 m4 m5 a1 a2 a3 a4 a5 rule h = absurd (unbroken m rule (λ f i. refl) at h)

-- a rule that a block breaks has the letter L
pub layout_letter : (heads gs : List Inst) (kind : Kind) (ms : List Member) (rule : Rule) → members_break heads gs kind ms rule ≡ true → letter_of rule ≡ 76
unfolding members_break member_breaks
layout_letter heads gs kind ms L1 h = refl
layout_letter heads gs kind ms L2 h = refl
layout_letter heads gs kind ms L3 h = refl
layout_letter heads gs kind ms L4 h = refl
layout_letter heads gs kind ms L5 h = refl
layout_letter heads gs kind ms L6 h = refl
layout_letter heads gs kind ms L7 h = refl
layout_letter heads gs kind ms rule h =
    let none : list_any (member_breaks heads gs kind rule) ms ≡ false = none_any (member_breaks heads gs kind rule) (λ m. refl) ms in
    cc

letter_of_block : (m : ModuleState) (v : Inst) (block : Option Inst) (rule : Rule) → IsSomeAnd block (λ (b : Inst). IsBrokenBy m.heads m.globals v b rule) → letter_of rule ≡ 76
letter_of_block m v None rule h = absurd h
letter_of_block m v (Some b) rule h = layout_letter m.heads m.globals (first_at m.heads v b) (members_of m.heads m.globals b) rule h.1

letter_of_variable : (m : ModuleState) (v : Option Inst) (rule : Rule) (at : ℕ) → IsSomeAnd v (λ (i : Inst). (at ≡ i.at) × BreaksAt m.heads m.globals i rule) → letter_of rule ≡ 76
letter_of_variable m None rule at h = absurd h
letter_of_variable m (Some v) rule at h = letter_of_block m v (block_of m.globals v) rule h.1

-- and so has one that a module breaks
pub on_layout : (m : ModuleState) (rule : Rule) (at : ℕ) → BrokenLayout m rule at → letter_of rule ≡ 76
on_layout m rule at h = letter_of_variable m (global m.globals h.0) rule at h.1

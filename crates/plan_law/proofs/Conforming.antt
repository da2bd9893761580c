-- Of a module that breaks none of P3, P4 and T1, the instructions of each function are in order, as `AreInOrder` asks.
use Rattle.std.proofs.Common.{◌≡◌, ◌<◌, ◌==◌, ℕ, zero, suc, Bool, true, false, List, [], ◌∷◌, ◌++◌, length, Option, Some, None, inl, inr, refl, sym, ap, subst, ◌∙◌, if◌then◌else◌, arith}
use Rattle.std.specs.Prelude.{◌⊎◌, flat_map, find, option_map, Contains}
use Rattle.std.proofs.lemmas.Bool.Decides.{eqb_tells}
use Rattle.std.proofs.lemmas.List.Elements.{Contains-append_left, Contains-append_right}
use Rattle.spv_words.specs.declared.rule.Rule.TheVariants.{P3, P4, T1, T21}
use Rattle.spv_words.specs.declared.rule.Refusal.{Refusal}
use Rattle.spv_ops.specs.OpGroups.{group_of}
use Rattle.spv_module.specs.State.{ModuleState}
use Rattle.spv_module.specs.Held.{global}
use Rattle.spv_module.specs.declared.inst.Id.{Id}
use Rattle.spv_module.specs.declared.inst.Inst.{Inst}
use Rattle.spv_module.specs.declared.inst.Block.{Block}
use Rattle.spv_module.specs.declared.inst.Function.{Function}
use Rattle.spv_module.specs.Broken.{IsUnbroken}
use Rattle.spv_module.specs.Lists.{module_of, functions, globals}
use Rattle.spv_index.specs.Locals.{insts_of}
use Rattle.profile_rules.specs.Operands.{breaks_t1_in, breaks_t1_of}
use Rattle.profile_rules.specs.FlowRules.{breaks_t21_of}
use Rattle.profile_rules.specs.TypeRules.{Broken, broken, broken_if, broken_by_global, broken_by_local, broken_by_block, broken_by_function, is_broken_in, rule_of}
use Rattle.plan_law.specs.InOrder.{IsAmong, AreRising, AreApart, AreInOrder}
use Rattle.plan_law.specs.Distinct.{AllRise, AllApart, Avoid, AreNone, AllAvoid, AllNone}
use Rattle.plan_law.proofs.Order.{not_among}
use Rattle.plan_law.proofs.Listed.{flat, all_rise, all_apart}
use Rattle.plan_law.proofs.Owned.{all_avoid, all_none}

-- what is said of all functions, said of one
pub said_of : (P : Function → Type 0) (Q : List Function → Type 0) → ((g : Function) (fs : List Function) → Q (g ∷ fs) → P g × Q fs) → (fs : List Function) (f : Function) → Q fs → Contains fs f → P f
said_of P Q parts [] f all there = let less = there.1 in absurd (omega (arith, less))
said_of P Q parts (g ∷ fs) f all (zero, less, same) = subst P same (parts g fs all).0
said_of P Q parts (g ∷ fs) f all (suc k, less, same) = said_of P Q parts fs f (parts g fs all).1 (k, (let low : k < length fs = omega (arith, less) in low), same)

-- a result of these is none of a global, and none of a parameter
no_global : (gs js : List Inst) (j : Inst) → Avoid gs js → IsAmong j js → (j.result ≡ 0 → ⊥) → global gs j.result ≡ None
no_global [] js j avoid stands some = refl
no_global (g ∷ gs) js j avoid stands some =
    let off : (g.result == j.result) ≡ false = elim (eqb_tells g.result j.result) [ inl w ↦ absurd (not_among g.result j js (avoid.0 (λ lacks. some (sym w.1 ∙ lacks))) stands (sym w.1)) | inr w ↦ w.0 ] in
    ap (λ (b : Bool). if b then Some g else find (λ (x : Inst). x.result == j.result) gs) off ∙ no_global gs js j avoid.1 stands some

no_param : (ps : List (Id × Id)) (js : List Inst) (j : Inst) → AreNone ps js → IsAmong j js → (j.result ≡ 0 → ⊥) → find (λ (p : Id × Id). p.0.0 == j.result) ps ≡ None
no_param [] js j avoid stands some = refl
no_param (p ∷ ps) js j avoid stands some =
    let off : (p.0.0 == j.result) ≡ false = elim (eqb_tells p.0.0 j.result) [ inl w ↦ absurd (not_among p.0.0 j js (avoid.0 (λ lacks. some (sym w.1 ∙ lacks))) stands (sym w.1)) | inr w ↦ w.0 ] in
    ap (λ (b : Bool). if b then Some p else find (λ (x : Id × Id). x.0.0 == j.result) ps) off ∙ no_param ps js j avoid.1 stands some

-- what a function breaks by an instruction, a module breaks
listed_in : {A : Type 0} (of : A → List Refusal) (xs : List A) (x : A) (r : Refusal) → Contains xs x → Contains (of x) r → Contains (flat_map of xs) r
listed_in of [] x r there own = let less = there.1 in absurd (omega (arith, less))
listed_in of (y ∷ xs) x r (zero, less, same) own = Contains-append_left (of y) (flat_map of xs) r (subst (λ z. Contains (of z) r) (sym same) own)
listed_in of (y ∷ xs) x r (suc k, less, same) own = Contains-append_right (of y) (flat_map of xs) r (listed_in of xs x r (k, (let low : k < length xs = omega (arith, less) in low), same) own)

pub among_either : (i : Inst) (xs ys : List Inst) → IsAmong i (xs ++ ys) → IsAmong i xs ⊎ IsAmong i ys
among_either i [] ys stands = inr stands
among_either i (x ∷ xs) ys (inl same) = inl (inl same)
among_either i (x ∷ xs) ys (inr stands) = elim (among_either i xs ys stands) [ inl left ↦ inl (inr left) | inr right ↦ inr right ]

module _ (m : ModuleState) (f : Function) (i : Inst) (r : Refusal) (own : (b : Block) → Contains (broken_by_local m f b i) r) where
  in_insts : (b : Block) (is : List Inst) → IsAmong i is → Contains (flat_map (broken_by_local m f b) is) r
  in_insts b [] stands = absurd stands
  in_insts b (j ∷ is) (inl same) = Contains-append_left (broken_by_local m f b j) (flat_map (broken_by_local m f b) is) r (subst (λ x. Contains (broken_by_local m f b x) r) (sym same) (own b))
  in_insts b (j ∷ is) (inr stands) = Contains-append_right (broken_by_local m f b j) (flat_map (broken_by_local m f b) is) r (in_insts b is stands)

  in_blocks : (bs : List Block) → IsAmong i (flat bs) → Contains (flat_map (broken_by_block m f) bs) r
  in_blocks [] stands = absurd stands
  in_blocks (b ∷ bs) stands = elim (among_either i b.insts (flat bs) stands) [
    | inl here ↦ Contains-append_left (broken_by_block m f b) (flat_map (broken_by_block m f) bs) r (in_insts b b.insts here)
    | inr later ↦ Contains-append_right (broken_by_block m f b) (flat_map (broken_by_block m f) bs) r (in_blocks bs later)
  ]

  pub in_module : Contains m.functions f → IsAmong i (insts_of f) → Contains (broken m) r
  in_module there stands =
      let here : Contains (flat_map (broken_by_block m f) f.blocks) r = in_blocks f.blocks stands in
      let rest : List Refusal = broken_if (breaks_t21_of m.globals f) T21 f.at ++ flat_map (broken_by_block m f) f.blocks in
      Contains-append_right (flat_map (broken_by_global m) m.globals) (flat_map (broken_by_function m) m.functions) r
      (listed_in (broken_by_function m) m.functions f r there
      (Contains-append_right (broken_if (breaks_t1_of m.globals f) T1 f.at) rest r
      (Contains-append_right (broken_if (breaks_t21_of m.globals f) T21 f.at) (flat_map (broken_by_block m f) f.blocks) r here)))

-- T1 of an instruction in a block
unbroken_there : (m : ModuleState) → ((at : ℕ) → Broken m T1 at → ⊥) → (f : Function) → Contains m.functions f → (i : Inst) → IsAmong i (insts_of f) → breaks_t1_in m f i ≡ false
unbroken_there m right f there i stands = by_test (breaks_t1_in m f i) refl
  where
    by_test : (b : Bool) → breaks_t1_in m f i ≡ b → b ≡ false
    by_test false is = refl
    by_test true is =
        absurd (right i.at (in_module m f i (record { rule = T1; at = i.at })
        (λ b. subst (λ (t : Bool). Contains (broken_if t T1 i.at ++ broken_if (is_broken_in m f b i (group_of i.op)) (rule_of (group_of i.op)) i.at) (record { rule = T1; at = i.at })) (sym is)
        (0, (let less : 0 < suc (length (broken_if (is_broken_in m f b i (group_of i.op)) (rule_of (group_of i.op)) i.at)) = omega arith in less), refl))
        there stands))

-- the functions of words that break none of these rules
pub are_in_order : (ws : List ℕ) → IsUnbroken ws P3 → IsUnbroken ws P4 → ((at : ℕ) → Broken (module_of ws) T1 at → ⊥) → (f : Function) → Contains (functions ws) f → AreInOrder (module_of ws) f
are_in_order ws ids form operands f there = record {
  rising = said_of (λ h. AreRising 0 (insts_of h)) AllRise (λ g fs all. all) (functions ws) f (all_rise ws) there;
  apart = said_of (λ h. AreApart (insts_of h)) AllApart (λ g fs all. all) (functions ws) f (all_apart ws ids) there;
  own = λ i stands some. record {
    inside = no_global (globals ws) (insts_of f) i (said_of (λ h. Avoid (globals ws) (insts_of h)) (AllAvoid (globals ws)) (λ g fs all. all) (functions ws) f (all_avoid ws ids form) there) stands some;
    made = ap (λ (o : Option (Id × Id)). option_map (λ (p : Id × Id). p.1.0) o) (no_param f.params (insts_of f) i (said_of (λ h. AreNone h.params (insts_of h)) AllNone (λ g fs all. all) (functions ws) f (all_none ws ids) there) stands some);
  };
  there = unbroken_there (module_of ws) operands f there;
}

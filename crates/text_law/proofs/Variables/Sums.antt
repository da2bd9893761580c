-- Sums over lists of numbers.
use Rattle.std.proofs.Common.{◌≡◌, ◌+◌, ◌==◌, ℕ, Bool, cond, List, [], ◌∷◌, ◌++◌, Option, Some, None, inl, inr, refl, sym, ap, ◌∙◌, subst, arith, if◌then◌else◌}
use Rattle.std.specs.Prelude.{nat_eq}
use Rattle.std.specs.Option.{option_to_list}
use Rattle.std.specs.Map.{update, update_all}
use Rattle.std.proofs.lemmas.Bool.Decides.{eqb_tells}
use Rattle.glsl_ast.specs.Tree as text
use Rattle.control_text.specs.Statements.{in_order, by_target}
use Rattle.structure_recover.proofs.Counting.{kid_sum}
use Rattle.region_law.specs.Leads.{In, AreApart}

pub sum_same : (v w : ℕ → ℕ) (ts : List ℕ) → ((t : ℕ) → In t ts → v t ≡ w t) → kid_sum v ts ≡ kid_sum w ts
sum_same v w [] same = refl
sum_same v w (t ∷ ts) same = let a : v t ≡ w t = same t (inl refl) in let b = sum_same v w ts (λ u i. same u (inr i)) in omega (arith, a, b)

pub sum_both : (v w : ℕ → ℕ) (ts : List ℕ) → kid_sum (λ t. v t + w t) ts ≡ kid_sum v ts + kid_sum w ts
sum_both v w [] = refl
sum_both v w (t ∷ ts) = let rest = sum_both v w ts in omega (arith, rest)

pub sum_none : (v : ℕ → ℕ) (ts : List ℕ) → ((t : ℕ) → In t ts → v t ≡ 0) → kid_sum v ts ≡ 0
sum_none v [] none = refl
sum_none v (t ∷ ts) none = let a : v t ≡ 0 = none t (inl refl) in let b = sum_none v ts (λ u i. none u (inr i)) in omega (arith, a, b)

pub sum_joined : (v : ℕ → ℕ) (ts us : List ℕ) → kid_sum v (ts ++ us) ≡ kid_sum v ts + kid_sum v us
sum_joined v [] us = omega arith
sum_joined v (t ∷ ts) us = let rest = sum_joined v ts us in omega (arith, rest)

-- the number itself, where it is this one
abbrev pub only : ℕ → ℕ → ℕ → ℕ
only k n t = if k == t then n else 0

pub only_other : (k n t : ℕ) → (k ≡ t → ⊥) → only k n t ≡ 0
only_other k n t other = elim (eqb_tells k t) [ inl w ↦ absurd (other w.1) | inr w ↦ ap (λ (b : Bool). if b then n else 0) w.0 ]

pub only_own : (k n t : ℕ) → k ≡ t → only k n t ≡ n
only_own k n t own = elim (eqb_tells k t) [ inl w ↦ ap (λ (b : Bool). if b then n else 0) w.0 | inr w ↦ absurd (w.1 own) ]

-- what stands in the list once counts once
pub sum_only : (k n : ℕ) (ts : List ℕ) → AreApart ts → In k ts → kid_sum (only k n) ts ≡ n
sum_only k n [] apart there = absurd there
sum_only k n (t ∷ ts) apart (inl same) =
    let a : only k n t ≡ n = only_own k n t same in
    let b : kid_sum (only k n) ts ≡ 0 = sum_none (only k n) ts (λ u i. only_other k n u (λ e. apart.0 (subst (λ (z : ℕ). In z ts) (sym e ∙ same) i))) in
    omega (arith, a, b)
sum_only k n (t ∷ ts) apart (inr there) =
    let a : only k n t ≡ 0 = only_other k n t (λ e. apart.0 (subst (λ (z : ℕ). In z ts) e there)) in
    let b = sum_only k n ts apart.1 there in
    omega (arith, a, b)

-- of arms
module _ (value : text.Arm → ℕ) where
  abbrev pub value_in : Option text.Arm → ℕ
  value_in None = 0
  value_in (Some a) = value a

  abbrev pub all_values : List text.Arm → ℕ
  all_values [] = 0
  all_values (a ∷ as') = value a + all_values as'

  abbrev pub group_values : List (ℕ × text.Arm) → ℕ
  group_values [] = 0
  group_values (g ∷ gs) = value g.1 + group_values gs

  abbrev pub group_targets : List (ℕ × text.Arm) → List ℕ
  group_targets [] = []
  group_targets (g ∷ gs) = g.0 ∷ group_targets gs

  first_value : (o : Option text.Arm) (as' : List text.Arm) → all_values (option_to_list o ++ as') ≡ value_in o + all_values as'
  first_value None as' = omega arith
  first_value (Some a) as' = refl

  kept_other : (f : ℕ → Option text.Arm) (t u : ℕ) → (t ≡ u → ⊥) → value_in (update nat_eq f t None u) ≡ value_in (f u)
  kept_other f t u other = elim (eqb_tells t u) [ inl w ↦ absurd (other w.1) | inr w ↦ ap (λ (b : Bool). value_in (cond b None (f u))) w.0 ]

  in_order_values : (ts : List ℕ) (f : ℕ → Option text.Arm) → AreApart ts → all_values (in_order ts f) ≡ kid_sum (λ t. value_in (f t)) ts
  in_order_values [] f apart = refl
  in_order_values (t ∷ ts) f apart =
      let a = first_value (f t) (in_order ts (update nat_eq f t None)) in
      let b = in_order_values ts (update nat_eq f t None) apart.1 in
      let c = sum_same (λ u. value_in (update nat_eq f t None u)) (λ u. value_in (f u)) ts (λ u i. kept_other f t u (λ e. apart.0 (subst (λ (z : ℕ). In z ts) (sym e) i))) in
      omega (arith, a, b, c)

  with_one : (f : ℕ → Option text.Arm) (k : ℕ) (a : text.Arm) → f k ≡ None → (t : ℕ) → value_in (update nat_eq f k (Some a) t) ≡ value_in (f t) + only k (value a) t
  with_one f k a none t = elim (eqb_tells k t) [
    | inl w ↦
        let x : value_in (update nat_eq f k (Some a) t) ≡ value a = ap (λ (b : Bool). value_in (cond b (Some a) (f t))) w.0 in
        let y : value_in (f t) ≡ 0 = ap value_in (ap f (sym w.1) ∙ none) in
        let z : only k (value a) t ≡ value a = only_own k (value a) t w.1 in
        omega (arith, x, y, z)
    | inr w ↦
        let x : value_in (update nat_eq f k (Some a) t) ≡ value_in (f t) = ap (λ (b : Bool). value_in (cond b (Some a) (f t))) w.0 in
        let z : only k (value a) t ≡ 0 = only_other k (value a) t w.1 in
        omega (arith, x, z)
  ]

  still_none : (f : ℕ → Option text.Arm) (k : ℕ) (a : text.Arm) (t : ℕ) → (k ≡ t → ⊥) → f t ≡ None → update nat_eq f k (Some a) t ≡ None
  still_none f k a t other none = elim (eqb_tells k t) [ inl w ↦ absurd (other w.1) | inr w ↦ ap (λ (b : Bool). cond b (Some a) (f t)) w.0 ∙ none ]

  collected : (ts : List ℕ) (gs : List (ℕ × text.Arm)) (f : ℕ → Option text.Arm) → AreApart ts → AreApart (group_targets gs) → ((t : ℕ) → In t (group_targets gs) → In t ts × (f t ≡ None))
      → kid_sum (λ t. value_in (update_all nat_eq f gs t)) ts ≡ kid_sum (λ t. value_in (f t)) ts + group_values gs
  collected ts [] f apart own there = omega arith
  collected ts (g ∷ gs) f apart own there =
      let first = there g.0 (inl refl) in
      let a = collected ts gs (update nat_eq f g.0 (Some g.1)) apart own.1 (λ t i. ((there t (inr i)).0, still_none f g.0 g.1 t (λ e. own.0 (subst (λ (z : ℕ). In z (group_targets gs)) (sym e) i)) (there t (inr i)).1)) in
      let b = sum_same (λ t. value_in (update nat_eq f g.0 (Some g.1) t)) (λ t. value_in (f t) + only g.0 (value g.1) t) ts (λ t i. with_one f g.0 g.1 first.1 t) in
      let c = sum_both (λ t. value_in (f t)) (only g.0 (value g.1)) ts in
      let d = sum_only g.0 (value g.1) ts apart first.0 in
      omega (arith, a, b, c, d)

  -- groups in an order that has each target once
  pub ordered_values : (ts : List ℕ) (gs : List (ℕ × text.Arm)) → AreApart ts → AreApart (group_targets gs) → ((t : ℕ) → In t (group_targets gs) → In t ts) → all_values (in_order ts (by_target gs)) ≡ group_values gs
  ordered_values ts gs apart own there =
      let a = in_order_values ts (by_target gs) apart in
      let b = collected ts gs (λ t. None) apart own (λ t i. (there t i, refl)) in
      let c = sum_none (λ t. 0) ts (λ t i. refl) in
      omega (arith, a, b, c)

-- What a tree counts for its blocks, each reached block stands once: so each counts once.
use Rattle.std.proofs.Common.{◌≡◌, ◌+◌, ◌==◌, ℕ, Bool, true, false, List, [], ◌∷◌, length, filter, inl, inr, refl, sym, ap, ◌∙◌, subst, arith, if◌then◌else◌}
use Rattle.std.specs.List.{range_with_len}
use Rattle.structure_rules.specs.declared.graph.Node.{Node}
use Rattle.structure_rules.specs.Graph.{nth}
use Rattle.nest_place.proofs.Outward.{reached_inside}
use Rattle.structure_recover.specs.Tree.{Region}
use Rattle.structure_recover.specs.Once.{Around, around, stands, standing, StandsOnce}
use Rattle.structure_recover.proofs.Counting.{kid_sum}
use Rattle.list_law.proofs.Numbers.{number_same}
use Rattle.region_law.specs.Leads.{In, AreApart}
use Rattle.tree_law.proofs.SwitchOrder.{in_range, range_apart}
use Rattle.claim_law.specs.Claimed.{IsIn}
use Rattle.text_law.proofs.Variables.Sums.{sum_same, sum_both, sum_none, sum_only, only}

abbrev pub weighed : {A : Type 0} → (ℕ → ℕ) → List (ℕ × A) → ℕ
weighed v [] = 0
weighed v (s ∷ ss) = v s.0 + weighed v ss

module _ {A : Type 0} (v : ℕ → ℕ) where
  abbrev chosen : ℕ → List (ℕ × A) → List (ℕ × A)
  chosen k ss = filter (λ (s : ℕ × A). s.0 == k) ss

  one_more : (s : ℕ × A) (ss : List (ℕ × A)) (k : ℕ) → weighed v (chosen k (s ∷ ss)) ≡ only s.0 (v s.0) k + weighed v (chosen k ss)
  one_more s ss k = by_test (s.0 == k)
    where
      by_test : (b : Bool) → weighed v (if b then s ∷ chosen k ss else chosen k ss) ≡ (if b then v s.0 else 0) + weighed v (chosen k ss)
      by_test true = refl
      by_test false = omega arith

  all_chosen : (ks : List ℕ) → AreApart ks → (ss : List (ℕ × A)) → ((s : ℕ × A) → IsIn s ss → In s.0 ks) → kid_sum (λ k. weighed v (chosen k ss)) ks ≡ weighed v ss
  all_chosen ks apart [] there = sum_none (λ k. 0) ks (λ k i. refl)
  all_chosen ks apart (s ∷ ss) there =
      let a = sum_same (λ k. weighed v (chosen k (s ∷ ss))) (λ k. only s.0 (v s.0) k + weighed v (chosen k ss)) ks (λ k i. one_more s ss k) in
      let b = sum_both (only s.0 (v s.0)) (λ k. weighed v (chosen k ss)) ks in
      let c = sum_only s.0 (v s.0) ks apart (there s (inl refl)) in
      let d = all_chosen ks apart ss (λ t i. there t (inr i)) in
      omega (arith, a, b, c, d)

  in_chosen : (s : ℕ × A) (ss : List (ℕ × A)) → IsIn s ss → IsIn s (chosen s.0 ss)
  in_chosen s [] there = absurd there
  in_chosen s (t ∷ ss) (inl same) = subst (λ (b : Bool). IsIn s (if b then t ∷ chosen s.0 ss else chosen s.0 ss)) (sym (number_same t.0 s.0 (ap (λ (q : ℕ × A). q.0) same))) (inl same)
  in_chosen s (t ∷ ss) (inr there) = by_test (t.0 == s.0) (in_chosen s ss there)
    where
      by_test : (b : Bool) → IsIn s (chosen s.0 ss) → IsIn s (if b then t ∷ chosen s.0 ss else chosen s.0 ss)
      by_test true later = inr later
      by_test false later = later

-- what a block counts, where it is reached
abbrev pub if_reached : List Node → (ℕ → ℕ) → ℕ → ℕ
if_reached g v k = if (nth g k).reached then v k else 0

pub tree_weighed : (g : List Node) (r : Region) (v : ℕ → ℕ) → StandsOnce g r → weighed v (stands [] r) ≡ kid_sum (if_reached g v) (range_with_len 0 (length g))
tree_weighed g r v once =
    sym (all_chosen v (range_with_len 0 (length g)) (range_apart 0 (length g)) (stands [] r) within)
    ∙ sum_same (λ k. weighed v (standing r k)) (if_reached g v) (range_with_len 0 (length g)) (λ k i. each k)
  where
    each : (k : ℕ) → weighed v (standing r k) ≡ if_reached g v k
    each k = ap (weighed v) (once k) ∙ by_reached (nth g k).reached
      where
        by_reached : (b : Bool) → weighed v (if b then (k, around g k) ∷ [] else []) ≡ (if b then v k else 0)
        by_reached true = omega arith
        by_reached false = refl

    within : (s : ℕ × List Around) → IsIn s (stands [] r) → In s.0 (range_with_len 0 (length g))
    within s there = by_reached (nth g s.0).reached refl
      where
        by_reached : (b : Bool) → (nth g s.0).reached ≡ b → In s.0 (range_with_len 0 (length g))
        by_reached true on = let less = reached_inside g s.0 on in in_range 0 (length g) s.0 (omega arith) (omega (arith, less))
        by_reached false off =
            absurd (subst (IsIn s) (once s.0 ∙ ap (λ (b : Bool). if b then (s.0, around g s.0) ∷ [] else []) off) (in_chosen v s (stands [] r) there))

-- Which blocks edges reach.
use Rattle.std.proofs.Common.{◌≡◌, ◌<◌, ◌≤◌, ◌+◌, ◌-◌, ◌==◌, ◌&&◌, ◌||◌, ℕ, zero, suc, Bool, true, false, List, [], ◌∷◌, length, sym, ◌∙◌, subst, inl, inr, arith}
use Rattle.std.proofs.lemmas.Bool.{or_cases, and_parts, or_left, or_right, and_from}
use Rattle.std.proofs.lemmas.List.FromFn.{get_or-map-range_with_len, length-map-range_with_len}
use Rattle.list_law.proofs.Lists.{marked_within}
use Rattle.structure_rules.specs.declared.graph.Node.{Node}
use Rattle.structure_rules.specs.Graph.{nth, is_marked, is_entered, leads_to, grown, reach}

-- a block to which an edge leads from a marked one
pub entered : (marks : List Bool) (ns : List Node) (p t : ℕ) → is_marked marks p ≡ true → p < length ns → leads_to t (nth ns p) ≡ true → is_entered marks ns t ≡ true
entered [] ns p t marked within edge = cc
entered (m ∷ marks) [] p t marked within edge = absurd (omega arith)
entered (m ∷ marks) (n ∷ ns) zero t marked within edge = or_left _ _ (and_from m (leads_to t n) marked edge)
entered (m ∷ marks) (n ∷ ns) (suc p) t marked within edge = or_right _ _ (entered marks ns p t marked (omega arith) edge)

pub entry : (marks : List Bool) (ns : List Node) (t : ℕ) → is_entered marks ns t ≡ true → (p : ℕ) × (is_marked marks p ≡ true) × (leads_to t (nth ns p) ≡ true)
entry [] ns t e = cc
entry (m ∷ marks) [] t e = cc
entry (m ∷ marks) (n ∷ ns) t e =
    elim (or_cases (m && leads_to t n) (is_entered marks ns t) e) [
      | inl here ↦ let parts = and_parts m (leads_to t n) here in (0, parts.0, parts.1)
      | inr there ↦ let later = entry marks ns t there in (suc later.0, later.1, later.2)
    ]

pub length-reach : (ns : List Node) (n : ℕ) → length (reach ns n) ≡ length ns
unfolding reach grown
length-reach ns zero = length-map-range_with_len (λ t. t == 0) 0 (length ns)
length-reach ns (suc n) = length-map-range_with_len (λ t. is_marked (reach ns n) t || is_entered (reach ns n) ns t) 0 (length ns)

reach_first : (ns : List Node) (t : ℕ) → t < length ns → is_marked (reach ns 0) t ≡ (t == 0)
unfolding reach
reach_first ns t within = get_or-map-range_with_len (λ t. t == 0) 0 (length ns) t t false within (omega arith)

reach_next : (ns : List Node) (n t : ℕ) → t < length ns → is_marked (reach ns (suc n)) t ≡ (is_marked (reach ns n) t || is_entered (reach ns n) ns t)
unfolding reach grown
reach_next ns n t within = get_or-map-range_with_len (λ t. is_marked (reach ns n) t || is_entered (reach ns n) ns t) 0 (length ns) t t false within (omega arith)

-- the first block is reached
pub reach_start : (ns : List Node) → 0 < length ns → is_marked (reach ns 0) 0 ≡ true
reach_start ns some = reach_first ns 0 some

-- what fewer edges reach, more reach
pub reach_more : (ns : List Node) (n t : ℕ) → is_marked (reach ns n) t ≡ true → is_marked (reach ns (suc n)) t ≡ true
reach_more ns n t e =
    let inside : t < length (reach ns n) = marked_within (reach ns n) t e in
    let within : t < length ns = omega (arith, inside, length-reach ns n) in
    reach_next ns n t within ∙ or_left _ _ e

-- one edge more
pub reach_edge : (ns : List Node) (n p t : ℕ) → is_marked (reach ns n) p ≡ true → leads_to t (nth ns p) ≡ true → t < length ns → is_marked (reach ns (suc n)) t ≡ true
reach_edge ns n p t e edge within =
    let inside : p < length (reach ns n) = marked_within (reach ns n) p e in
    let from : p < length ns = omega (arith, inside, length-reach ns n) in
    reach_next ns n t within ∙ or_right _ _ (entered (reach ns n) ns p t e from edge)

reach_by : (ns : List Node) (n m k t : ℕ) → n + k ≡ m → is_marked (reach ns n) t ≡ true → is_marked (reach ns m) t ≡ true
reach_by ns n m zero t e h = let same : n ≡ m = omega (arith, e) in subst (λ j. is_marked (reach ns j) t ≡ true) same h
reach_by ns n m (suc k) t e h = reach_by ns (suc n) m k t (omega (arith, e)) (reach_more ns n t h)

pub reach_le : (ns : List Node) (n m t : ℕ) → n ≤ m → is_marked (reach ns n) t ≡ true → is_marked (reach ns m) t ≡ true
reach_le ns n m t le h = reach_by ns n m (m - n) t (omega (arith, le)) h

-- what is reached is marked, where the first block is and each block to which an edge leads from a marked one
pub reach_marked : (ns : List Node) (marks : List Bool) (n : ℕ) → (0 < length ns → is_marked marks 0 ≡ true) → ((p t : ℕ) → is_marked marks p ≡ true → leads_to t (nth ns p) ≡ true → t < length ns → is_marked marks t ≡ true) → (t : ℕ) → is_marked (reach ns n) t ≡ true → is_marked marks t ≡ true
reach_marked ns marks zero first on t e =
    let inside : t < length (reach ns 0) = marked_within (reach ns 0) t e in
    let within : t < length ns = omega (arith, inside, length-reach ns 0) in
    let test : (t == 0) ≡ true = sym (reach_first ns t within) ∙ e in
    let zero_is : t ≡ 0 = grind (arith, test) in
    subst (λ k. is_marked marks k ≡ true) (sym zero_is) (first (omega (arith, within)))
reach_marked ns marks (suc n) first on t e =
    let inside : t < length (reach ns (suc n)) = marked_within (reach ns (suc n)) t e in
    let within : t < length ns = omega (arith, inside, length-reach ns (suc n)) in
    elim (or_cases (is_marked (reach ns n) t) (is_entered (reach ns n) ns t) (sym (reach_next ns n t within) ∙ e)) [
      | inl before ↦ reach_marked ns marks n first on t before
      | inr by_edge ↦
          let from = entry (reach ns n) ns t by_edge in
          on from.0 t (reach_marked ns marks n first on from.0 from.1) from.2 within
    ]

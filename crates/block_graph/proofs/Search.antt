-- The steps of the search for the blocks that are reached.
use Rattle.std.proofs.Common.{◌≡◌, ◌≢◌, ◌<◌, ◌≤◌, ◌+◌, ◌==◌, ◌||◌, ℕ, zero, suc, Bool, true, false, List, [], ◌∷◌, ◌++◌, length, get_or, replicate, refl, ap, sym, ◌∙◌, subst, inl, inr, cond, arith, below_more}
use Rattle.std.specs.List.{count_by, slice_index, list_any}
use Rattle.std.proofs.Math.ListN.{set}
use Rattle.std.proofs.lemmas.List.{get_or-set_same, get_or-set_other, get_or_append_left, get_or_push, length-set, length_push, ext_get_or, get_or-replicate, length-replicate, get_or_default}
use Rattle.std.proofs.lemmas.List.Sums.{count_by-le-length, sum_by-set}
use Rattle.std.proofs.lemmas.Bool.Decides.{eqb_tells}
use Rattle.list_law.proofs.Lists.{mark_kept, marked_within, any_itself}
use Rattle.list_law.proofs.Tests.{same_tests}
use Rattle.structure_rules.specs.declared.graph.Node.{Node}
use Rattle.structure_rules.specs.Graph.{nth, is_marked, leads_to, reach, reached, no_node}
use Rattle.block_graph.specs.Search.{IsSearch, IsVisited}
use Rattle.block_graph.specs.Within.{IsClosed}
use Rattle.block_graph.proofs.Walks.{length-reach, reach_start, reach_more, reach_edge, reach_le, reach_marked}

-- a mark more
mark_before : (marks : List Bool) (t q : ℕ) → q ≢ t → is_marked (set marks t true) q ≡ true → is_marked marks q ≡ true
mark_before marks t q apart e = sym (get_or-set_other marks t q true false apart) ∙ e

count_more : (marks : List Bool) (t : ℕ) → t < length marks → is_marked marks t ≡ false → count_by (λ (m : Bool). m) (set marks t true) ≡ count_by (λ (m : Bool). m) marks + 1
count_more marks t inside free =
    let e = sum_by-set (λ (m : Bool). cond m 1 0) marks t true false inside in
    let one : Bool → ℕ = λ b. cond b 1 0 in
    let none : one (is_marked marks t) ≡ 0 = ap one free in
    omega (arith, e, none)

-- one block more, to which an edge leads from the block that is visited
pub search_push : (ns : List Node) (marks : List Bool) (order : List ℕ) (place t : ℕ) → IsSearch ns marks order place → place < length order → t < length ns → is_marked marks t ≡ false → leads_to t (nth ns (slice_index order place)) ≡ true → IsSearch ns (set marks t true) (order ++ t ∷ []) place
search_push ns marks order place t s there within free edge =
    let inside : t < length marks = omega (arith, within, s.sized) in
    let longer : length (order ++ t ∷ []) ≡ length order + 1 = length_push order t in
    let item : (k : ℕ) → k < length order → slice_index (order ++ t ∷ []) k ≡ slice_index order k = λ k h. get_or_append_left order (t ∷ []) 0 k h in
    let last : slice_index (order ++ t ∷ []) (length order) ≡ t = get_or_push order t 0 (length order) refl in
    let from : is_marked (reach ns (length order)) (slice_index order place) ≡ true = s.sound (slice_index order place) (s.listed place there) in
    let found : is_marked (reach ns (suc (length order))) t ≡ true = reach_edge ns (length order) (slice_index order place) t from edge within in
    let one : suc (length order) ≡ length (order ++ t ∷ []) = omega (arith, longer) in
    record {
      sized = length-set marks t true ∙ s.sized;
      counted = count_more marks t inside free ∙ (ap (λ n. n + 1) s.counted ∙ sym longer);
      inside = λ k h. elim (eqb_tells k (length order)) [
        | inl w ↦ subst (λ n. n < length ns) (sym (ap (slice_index (order ++ t ∷ [])) w.1 ∙ last)) within
        | inr w ↦ let less : k < length order = omega (arith, h, longer, w.1) in subst (λ n. n < length ns) (sym (item k less)) (s.inside k less)
      ];
      listed = λ k h. elim (eqb_tells k (length order)) [
        | inl w ↦ subst (λ n. is_marked (set marks t true) n ≡ true) (sym (ap (slice_index (order ++ t ∷ [])) w.1 ∙ last)) (get_or-set_same marks t true false inside)
        | inr w ↦ let less : k < length order = omega (arith, h, longer, w.1) in subst (λ n. is_marked (set marks t true) n ≡ true) (sym (item k less)) (mark_kept marks t (slice_index order k) inside (s.listed k less))
      ];
      sound = λ q e. subst (λ n. is_marked (reach ns n) q ≡ true) one (elim (eqb_tells q t) [
        | inl w ↦ subst (λ n. is_marked (reach ns (suc (length order))) n ≡ true) (sym w.1) found
        | inr w ↦ reach_more ns (length order) q (s.sound q (mark_before marks t q w.1 e))
      ]);
      whole = λ p e. elim (eqb_tells p t) [
        | inl w ↦ inl (length order, (let h : place ≤ length order = omega (arith, there) in h), (let h : length order < length (order ++ t ∷ []) = omega (arith, longer) in h), last ∙ sym w.1)
        | inr w ↦ elim (s.whole p (mark_before marks t p w.1 e)) [
          | inl waits ↦ inl (waits.0, waits.1, (let less : waits.0 < length order = waits.2 in let h : waits.0 < length (order ++ t ∷ []) = omega (arith, longer, less) in h), item waits.0 waits.2 ∙ waits.3)
          | inr seen ↦ inr (λ q h w. mark_kept marks t q inside (seen q h w))
        ]
      ];
      from_first = λ some. mark_kept marks t 0 inside (s.from_first some);
    }

-- the block is visited
pub search_next : (ns : List Node) (marks : List Bool) (order : List ℕ) (place : ℕ) → IsSearch ns marks order place → IsVisited ns marks (slice_index order place) → IsSearch ns marks order (place + 1)
search_next ns marks order place s seen =
    record {
      sized = s.sized;
      counted = s.counted;
      inside = s.inside;
      listed = s.listed;
      sound = s.sound;
      from_first = s.from_first;
      whole = λ p e. elim (s.whole p e) [
        | inl waits ↦ elim (eqb_tells waits.0 place) [
          | inl w ↦ inr (subst (λ q. IsVisited ns marks q) (sym (ap (slice_index order) w.1) ∙ waits.3) seen)
          | inr w ↦ inl (waits.0, (let from : place ≤ waits.0 = waits.1 in let h : place + 1 ≤ waits.0 = omega (arith, from, w.1) in h), waits.2, waits.3)
        ]
        | inr done ↦ inr done
      ];
    }

-- the list has each block once
pub search_length : (ns : List Node) (marks : List Bool) (order : List ℕ) (place : ℕ) → IsSearch ns marks order place → length order ≤ length ns
search_length ns marks order place s = let most = count_by-le-length (λ (m : Bool). m) marks in omega (arith, most, s.counted, s.sized)

-- all are visited
pub closed_end : (ns : List Node) (marks : List Bool) (order : List ℕ) (place : ℕ) → IsSearch ns marks order place → length order ≤ place → IsClosed ns marks
closed_end ns marks order place s past = λ p t e edge within. elim (s.whole p e) [
  | inl waits ↦ let from : place ≤ waits.0 = waits.1 in let less : waits.0 < length order = waits.2 in absurd (omega (arith, from, less, past))
  | inr seen ↦ seen t edge within
]

pub search_end : (ns : List Node) (marks : List Bool) (order : List ℕ) (place : ℕ) → IsSearch ns marks order place → length order ≤ place → marks ≡ reached ns
unfolding reached
search_end ns marks order place s past =
    let forth : (t : ℕ) → is_marked marks t ≡ true → is_marked (reach ns (length ns)) t ≡ true = λ t e. reach_le ns (length order) (length ns) t (search_length ns marks order place s) (s.sound t e) in
    let back : (t : ℕ) → is_marked (reach ns (length ns)) t ≡ true → is_marked marks t ≡ true = reach_marked ns marks (length ns) s.from_first (closed_end ns marks order place s past) in
    ext_get_or false marks (reach ns (length ns)) (s.sized ∙ sym (length-reach ns (length ns))) (λ t h. same_tests (is_marked marks t) (is_marked (reach ns (length ns)) t) (forth t) (back t))

pub closed_none : (ns : List Node) (marks : List Bool) → length marks ≡ 0 → IsClosed ns marks
closed_none ns marks none = λ p t e edge within. let inside : p < length marks = marked_within marks p e in absurd (omega (arith, inside, none))

-- at first the first block alone is marked, or none where there is none
pub search_first : (ns : List Node) → 0 < length ns → IsSearch ns (set (replicate (length ns) false) 0 true) (0 ∷ []) 0
search_first ns some =
    let sized : length (replicate (length ns) false) ≡ length ns = length-replicate (length ns) false in
    let inside : 0 < length (replicate (length ns) false) = omega (arith, sized, some) in
    let free : (q : ℕ) → is_marked (replicate (length ns) false) q ≡ true → ⊥ = none (length ns) in
    let zero_is : (k : ℕ) → k < 1 → 0 ≡ k = λ k h. omega arith in
    record {
      sized = length-set (replicate (length ns) false) 0 true ∙ sized;
      counted = count_more (replicate (length ns) false) 0 inside (get_or-replicate (length ns) 0 false false some) ∙ ap (λ n. n + 1) (count_none (length ns));
      inside = λ k h. subst (λ j. slice_index (0 ∷ []) j < length ns) (zero_is k h) some;
      listed = λ k h. subst (λ j. is_marked (set (replicate (length ns) false) 0 true) (slice_index (0 ∷ []) j) ≡ true) (zero_is k h) (get_or-set_same (replicate (length ns) false) 0 true false inside);
      sound = λ q e. elim (eqb_tells q 0) [
        | inl w ↦ subst (λ n. is_marked (reach ns 1) n ≡ true) (sym w.1) (reach_more ns 0 0 (reach_start ns some))
        | inr w ↦ absurd (free q (mark_before (replicate (length ns) false) 0 q w.1 e))
      ];
      whole = λ p e. elim (eqb_tells p 0) [
        | inl w ↦ inl (0, (let h : 0 ≤ 0 = omega arith in h), (let h : 0 < 1 = omega arith in h), sym w.1)
        | inr w ↦ absurd (free p (mark_before (replicate (length ns) false) 0 p w.1 e))
      ];
      from_first = λ h. get_or-set_same (replicate (length ns) false) 0 true false inside;
    }
  where
    none : (n q : ℕ) → is_marked (replicate n false) q ≡ true → ⊥
    none zero q e = cc
    none (suc n) zero e = cc
    none (suc n) (suc q) e = none n q e

    count_none : (n : ℕ) → count_by (λ (m : Bool). m) (replicate n false) ≡ 0
    count_none zero = refl
    count_none (suc n) = count_none n

-- a function without blocks
pub search_none : (ns : List Node) (marks : List Bool) → length ns ≡ 0 → length marks ≡ 0 → marks ≡ reached ns
unfolding reached
search_none ns marks none no_marks = ext_get_or false marks (reach ns (length ns)) (no_marks ∙ sym none ∙ sym (length-reach ns (length ns))) (λ t h. absurd (omega (arith, h, no_marks)))

-- part of the visit of a block: so many of its targets have been looked at
pub record IsVisit (ns : List Node) (marks : List Bool) (order : List ℕ) (place block : ℕ) (targets : List ℕ) (i : ℕ) : Type 0 where
  pub search : IsSearch ns marks order place
  pub there : place < length order
  pub same : slice_index order place ≡ block
  pub seen : (k : ℕ) → k < i → slice_index targets k < length ns → is_marked marks (slice_index targets k) ≡ true

pub found_target : (targets : List ℕ) (t : ℕ) → list_any (λ x. x == t) targets ≡ true → (k : ℕ) × (k < length targets) × (slice_index targets k ≡ t)
found_target [] t e = cc
found_target (x ∷ targets) t e =
    elim (eqb_tells x t) [
      | inl w ↦ (0, (let h : 0 < suc (length targets) = omega arith in h), w.1)
      | inr w ↦
          let later = found_target targets t (subst (λ b. (b || list_any (λ x. x == t) targets) ≡ true) w.0 e) in
          (suc later.0, (let less : later.0 < length targets = later.1 in let h : suc later.0 < suc (length targets) = omega (arith, less) in h), later.2)
    ]

pub visit_first : (ns : List Node) (marks : List Bool) (order : List ℕ) (place block : ℕ) (targets : List ℕ) → IsSearch ns marks order place → place < length order → slice_index order place ≡ block → IsVisit ns marks order place block targets 0
visit_first ns marks order place block targets s there same = record { search = s; there = there; same = same; seen = λ k h. absurd (omega arith) }

-- a target that is marked, or no block
pub visit_past : (ns : List Node) (marks : List Bool) (order : List ℕ) (place block : ℕ) (targets : List ℕ) (i : ℕ) → IsVisit ns marks order place block targets i → (slice_index targets i < length ns → is_marked marks (slice_index targets i) ≡ true) → IsVisit ns marks order place block targets (i + 1)
visit_past ns marks order place block targets i v known = record { search = v.search; there = v.there; same = v.same; seen = below_more (λ k. slice_index targets k < length ns → is_marked marks (slice_index targets k) ≡ true) i v.seen known }

-- a target that is not marked
pub visit_push : (ns : List Node) (marks : List Bool) (order : List ℕ) (place block : ℕ) (targets : List ℕ) (i : ℕ) → IsVisit ns marks order place block targets i → i < length targets → targets ≡ (nth ns block).targets → slice_index targets i < length marks → is_marked marks (slice_index targets i) ≡ false → IsVisit ns (set marks (slice_index targets i) true) (order ++ slice_index targets i ∷ []) place block targets (i + 1)
visit_push ns marks order place block targets i v inside own within free =
    let t : ℕ = slice_index targets i in
    let below : t < length ns = omega (arith, within, v.search.sized) in
    let edge : leads_to t (nth ns (slice_index order place)) ≡ true = subst (λ b. leads_to t (nth ns b) ≡ true) (sym v.same) (subst (λ ts. list_any (λ x. x == t) ts ≡ true) own (any_itself targets i inside)) in
    record {
      search = search_push ns marks order place t v.search v.there below free edge;
      there = (let longer = length_push order t in let h : place < length (order ++ t ∷ []) = omega (arith, longer, v.there) in h);
      same = get_or_append_left order (t ∷ []) 0 place v.there ∙ v.same;
      seen = below_more (λ k. slice_index targets k < length ns → is_marked (set marks t true) (slice_index targets k) ≡ true) i (λ k h w. mark_kept marks t (slice_index targets k) within (v.seen k h w)) (λ w. get_or-set_same marks t true false within);
    }

pub visit_end : (ns : List Node) (marks : List Bool) (order : List ℕ) (place block : ℕ) (targets : List ℕ) (i : ℕ) → IsVisit ns marks order place block targets i → length targets ≤ i → targets ≡ (nth ns block).targets → IsSearch ns marks order (place + 1)
visit_end ns marks order place block targets i v all own =
    search_next ns marks order place v.search (λ t e within.
    let edge : list_any (λ x. x == t) targets ≡ true = subst (λ ts. list_any (λ x. x == t) ts ≡ true) (ap (λ b. (nth ns b).targets) v.same ∙ sym own) e in
    let at = found_target targets t edge in
    let less : at.0 < length targets = at.1 in
    subst (λ q. is_marked marks q ≡ true) at.2 (v.seen at.0 (omega (arith, less, all)) (subst (λ q. q < length ns) (sym at.2) within)))

pub search_begun : (ns : List Node) (marks : List Bool) (order : List ℕ) → marks ≡ replicate (length ns) false → order ≡ 0 ∷ [] → 0 < length ns → IsSearch ns (set marks 0 true) order 0
search_begun ns marks order all_free one some = rw (all_free, one) (search_first ns some)

pub visited_targets : (ns : List Node) (marks : List Bool) (order : List ℕ) (place block : ℕ) (targets : List ℕ) (i : ℕ) (d : Node) → IsVisit ns marks order place block targets i → targets ≡ (get_or ns block d).targets → targets ≡ (nth ns block).targets
visited_targets ns marks order place block targets i d v own =
    let within : block < length ns = subst (λ b. b < length ns) v.same (v.search.inside place v.there) in
    own ∙ ap (λ (m : Node). m.targets) (get_or_default ns block d no_node within)

pub ruleset search_rules = (search_end, search_first, search_none, search_length, closed_end, closed_none)

pub ruleset visit_rules = (visit_first)

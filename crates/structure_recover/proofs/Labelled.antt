-- Literals that are added to arms whose targets rise.
use Rattle.std.proofs.Common.{◌≡◌, ◌≢◌, ◌<◌, ◌≤◌, ◌==◌, ◌||◌, ℕ, Bool, true, false, List, [], ◌∷◌, ◌++◌, length, get_or, set, map, filter, drop, Some, None, cond, if◌then◌else◌, Ok, Err, refl, ap, sym, ◌∙◌, subst, inl, inr, arith}
use Rattle.std.specs.List.{list_any, dedup, dedup_from, zip}
use Rattle.std.specs.List.Sorted.{IsStrictlyIncreasing, IsBinarySearchResult}
use Rattle.std.specs.Ordering.{nat_cmp}
use Rattle.std.proofs.lemmas.List.Sorted.{searched}
use Rattle.std.proofs.lemmas.Bool.Decides.{eqb_tells}
use Rattle.std.proofs.lemmas.List.{map-append, append-nil, append_assoc, get_or-map, get_or-set_same, get_or-set_other, length-map, length-set}
use Rattle.std.proofs.lemmas.List.Kept.{AllPairs-from_increasing}
use Rattle.std.proofs.lemmas.Bool.{cases_eq, cases_lt}
use Rattle.std.proofs.lemmas.List.Elements.{filter-append}
use Rattle.std.proofs.Math.Seq.{map-set_same}
use Rattle.structure_recover.specs.declared.arms.Arm.{Arm}
use Rattle.structure_rules.specs.Graph.{is_value}
use Rattle.structure_recover.specs.Follows.{firsts, labels_to}
use Rattle.structure_recover.specs.Arms.{first_literal, target_of, IsLabelled, AreLabelled, Adds, AddsSoFar}

-- a number that stands twice in a row stands once
any_from : (p : ℕ → Bool) (k : ℕ) (xs : List ℕ) → list_any p (dedup_from (λ x y. x == y) k xs) ≡ (p k || list_any p xs)
any_from p k [] = refl
any_from p k (x ∷ xs) = elim (eqb_tells x k) [
  | inl w ↦
      ap (λ b. list_any p (cond b (dedup_from (λ x y. x == y) k xs) (k ∷ dedup_from (λ x y. x == y) x xs))) w.0
      ∙ (any_from p k xs ∙ (twice (p k) (list_any p xs) ∙ ap (λ y. p k || (p y || list_any p xs)) (sym w.1)))
  | inr w ↦
      ap (λ b. list_any p (cond b (dedup_from (λ x y. x == y) k xs) (k ∷ dedup_from (λ x y. x == y) x xs))) w.0
      ∙ ap (λ b. p k || b) (any_from p x xs)
]
  where
    twice : (a b : Bool) → (a || b) ≡ (a || (a || b))
    twice true b = refl
    twice false b = refl

pub any_once : (p : ℕ → Bool) (xs : List ℕ) → list_any p (dedup (λ x y. x == y) xs) ≡ list_any p xs
any_once p [] = refl
any_once p (x ∷ xs) = any_from p x xs

-- the labels of a target, with one more case
labels_one : (cs : List (ℕ × ℕ)) (t l q : ℕ) → labels_to (cs ++ (t, l) ∷ []) q ≡ labels_to cs q ++ (if t == q then l ∷ [] else [])
labels_one cs t l q =
    ap (map (λ (c : ℕ × ℕ). c.1)) (filter-append (λ (c : ℕ × ℕ). c.0 == q) cs ((t, l) ∷ []))
    ∙ (map-append (λ (c : ℕ × ℕ). c.1) (filter (λ (c : ℕ × ℕ). c.0 == q) cs) (filter (λ (c : ℕ × ℕ). c.0 == q) ((t, l) ∷ []))
    ∙ ap (λ r. labels_to cs q ++ r) (only (t == q)))
  where
    only : (b : Bool) → map (λ (c : ℕ × ℕ). c.1) (if b then (t, l) ∷ [] else []) ≡ (if b then l ∷ [] else [])
    only true = refl
    only false = refl

labels_here : (cs : List (ℕ × ℕ)) (t l q : ℕ) → t ≡ q → labels_to (cs ++ (t, l) ∷ []) q ≡ labels_to cs q ++ l ∷ []
labels_here cs t l q e = labels_one cs t l q ∙ elim (eqb_tells t q) [
  | inl w ↦ ap (λ b. labels_to cs q ++ (if b then l ∷ [] else [])) w.0
  | inr w ↦ absurd (w.1 e)
]

labels_elsewhere : (cs : List (ℕ × ℕ)) (t l q : ℕ) → t ≢ q → labels_to (cs ++ (t, l) ∷ []) q ≡ labels_to cs q
labels_elsewhere cs t l q e = labels_one cs t l q ∙ elim (eqb_tells t q) [
  | inl w ↦ absurd (e w.1)
  | inr w ↦ ap (λ b. labels_to cs q ++ (if b then l ∷ [] else [])) w.0 ∙ append-nil (labels_to cs q)
]

-- the literal of a target that no arm has
pub adds_absent : (olds : List Arm) (order : List ℕ) (t l : ℕ) → map target_of olds ≡ order → ((k : ℕ) → k < length order → get_or order k 0 ≢ t) → Adds ((t, l) ∷ []) olds olds
adds_absent olds order t l same absent = record {
  targets = refl;
  labelled = λ default cs were. record {
    each = λ k d less. (
        let was = were.each k d less in
        let inside : k < length order = subst (λ n. k < n) (sym (length-map olds target_of) ∙ ap length same) less in
        let at : get_or order k 0 ≡ (get_or olds k d).target = ap (λ xs. get_or xs k 0) (sym same) ∙ get_or-map target_of olds k d 0 less in
        record {
          labels = was.labels ∙ sym (labels_elsewhere cs t l (get_or olds k d).target (λ e. absent k inside (at ∙ sym e)));
          mark = was.mark;
        });
  };
}

-- the literal of the target of an arm
pub adds_at : (olds : List Arm) (order : List ℕ) (k : ℕ) (old x : Arm) (t l : ℕ) → map target_of olds ≡ order → IsStrictlyIncreasing order → k < length olds → old ≡ get_or olds k old → old.target ≡ t
    → x.target ≡ old.target → x.labels.items ≡ old.labels.items ++ l ∷ [] → x.default ≡ old.default → Adds ((t, l) ∷ []) olds (set olds k x)
adds_at olds order k old x t l same up inside here is to grown marked = record {
  targets = map-set_same target_of olds k x old (to ∙ ap target_of here);
  labelled = λ default cs were. record {
    each = λ j d less. (elim (cases_eq j k) [
      | inl w ↦
          let was = subst (IsLabelled default cs) (sym here) (were.each k old inside) in
          let at : get_or (set olds k x) j d ≡ x = ap (λ i. get_or (set olds k x) i d) w ∙ get_or-set_same olds k x d inside in
          subst (IsLabelled default (cs ++ (t, l) ∷ [])) (sym at) (record {
            labels = grown ∙ (ap (λ q. q ++ l ∷ []) was.labels ∙ (sym (labels_here cs t l old.target (sym is)) ∙ ap (labels_to (cs ++ (t, l) ∷ [])) (sym to)));
            mark = marked ∙ (was.mark ∙ ap (λ q. is_value q default) (sym to));
          })
      | inr w ↦
          let low : j < length olds = subst (λ n. j < n) (length-set olds k x) less in
          let was = were.each j d low in
          let at : get_or (set olds k x) j d ≡ get_or olds j d = get_or-set_other olds k j x d w in
          subst (IsLabelled default (cs ++ (t, l) ∷ [])) (sym at) (record {
            labels = was.labels ∙ sym (labels_elsewhere cs t l (get_or olds j d).target (λ e. apart j d low w (sym e)));
            mark = was.mark;
          })
    ]);
  };
}
  where
    within : (j : ℕ) → j < length olds → j < length order
    within j less = subst (λ n. j < n) (sym (length-map olds target_of) ∙ ap length same) less

    number : (j : ℕ) (d : Arm) → j < length olds → get_or order j 0 ≡ (get_or olds j d).target
    number j d less = ap (λ xs. get_or xs j 0) (sym same) ∙ get_or-map target_of olds j d 0 less

    apart : (j : ℕ) (d : Arm) → j < length olds → j ≢ k → (get_or olds j d).target ≢ t
    apart j d low other e =
        let mine : get_or order j 0 ≡ t = number j d low ∙ e in
        let yours : get_or order k 0 ≡ t = number k old inside ∙ (ap target_of (sym here) ∙ is) in
        elim (cases_lt j k) [
          | inl less ↦ (let below : get_or order j 0 < get_or order k 0 = AllPairs-from_increasing order up j k 0 less (within k inside) in absurd (omega (arith, below, mine, yours)))
          | inr le ↦ (let below : get_or order k 0 < get_or order j 0 = AllPairs-from_increasing order up k j 0 (omega (arith, le, other)) (within j low) in absurd (omega (arith, below, mine, yours)))
        ]

-- none are added, and some more
pub adds_none : (arms : List Arm) → Adds [] arms arms
adds_none arms = record { targets = refl; labelled = λ default cs were. subst (λ q. AreLabelled default q arms) (sym (append-nil cs)) were }

pub adds_more : (a b : List (ℕ × ℕ)) (x y z : List Arm) → Adds a x y → Adds b y z → Adds (a ++ b) x z
adds_more a b x y z first second = record {
  targets = second.targets ∙ first.targets;
  labelled = λ default cs were. subst (λ q. AreLabelled default q z) (append_assoc cs a b) (second.labelled default (cs ++ a) (first.labelled default cs were));
}

-- numbers that rise do not fall
pub up_to : (order : List ℕ) → IsStrictlyIncreasing order → (i j : ℕ) → i ≤ j → j < length order → get_or order i 0 ≤ get_or order j 0
up_to order up i j le less = elim (cases_lt i j) [
  | inl before ↦ (let below : get_or order i 0 < get_or order j 0 = AllPairs-from_increasing order up i j 0 before less in omega (arith, below))
  | inr past ↦ (let same : get_or order i 0 ≡ get_or order j 0 = ap (λ n. get_or order n 0) (let e : i ≡ j = omega (arith, le, past) in e) in omega (arith, same))
]

-- the place that a search finds, and that one finds none
pub found_at : (order : List ℕ) (t k : ℕ) → IsStrictlyIncreasing order → IsBinarySearchResult (λ y. nat_cmp y t) order (Ok k) → get_or order k 0 ≡ t
found_at order t k up found = (searched order t (Ok k) found (up_to order up)).1

pub found_none : (order : List ℕ) (t k : ℕ) → IsStrictlyIncreasing order → IsBinarySearchResult (λ y. nat_cmp y t) order (Err k) → (j : ℕ) → j < length order → get_or order j 0 ≢ t
found_none order t k up found j less e =
    let parted = searched order t (Err k) found (up_to order up) in
    elim (cases_lt j k) [
      | inl before ↦ (let low : get_or order j 0 < t = parted.1 j before in absurd (omega (arith, low, e)))
      | inr past ↦ (let high : t < get_or order j 0 = parted.2 j past less in absurd (omega (arith, high, e)))
    ]

-- the cases are at an end, and there is one more
no_more : (ws : List ℕ) → first_literal ws ≡ None → firsts ws ≡ []
no_more [] e = refl
no_more (w ∷ []) e = refl
no_more (w ∷ label ∷ ws) e = cc

one_more : (ws : List ℕ) (l : ℕ) → first_literal ws ≡ Some l → firsts ws ≡ l ∷ firsts (drop 2 ws)
one_more [] l e = cc
one_more (w ∷ []) l e = cc
one_more (w ∷ label ∷ ws) l e = let same : w ≡ l = cc in ap (λ q. q ∷ firsts ws) same

zip_none : (ts : List ℕ) → zip {K = ℕ} {X = ℕ} ts [] ≡ []
zip_none [] = refl
zip_none (t ∷ ts) = refl

pub all_added : (all left : List (ℕ × ℕ)) (old new : List Arm) → AddsSoFar all left old new → left ≡ [] → Adds all old new
all_added all left old new so none = subst (λ q. Adds q old new) (sym (append-nil so.done) ∙ (ap (λ q. so.done ++ q) (sym none) ∙ so.whole)) so.adds

pub cases_end : (all : List (ℕ × ℕ)) (ts ws : List ℕ) (old new : List Arm) → AddsSoFar all (zip ts (firsts ws)) old new → first_literal ws ≡ None → Adds all old new
cases_end all ts ws old new so none = all_added all (zip ts (firsts ws)) old new so (ap (zip ts) (no_more ws none) ∙ zip_none ts)

pub cases_more : (all : List (ℕ × ℕ)) (ts more ws rest : List ℕ) (t l : ℕ) (old new last : List Arm) → AddsSoFar all (zip ts (firsts ws)) old new → ts ≡ t ∷ more → first_literal ws ≡ Some l → rest ≡ drop 2 ws → Adds ((t, l) ∷ []) new last → AddsSoFar all (zip more (firsts rest)) old last
cases_more all ts more ws rest t l old new last so is some behind one = record {
  done = so.done ++ (t, l) ∷ [];
  whole = append_assoc so.done ((t, l) ∷ []) (zip more (firsts rest)) ∙ (ap (λ q. so.done ++ q) (sym (ap (λ x. zip x (firsts ws)) is ∙ (ap (zip (t ∷ more)) (one_more ws l some) ∙ ap (λ x. (t, l) ∷ zip more (firsts x)) (sym behind)))) ∙ so.whole);
  adds = adds_more so.done ((t, l) ∷ []) old new last so.adds one;
}

pub none_yet : (all : List (ℕ × ℕ)) (arms : List Arm) → AddsSoFar all all arms arms
none_yet all arms = record { done = []; whole = refl; adds = adds_none arms }

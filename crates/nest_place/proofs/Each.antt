-- Links that are said of each node in turn.
use Rattle.std.proofs.Common.{◌≡◌, ◌<◌, ◌≤◌, ◌+◌, ◌==◌, ◌&&◌, ◌||◌, ℕ, zero, suc, Bool, true, false, List, [], ◌∷◌, ◌++◌, length, drop, get_or, filter, refl, ap, sym, ◌∙◌, subst, inl, inr, cond, arith, append_assoc}
use Rattle.std.specs.List.{list_any}
use Rattle.std.proofs.lemmas.List.{drop_more, drop_all, append-nil}
use Rattle.std.proofs.lemmas.List.Folds.{list_any-append}
use Rattle.std.proofs.lemmas.Bool.{or_cases, and_parts, or_left, or_right, and_from}
use Rattle.structure_rules.specs.declared.graph.Node.{Node}
use Rattle.structure_rules.specs.Graph.{nth}
use Rattle.structure_rules.specs.Nesting.{Links, has_link, each, linked}
use Rattle.nest_place.specs.Links.{AreWithin}
use Rattle.nest_place.proofs.LinkLemmas.{same_nat, equal_nat}

-- one node more
pub each_next : {A : Type 0} (f : ℕ → Node → List A) (g : List Node) (i : ℕ) (d : Node) (done : List A) → i < length g → done ++ each f i (drop i g) ≡ (done ++ f i (get_or g i d)) ++ each f (i + 1) (drop (i + 1) g)
each_next f g i d done inside =
    let one : suc i ≡ i + 1 = omega arith in
    ap (λ ns. done ++ each f i ns) (drop_more g i d inside)
    ∙ ap (λ k. done ++ (f i (get_or g i d) ++ each f k (drop (i + 1) g))) one
    ∙ sym (append_assoc done (f i (get_or g i d)) (each f (i + 1) (drop (i + 1) g)))

pub each_end : {A : Type 0} (f : ℕ → Node → List A) (g : List Node) (i : ℕ) (done : List A) → length g ≤ i → done ++ each f i (drop i g) ≡ done
each_end f g i done all = ap (λ ns. done ++ each f i ns) (drop_all i g all) ∙ append-nil done

has_append : (xs ys : Links) (a b : ℕ) → has_link (xs ++ ys) a b ≡ (has_link xs a b || has_link ys a b)
has_append xs ys a b = list_any-append (λ (m : ℕ × ℕ). (m.0 == a) && (m.1 == b)) xs ys

pub each_has : (f : ℕ → Node → Links) (i : ℕ) (g : List Node) (a b : ℕ) → has_link (each f i g) a b ≡ true → (k : ℕ) × (k < length g) × (has_link (f (i + k) (nth g k)) a b ≡ true)
each_has f i [] a b e = cc
each_has f i (n ∷ g) a b e =
    elim (or_cases (has_link (f i n) a b) (has_link (each f (suc i) g) a b) (sym (has_append (f i n) (each f (suc i) g) a b) ∙ e)) [
      | inl here ↦ (0, (let h : 0 < suc (length g) = omega arith in h), (let same : i + 0 ≡ i = omega arith in subst (λ j. has_link (f j n) a b ≡ true) (sym same) here))
      | inr there ↦
          let later = each_has f (suc i) g a b there in
          let less : later.0 < length g = later.1 in
          let same : suc i + later.0 ≡ i + suc later.0 = omega arith in
          (suc later.0, (let h : suc later.0 < suc (length g) = omega (arith, less) in h), subst (λ j. has_link (f j (nth g later.0)) a b ≡ true) same later.2)
    ]

pub has_each : (f : ℕ → Node → Links) (i : ℕ) (g : List Node) (k a b : ℕ) → k < length g → has_link (f (i + k) (nth g k)) a b ≡ true → has_link (each f i g) a b ≡ true
has_each f i [] k a b inside e = absurd (omega (arith, inside))
has_each f i (n ∷ g) zero a b inside e =
    let same : i + 0 ≡ i = omega arith in
    has_append (f i n) (each f (suc i) g) a b ∙ or_left _ _ (subst (λ j. has_link (f j n) a b ≡ true) same e)
has_each f i (n ∷ g) (suc k) a b inside e =
    let same : i + suc k ≡ suc i + k = omega arith in
    has_append (f i n) (each f (suc i) g) a b ∙ or_right (has_link (f i n) a b) _ (has_each f (suc i) g k a b (omega (arith, inside)) (subst (λ j. has_link (f j (nth g k)) a b ≡ true) same e))

linked_has : (ts : List ℕ) (p t q : ℕ) → has_link (linked ts p) t q ≡ true → (list_any (λ x. x == t) ts ≡ true) × (p ≡ q)
linked_has [] p t q e = cc
linked_has (x ∷ ts) p t q e =
    elim (or_cases ((x == t) && (p == q)) (has_link (linked ts p) t q) e) [
      | inl here ↦ let parts = and_parts (x == t) (p == q) here in (or_left (x == t) _ parts.0, equal_nat p q parts.1)
      | inr there ↦ let later = linked_has ts p t q there in (or_right (x == t) _ later.0, later.1)
    ]

has_linked : (ts : List ℕ) (p t : ℕ) → list_any (λ x. x == t) ts ≡ true → has_link (linked ts p) t p ≡ true
has_linked [] p t e = cc
has_linked (x ∷ ts) p t e =
    elim (or_cases (x == t) (list_any (λ y. y == t) ts) e) [
      | inl here ↦ or_left _ _ (and_from (x == t) (p == p) here (same_nat p))
      | inr there ↦ or_right ((x == t) && (p == p)) _ (has_linked ts p t there)
    ]

-- a link stands for a block, and one of those that are said of it
pub link_from : (f : ℕ → Node → List ℕ) (g : List Node) (t p : ℕ) → has_link (each (λ b n. linked (f b n) b) 0 g) t p ≡ true → (p < length g) × (list_any (λ x. x == t) (f p (nth g p)) ≡ true)
link_from f g t p e =
    let at = each_has (λ b n. linked (f b n) b) 0 g t p e in
    let here = linked_has (f (0 + at.0) (nth g at.0)) (0 + at.0) t p at.2 in
    let same : at.0 ≡ p = (let zero_plus : 0 + at.0 ≡ at.0 = omega arith in sym zero_plus ∙ here.1) in
    (subst (λ q. q < length g) same at.1, subst (λ q. list_any (λ x. x == t) (f q (nth g p)) ≡ true) here.1 (subst (λ q. list_any (λ x. x == t) (f (0 + at.0) (nth g q)) ≡ true) same here.0))

pub link_to : (f : ℕ → Node → List ℕ) (g : List Node) (t p : ℕ) → p < length g → list_any (λ x. x == t) (f p (nth g p)) ≡ true → has_link (each (λ b n. linked (f b n) b) 0 g) t p ≡ true
link_to f g t p inside e =
    let zero_plus : p ≡ 0 + p = omega arith in
    has_each (λ b n. linked (f b n) b) 0 g p t p inside
    (subst (λ q. has_link (linked (f q (nth g p)) q) t p ≡ true) zero_plus (has_linked (f p (nth g p)) p t e))

pub filter_has : (q : ℕ → Bool) (ts : List ℕ) (t : ℕ) → list_any (λ x. x == t) (filter q ts) ≡ true → (list_any (λ x. x == t) ts ≡ true) × (q t ≡ true)
filter_has q [] t e = cc
filter_has q (x ∷ ts) t e = by_test (filter_has q ts t) (q x) refl e
  where
    by_test : (list_any (λ x. x == t) (filter q ts) ≡ true → (list_any (λ x. x == t) ts ≡ true) × (q t ≡ true)) → (b : Bool) → q x ≡ b → list_any (λ x. x == t) (cond b (x ∷ filter q ts) (filter q ts)) ≡ true → (((x == t) || list_any (λ x. x == t) ts) ≡ true) × (q t ≡ true)
    by_test on true is h =
        elim (or_cases (x == t) (list_any (λ x. x == t) (filter q ts)) h) [
          | inl here ↦ (or_left _ _ here, subst (λ y. q y ≡ true) (equal_nat x t here) is)
          | inr there ↦ let later = on there in (or_right (x == t) _ later.0, later.1)
        ]
    by_test on false is h = let later = on h in (or_right (x == t) _ later.0, later.1)

pub has_filter : (q : ℕ → Bool) (ts : List ℕ) (t : ℕ) → list_any (λ x. x == t) ts ≡ true → q t ≡ true → list_any (λ x. x == t) (filter q ts) ≡ true
has_filter q [] t e passes = cc
has_filter q (x ∷ ts) t e passes = by_test (λ there. has_filter q ts t there passes) (q x) refl
  where
    by_test : (list_any (λ x. x == t) ts ≡ true → list_any (λ x. x == t) (filter q ts) ≡ true) → (b : Bool) → q x ≡ b → list_any (λ x. x == t) (cond b (x ∷ filter q ts) (filter q ts)) ≡ true
    by_test on true is =
        elim (or_cases (x == t) (list_any (λ x. x == t) ts) e) [
          | inl here ↦ or_left _ _ here
          | inr there ↦ or_right (x == t) _ (on there)
        ]
    by_test on false is =
        elim (or_cases (x == t) (list_any (λ x. x == t) ts) e) [
          | inl here ↦ let no : q t ≡ false = subst (λ y. q y ≡ false) (equal_nat x t here) is in cc
          | inr there ↦ on there
        ]

-- links whose blocks are among the first n
pub links_within : (n : ℕ) (links : Links) → ((a b : ℕ) → has_link links a b ≡ true → a < n) → AreWithin n links
links_within n [] all k inside = absurd (omega (arith, inside))
links_within n (l ∷ links) all zero inside = all l.0 l.1 (or_left _ _ (and_from (l.0 == l.0) (l.1 == l.1) (same_nat l.0) (same_nat l.1)))
links_within n (l ∷ links) all (suc k) inside = links_within n links (λ a b e. all a b (or_right ((l.0 == a) && (l.1 == b)) _ e)) k (omega (arith, inside))

-- a member of a list stands somewhere in it
pub member_at : (ts : List ℕ) (t : ℕ) → list_any (λ x. x == t) ts ≡ true → (k : ℕ) × (k < length ts) × (get_or ts k 0 ≡ t)
member_at [] t e = cc
member_at (x ∷ ts) t e =
    elim (or_cases (x == t) (list_any (λ y. y == t) ts) e) [
      | inl here ↦ (0, (let h : 0 < suc (length ts) = omega arith in h), equal_nat x t here)
      | inr there ↦
          let later = member_at ts t there in
          let less : later.0 < length ts = later.1 in
          (suc later.0, (let h : suc later.0 < suc (length ts) = omega (arith, less) in h), later.2)
    ]

pub ruleset each_rules = (each_next, each_end)

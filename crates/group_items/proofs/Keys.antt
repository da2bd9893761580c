-- Places as keys of a map.
use Rattle.std.proofs.Common.{rules, ◌≡◌, ℕ, ◌==◌, ◌&&◌, Bool, true, false, List, [], ◌∷◌, refl, ap, sym, ◌∙◌, cond, arith}
use Rattle.std.proofs.lemmas.Bool.Decides.{nat_tests}
use Rattle.std.specs.Prelude.{Option, Some, None, unwrap_or}
use Rattle.std.specs.Cmp.Lexicographic.{pointwise}
use Rattle.std.specs.Ordering.{is_eq, match_ordering}
use Rattle.std.specs.declared.cmp.Ordering.{Ordering}
use Rattle.std.specs.declared.cmp.Ordering.TheVariants.{Less, Equal, Greater}
use Rattle.std.specs.BTreeMap.{insert_entry, is_at}
use Rattle.std.specs.Map.{lookup}
use Rattle.std.proofs.lemmas.Bool.{and_from}
use Rattle.list_law.proofs.Tests.{and_left, and_right}
use Rattle.list_law.proofs.Numbers.{turned, same_number}
use Rattle.traces.specs.Events.{Location, buffer, push, shared}
use Rattle.dispatch_semantics.specs.Store.{same_numbers, same_location}
use Rattle.group_items.specs.declared.event.LeafPlace.{LeafPlace}
use Rattle.group_items.specs.contracts.event.LeafPlacePartialEq.TheImpl as place_eq
use Rattle.group_items.specs.contracts.event.LeafPlaceOrd.TheImpl as place_ord
use Rattle.group_items.specs.contracts.event.LeafPlaceOrd.TheImpl.Laws.{matches_eq-law}
use Rattle.group_items.specs.Events.{location_of}
use Rattle.group_items.specs.Memory.{word_among, put_among}

same_lists : (xs ys : List ℕ) → pointwise ◌==◌ xs ys ≡ same_numbers xs ys
same_lists [] [] = refl
same_lists [] (y ∷ ys) = refl
same_lists (x ∷ xs) [] = refl
same_lists (x ∷ xs) (y ∷ ys) = ap (λ b. (x == y) && b) (same_lists xs ys)

pub eq_is : (p q : LeafPlace) → place_eq.ghosts.eq p q ≡ same_location (location_of p) (location_of q)
eq_is p q = search (rules, same_lists)

pub cmp_is : (p q : LeafPlace) → is_eq (place_ord.ghosts.cmp p q) ≡ same_location (location_of p) (location_of q)
cmp_is p q = sym (matches_eq-law p q) ∙ eq_is p q

own_nat : (a : ℕ) → (a == a) ≡ true
own_nat a = grind (arith, nat_tests)

numbers_same : (xs ys : List ℕ) → same_numbers xs ys ≡ true → xs ≡ ys
numbers_same [] [] h = refl
numbers_same [] (y ∷ ys) h = cc
numbers_same (x ∷ xs) [] h = cc
numbers_same (x ∷ xs) (y ∷ ys) h =
    ap (λ a. a ∷ xs) (same_number x y (and_left (x == y) (same_numbers xs ys) h)) ∙ ap (λ l. y ∷ l) (numbers_same xs ys (and_right (x == y) (same_numbers xs ys) h))

numbers_own : (xs : List ℕ) → same_numbers xs xs ≡ true
numbers_own [] = refl
numbers_own (x ∷ xs) = and_from (x == x) (same_numbers xs xs) (own_nat x) (numbers_own xs)

pub same_is : (a b : Location) → same_location a b ≡ true → a ≡ b
same_is (buffer s b n) (buffer t c m) h =
    let more : ((b == c) && (n == m)) ≡ true = and_right (s == t) ((b == c) && (n == m)) h in
    ap (λ x. buffer x b n) (same_number s t (and_left (s == t) ((b == c) && (n == m)) h))
    ∙ ap (λ x. buffer t x n) (same_number b c (and_left (b == c) (n == m) more))
    ∙ ap (λ x. buffer t c x) (same_number n m (and_right (b == c) (n == m) more))
same_is (push n) (push m) h = ap push (same_number n m h)
same_is (shared k path) (shared l way) h =
    ap (λ x. shared x path) (same_number k l (and_left (k == l) (same_numbers path way) h)) ∙ ap (λ x. shared l x) (numbers_same path way (and_right (k == l) (same_numbers path way) h))
same_is (buffer s b n) (push m) h = cc
same_is (buffer s b n) (shared l way) h = cc
same_is (push n) (buffer t c m) h = cc
same_is (push n) (shared l way) h = cc
same_is (shared k path) (buffer t c m) h = cc
same_is (shared k path) (push m) h = cc

pub same_own : (a : Location) → same_location a a ≡ true
same_own (buffer s b n) = and_from (s == s) ((b == b) && (n == n)) (own_nat s) (and_from (b == b) (n == n) (own_nat b) (own_nat n))
same_own (push n) = own_nat n
same_own (shared k path) = and_from (k == k) (same_numbers path path) (own_nat k) (numbers_own path)

-- a key more in a list of entries
module _ (k : LeafPlace) (v : ℕ) (at : Location) where
  abbrev tells : LeafPlace → Bool
  tells p = same_location (location_of p) at

  abbrev word_of : Option ℕ → ℕ
  word_of o = unwrap_or o 0

  first_is : (b : Bool) (o : Option ℕ) → word_of (cond b (Some v) o) ≡ (elim b as (λ _. ℕ) [ true ↦ v | false ↦ word_of o ])
  first_is true o = refl
  first_is false o = refl

  in_place : (b : Bool) (w : ℕ) (o : Option ℕ) → word_of (cond b (Some v) o) ≡ (elim b as (λ _. ℕ) [ true ↦ v | false ↦ word_of (cond b (Some w) o) ])
  in_place true w o = refl
  in_place false w o = refl

  behind_other : (b own : Bool) (w : ℕ) (o o' : Option ℕ) → (b ≡ true → own ≡ true → ⊥) → word_of o' ≡ (elim own as (λ _. ℕ) [ true ↦ v | false ↦ word_of o ]) → word_of (cond b (Some w) o') ≡ (elim own as (λ _. ℕ) [ true ↦ v | false ↦ word_of (cond b (Some w) o) ])
  behind_other true true w o o' apart more = absurd (apart refl refl)
  behind_other true false w o o' apart more = refl
  behind_other false own w o o' apart more = more

  pub inserted : (es : List (LeafPlace × ℕ)) → word_among (insert_entry place_ord.ghosts.cmp es k v) at ≡ put_among (location_of k) v (word_among es) at
  inserted [] = first_is (tells k) None
  inserted (e ∷ es) = by_order (place_ord.ghosts.cmp k e.0) refl (inserted es)
    where
      apart : place_ord.ghosts.cmp k e.0 ≡ Greater → tells e.0 ≡ true → tells k ≡ true → ⊥
      apart h there own =
          let one : location_of k ≡ location_of e.0 = same_is (location_of k) at own ∙ sym (same_is (location_of e.0) at there) in
          let equal : is_eq (place_ord.ghosts.cmp k e.0) ≡ true = cmp_is k e.0 ∙ ap (λ x. same_location (location_of k) x) (sym one) ∙ same_own (location_of k) in
          let not_equal : false ≡ true = sym (ap is_eq h) ∙ equal in
          cc

      by_order : (o : Ordering) → place_ord.ghosts.cmp k e.0 ≡ o → word_among (insert_entry place_ord.ghosts.cmp es k v) at ≡ put_among (location_of k) v (word_among es) at → word_among (match_ordering o ((k, v) ∷ e ∷ es) ((e.0, v) ∷ es) (e ∷ insert_entry place_ord.ghosts.cmp es k v)) at ≡ put_among (location_of k) v (word_among (e ∷ es)) at
      by_order Less h more = first_is (tells k) (lookup tells (e ∷ es))
      by_order Equal h more =
          let one : location_of k ≡ location_of e.0 = same_is (location_of k) (location_of e.0) (sym (cmp_is k e.0) ∙ ap is_eq h) in
          ap (λ x. word_of (cond (same_location x at) (Some v) (lookup tells es))) (sym one)
          ∙ in_place (tells k) e.1 (lookup tells es)
          ∙ ap (λ x. elim (tells k) as (λ _. ℕ) [ true ↦ v | false ↦ word_of (cond (same_location x at) (Some e.1) (lookup tells es)) ]) one
      by_order Greater h more = behind_other (tells e.0) (tells k) e.1 (lookup tells es) (lookup tells (insert_entry place_ord.ghosts.cmp es k v)) (apart h) more

numbers_swap : (xs ys : List ℕ) → same_numbers xs ys ≡ same_numbers ys xs
numbers_swap [] [] = refl
numbers_swap [] (y ∷ ys) = refl
numbers_swap (x ∷ xs) [] = refl
numbers_swap (x ∷ xs) (y ∷ ys) = ap (λ b. b && same_numbers xs ys) (turned x y) ∙ ap (λ b. (y == x) && b) (numbers_swap xs ys)

same_swap : (a b : Location) → same_location a b ≡ same_location b a
same_swap (buffer s b n) (buffer t c m) =
    ap (λ x. x && ((b == c) && (n == m))) (turned s t) ∙ ap (λ x. (t == s) && (x && (n == m))) (turned b c) ∙ ap (λ x. (t == s) && ((c == b) && x)) (turned n m)
same_swap (push n) (push m) = turned n m
same_swap (shared k path) (shared l way) = ap (λ x. x && same_numbers path way) (turned k l) ∙ ap (λ x. (l == k) && x) (numbers_swap path way)
same_swap (buffer s b n) (push m) = refl
same_swap (buffer s b n) (shared l way) = refl
same_swap (push n) (buffer t c m) = refl
same_swap (push n) (shared l way) = refl
same_swap (shared k path) (buffer t c m) = refl
same_swap (shared k path) (push m) = refl

-- the word that a map has for a key
pub found_by : (k : LeafPlace) (es : List (LeafPlace × ℕ)) → unwrap_or (lookup (is_at (place_ord.ghosts.cmp k)) es) 0 ≡ word_among es (location_of k)
found_by k es = ap (λ (t : LeafPlace → Bool). unwrap_or (lookup t es) 0) (λ i q. (cmp_is k q ∙ same_swap (location_of k) (location_of q)) i)

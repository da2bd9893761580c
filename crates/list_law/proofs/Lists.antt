-- What is so of any lists.
use Rattle.std.proofs.Common.{◌≡◌, ◌<◌, ◌≤◌, ◌+◌, ◌==◌, ◌||◌, ℕ, zero, suc, Bool, true, false, List, [], ◌∷◌, ◌++◌, length, map, take, drop, get_or, cond, count_by, option_map, bytes_eq, Some, None, refl, sym, ap, ◌∙◌, inl, inr, arith}
use Rattle.std.specs.Prelude.{Contains, slice_get, slice_index, slice_index_or, nat_le}
use Rattle.std.specs.Option.{option_or}
use Rattle.std.specs.List.{list_any, find, position_from, range_with_len}
use Rattle.std.proofs.Math.ListN.{set}
use Rattle.std.proofs.lemmas.Bool.{or_right, cases_eq, eq-eqb}
use Rattle.std.proofs.lemmas.Bool.Decides.{nat_tests}
use Rattle.std.proofs.lemmas.Option.{same_Some}
use Rattle.std.proofs.lemmas.List.{take_more, length-take-le, get_or-set_same, get_or-set_other}
use Rattle.std.proofs.lemmas.List.Sums.{sum_by-cons}
use Rattle.std.proofs.lemmas.Slice.Eq.{bytes_eq-Decides}

-- what a test finds
pub any_same : {A : Type 0} (p q : A → Bool) (xs : List A) → ((x : A) → p x ≡ q x) → list_any p xs ≡ list_any q xs
any_same p q xs same = ap (λ f. list_any f xs) (λ i x. same x i)

pub any_itself : (xs : List ℕ) (k : ℕ) → k < length xs → list_any (λ x. x == slice_index xs k) xs ≡ true
any_itself [] k less = absurd (omega (arith, less))
any_itself (x ∷ xs) zero less = ap (λ b. b || list_any (λ y. y == x) xs) (eq-eqb x x refl)
any_itself (x ∷ xs) (suc k) less = or_right (x == slice_index xs k) (list_any (λ y. y == slice_index xs k) xs) (any_itself xs k (let low : k < length xs = omega (arith, less) in low))

pub found_passes : {A : Type 0} (p : A → Bool) (xs : List A) (x : A) → find p xs ≡ Some x → p x ≡ true
found_passes p [] x found = cc
found_passes p (y ∷ ys) x found =
    (elim (p y) as (λ b. p y ≡ b → cond b (Some y) (find p ys) ≡ Some x → p x ≡ true) [
      | true ↦ λ passes e. let same : y ≡ x = cc in ap p (sym same) ∙ passes
      | false ↦ λ fails e. found_passes p ys x e
    ]) refl found

pub find_map : {A B : Type 0} (test : B → Bool) (f : A → B) (xs : List A) → find test (map f xs) ≡ option_map f (find (λ x. test (f x)) xs)
find_map test f [] = refl
find_map test f (x ∷ xs) = elim (test (f x)) as (λ b. cond b (Some (f x)) (find test (map f xs)) ≡ option_map f (cond b (Some x) (find (λ y. test (f y)) xs))) [
  | true ↦ refl
  | false ↦ find_map test f xs
]

pub count_by-cons : {A : Type 0} (p : A → Bool) (x : A) (xs : List A) → count_by p (x ∷ xs) ≡ cond (p x) 1 0 + count_by p xs
count_by-cons p x xs = sum_by-cons (λ y. cond (p y) 1 0) x xs

-- the place of the first that passes, with one more at the end
pub position_push : {A : Type 0} (p : A → Bool) (n : ℕ) (xs : List A) (y : A) → position_from p n (xs ++ y ∷ []) ≡ option_or (position_from p n xs) (cond (p y) (Some (n + length xs)) None)
position_push p n [] y = ap (λ k. cond (p y) (Some k) None) (let e : n ≡ n + 0 = omega arith in e)
position_push p n (x ∷ xs) y =
    let later : position_from p (n + 1) (xs ++ y ∷ []) ≡ option_or (position_from p (n + 1) xs) (cond (p y) (Some (n + 1 + length xs)) None) = position_push p (n + 1) xs y in
    let e : n + 1 + length xs ≡ n + suc (length xs) = omega arith in
    elim (p x) as (λ b. cond b (Some n) (position_from p (n + 1) (xs ++ y ∷ [])) ≡ option_or (cond b (Some n) (position_from p (n + 1) xs)) (cond (p y) (Some (n + suc (length xs))) None)) [
      | true ↦ refl
      | false ↦ later ∙ ap (λ k. option_or (position_from p (n + 1) xs) (cond (p y) (Some k) None)) e
    ]

pub position_more : {A : Type 0} (p : A → Bool) (xs : List A) (i : ℕ) (d : A) → i < length xs → position_from p 0 (take (i + 1) xs) ≡ option_or (position_from p 0 (take i xs)) (cond (p (get_or xs i d)) (Some i) None)
position_more p xs i d inside =
    let front : take (i + 1) xs ≡ take i xs ++ get_or xs i d ∷ [] = take_more xs i d inside in
    let size : 0 + length (take i xs) ≡ i = omega (arith, length-take-le i xs (omega arith)) in
    ap (position_from p 0) front
    ∙ position_push p 0 (take i xs) (get_or xs i d)
    ∙ ap (λ k. option_or (position_from p 0 (take i xs)) (cond (p (get_or xs i d)) (Some k) None)) size

-- numbers one after the other
pub range_end : (a n : ℕ) → range_with_len a (suc n) ≡ range_with_len a n ++ (a + n) ∷ []
range_end a zero = let same : a ≡ a + 0 = omega arith in ap (λ k. k ∷ []) same
range_end a (suc n) = let same : a + 1 + n ≡ a + suc n = omega arith in ap (λ l. a ∷ l) (range_end (a + 1) n ∙ ap (λ k. range_with_len (a + 1) n ++ k ∷ []) same)

-- marks
pub marked_within : (marks : List Bool) (k : ℕ) → slice_index_or marks k false ≡ true → k < length marks
marked_within [] k on = cc
marked_within (m ∷ marks) zero on = omega arith
marked_within (m ∷ marks) (suc k) on = let later : k < length marks = marked_within marks k on in omega (arith, later)

pub mark_kept : (marks : List Bool) (k q : ℕ) → k < length marks → slice_index_or marks q false ≡ true → slice_index_or (set marks k true) q false ≡ true
mark_kept marks k q inside on = elim (cases_eq q k) [
  | inl same ↦ ap (λ i. slice_index_or (set marks k true) i false) same ∙ get_or-set_same marks k true false inside
  | inr apart ↦ get_or-set_other marks k q true false apart ∙ on
]

-- bytes
pub same_bytes : (bytes : List ℕ) → bytes_eq bytes bytes ≡ true
same_bytes bytes = (bytes_eq-Decides bytes bytes).1 refl

-- joined lists
pub none_behind : (xs : List ℕ) → xs ++ [] ≡ xs
none_behind [] = refl
none_behind (x ∷ xs) = ap (λ l. x ∷ l) (none_behind xs)

pub none_more : (xs : List ℕ) → xs ≡ xs ++ []
none_more [] = refl
none_more (x ∷ xs) = ap (λ l. x ∷ l) (none_more xs)

pub joined : (xs ys : List ℕ) (i : ℕ) → (xs ++ i ∷ []) ++ ys ≡ xs ++ i ∷ ys
joined [] ys i = refl
joined (x ∷ xs) ys i = ap (λ l. x ∷ l) (joined xs ys i)

pub map_joined : {A B : Type 0} (f : A → B) (xs ys : List A) → map f (xs ++ ys) ≡ map f xs ++ map f ys
map_joined f [] ys = refl
map_joined f (x ∷ xs) ys = ap (λ l. f x ∷ l) (map_joined f xs ys)

pub map_twice : {A B C : Type 0} (f : B → C) (g : A → B) (xs : List A) → map f (map g xs) ≡ map (λ x. f (g x)) xs
map_twice f g [] = refl
map_twice f g (x ∷ xs) = ap (λ l. f (g x) ∷ l) (map_twice f g xs)

pub map_length : {A B : Type 0} (f : A → B) (xs : List A) → length (map f xs) ≡ length xs
map_length f [] = refl
map_length f (x ∷ xs) = ap (λ n. suc n) (map_length f xs)

-- lists that are empty
pub none_left : {A : Type 0} (xs ys : List A) → xs ++ ys ≡ [] → xs ≡ []
none_left [] ys e = refl
none_left (x ∷ xs) ys e = cc

pub none_right : {A : Type 0} (xs ys : List A) → xs ++ ys ≡ [] → ys ≡ []
none_right [] ys e = e
none_right (x ∷ xs) ys e = cc

-- numbers of a list
pub contains_head : (x : ℕ) (xs : List ℕ) → Contains (x ∷ xs) x
contains_head x xs = (0, (let less : 0 < suc (length xs) = omega arith in less), refl)

pub contains_tail : (y x : ℕ) (xs : List ℕ) → Contains xs x → Contains (y ∷ xs) x
contains_tail y x xs (k, less, same) = (suc k, (let more : suc k < suc (length xs) = omega (arith, less) in more), same)

pub none_within : {A : Type 0} (x : A) → Contains [] x → ⊥
none_within x has = let less = has.1 in omega (arith, less)

pub empty_of : (xs : List ℕ) → ((x : ℕ) → Contains xs x → ⊥) → xs ≡ []
empty_of [] far = refl
empty_of (x ∷ xs) far = absurd (far x (contains_head x xs))

-- what stands at a place
pub place_of : (xs : List ℕ) (k x : ℕ) → slice_get xs k ≡ Some x → (k < length xs) × (slice_index xs k ≡ x)
place_of [] k x at = cc
place_of (y ∷ xs) zero x at = ((let low : zero < suc (length xs) = omega arith in low), same_Some y x at)
place_of (y ∷ xs) (suc k) x at = let w = place_of xs k x at in let less = w.0 in ((let low : suc k < suc (length xs) = omega (arith, less) in low), w.1)

pub second_at : (xs : List ℕ) (x : ℕ) → slice_get xs 1 ≡ Some x → (1 < length xs) × (slice_index xs 1 ≡ x)
second_at xs x at = place_of xs 1 x at

pub get_index : (xs : List ℕ) (k x : ℕ) → slice_get xs k ≡ Some x → slice_index xs k ≡ x
get_index xs k x at = (place_of xs k x at).1

pub index_get : (xs : List ℕ) (k : ℕ) → k < length xs → slice_get xs k ≡ Some (slice_index xs k)
index_get [] k less = absurd (omega (arith, less))
index_get (x ∷ xs) zero less = refl
index_get (x ∷ xs) (suc k) less = index_get xs k (let low : k < length xs = omega (arith, less) in low)

pub behind_first : (xs : List ℕ) (k x : ℕ) → slice_get (drop 1 xs) k ≡ Some x → slice_get xs (suc k) ≡ Some x
behind_first [] k x at = cc
behind_first (y ∷ xs) k x at = at

pub behind_one : (xs : List ℕ) → nat_le (length xs) 1 ≡ false → 1 ≤ length (drop 1 xs)
behind_one [] few = cc
behind_one (x ∷ xs) few = grind (arith, nat_tests, few)

-- parts of lists
pub same_first : {A : Type 0} (x y : A) (xs ys : List A) → x ∷ xs ≡ y ∷ ys → x ≡ y
same_first x y xs ys e = cc

pub same_rest : {A : Type 0} (x y : A) (xs ys : List A) → x ∷ xs ≡ y ∷ ys → xs ≡ ys
same_rest x y xs ys e = cc

pub second_word : (xs : List ℕ) → slice_index (take 1 (drop 1 xs)) 0 ≡ slice_index xs 1
second_word [] = refl
second_word (x ∷ []) = refl
second_word (x ∷ y ∷ xs) = refl

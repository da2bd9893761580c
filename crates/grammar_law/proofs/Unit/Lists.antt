-- What stands in lists.
use Rattle.std.proofs.Common.{◌≡◌, ◌<◌, ◌+◌, ℕ, zero, suc, Bool, true, false, List, [], ◌∷◌, ◌++◌, filter, length, drop, cond, nat_lt, find, is_some, Some, Contains, flat_map, inl, inr, refl, sym, ap, ◌∙◌, subst, arith}
use Rattle.std.specs.Prelude.{◌⊎◌, slice_get, slice_index}
use Rattle.std.specs.List.{enumerate_from, list_any}
use Rattle.std.proofs.lemmas.Bool.Decides.{nat_tests}
use Rattle.std.proofs.lemmas.Bool.{false_from_ne_true}
use Rattle.std.proofs.lemmas.Option.{same_Some}
use Rattle.spv_module.specs.declared.inst.Id.{Id as IdOf}
use Rattle.spv_module.specs.declared.inst.Inst.{Inst}
use Rattle.spv_module.specs.declared.inst.Block.{Block}
pub use Rattle.list_law.proofs.Numbers.{same_number as test_same, number_same as same_test, number_other as other_test}
use Rattle.plan_law.specs.InOrder.{IsAmong}
use Rattle.typed_law.specs.Conforms.{IsParameter}
use Rattle.typed_law.proofs.Lists.{clash}
use Rattle.claim_law.specs.Claimed.{IsIn}
use Rattle.claim_law.proofs.Claim.Listed.{numbered, any_in}

-- at a place, and between others
pub at_some : {A : Type 0} (xs : List A) (x : A) → IsIn x xs → (k : ℕ) × (slice_get xs k ≡ Some x)
at_some [] x among = absurd among
at_some (y ∷ xs) x (inl same) = (zero, ap (λ z. Some z) same)
at_some (y ∷ xs) x (inr among) = let w = at_some xs x among in (suc w.0, w.1)

pub split_at : {A : Type 0} (xs : List A) (x : A) → IsIn x xs → (front : List A) × (back : List A) × (xs ≡ front ++ x ∷ back)
split_at [] x among = absurd among
split_at (y ∷ xs) x (inl same) = ([], xs, ap (λ z. z ∷ xs) same)
split_at (y ∷ xs) x (inr among) = let w = split_at xs x among in (y ∷ w.0, w.1, ap (λ zs. y ∷ zs) w.2)

pub contained : {A : Type 0} (xs : List A) (x : A) → IsIn x xs → Contains xs x
contained [] x among = absurd among
contained (y ∷ xs) x (inl same) = (zero, (let less : 0 < suc (length xs) = omega arith in less), same)
contained (y ∷ xs) x (inr among) = let w = contained xs x among in (suc w.0, (let low = w.1 in let less : suc w.0 < suc (length xs) = omega (arith, low) in less), w.2)

pub of_contained : {A : Type 0} (xs : List A) (x : A) → Contains xs x → IsIn x xs
of_contained [] x w = absurd (let less = w.1 in omega (arith, less))
of_contained (y ∷ xs) x (zero, less, same) = inl same
of_contained (y ∷ xs) x (suc k, less, same) = inr (of_contained xs x (k, (let low : k < length xs = omega (arith, less) in low), same))

abbrev paired : {A : Type 0} → ℕ → A → ℕ × A
paired n x = (n, x)

abbrev number_of : {A : Type 0} → ℕ × A → ℕ
number_of p = p.0

abbrev item_of : {A : Type 0} → ℕ × A → A
item_of p = p.1

pub numbered_first : {A : Type 0} (xs : List A) (k : ℕ) (x : A) → slice_get xs k ≡ Some x → IsIn (k, x) (enumerate_from 0 xs)
numbered_first xs k x at = subst (λ (n : ℕ). IsIn (paired n x) (enumerate_from 0 xs)) (let first : 0 + k ≡ k = omega arith in first) (numbered xs 0 k x at)

-- what is filtered
pub in_filter : {A : Type 0} (test : A → Bool) (xs : List A) (x : A) → IsIn x xs → test x ≡ true → IsIn x (filter test xs)
in_filter test [] x among on = absurd among
in_filter test (y ∷ xs) x (inl same) on = subst (λ (b : Bool). IsIn x (cond b (y ∷ filter test xs) (filter test xs))) (sym (ap test same ∙ on)) (inl same)
in_filter test (y ∷ xs) x (inr among) on = by_test (test y) (in_filter test xs x among on)
  where
    by_test : (b : Bool) → IsIn x (filter test xs) → IsIn x (cond b (y ∷ filter test xs) (filter test xs))
    by_test true later = inr later
    by_test false later = later

pub of_filter : {A : Type 0} (test : A → Bool) (xs : List A) (x : A) → IsIn x (filter test xs) → IsIn x xs × (test x ≡ true)
of_filter test [] x among = absurd among
of_filter test (y ∷ xs) x among = by_test (test y) refl among (of_filter test xs x)
  where
    by_test : (b : Bool) → test y ≡ b → IsIn x (cond b (y ∷ filter test xs) (filter test xs)) → (IsIn x (filter test xs) → IsIn x xs × (test x ≡ true)) → IsIn x (y ∷ xs) × (test x ≡ true)
    by_test true on (inl same) later = (inl same, ap test (sym same) ∙ on)
    by_test true on (inr here) later = let w = later here in (inr w.0, w.1)
    by_test false off here later = let w = later here in (inr w.0, w.1)

pub found_by : {A : Type 0} (test : A → Bool) (xs : List A) (x : A) → find test xs ≡ Some x → IsIn x xs × (test x ≡ true)
found_by test [] x is = cc
found_by test (y ∷ xs) x is = by_test (test y) refl is (found_by test xs x)
  where
    by_test : (b : Bool) → test y ≡ b → cond b (Some y) (find test xs) ≡ Some x → (find test xs ≡ Some x → IsIn x xs × (test x ≡ true)) → IsIn x (y ∷ xs) × (test x ≡ true)
    by_test true on is later = let same = same_Some y x is in (inl same, ap test (sym same) ∙ on)
    by_test false off is later = let w = later is in (inr w.0, w.1)

pub found_some : {A : Type 0} (test : A → Bool) (xs : List A) (x : A) → IsIn x xs → test x ≡ true → is_some (find test xs) ≡ true
found_some test [] x among on = absurd among
found_some test (y ∷ xs) x (inl same) on = ap (λ (b : Bool). is_some (cond b (Some y) (find test xs))) (ap test same ∙ on)
found_some test (y ∷ xs) x (inr among) on = by_test (test y) (found_some test xs x among on)
  where
    by_test : (b : Bool) → is_some (find test xs) ≡ true → is_some (cond b (Some y) (find test xs)) ≡ true
    by_test true some = refl
    by_test false some = some

-- of two that stand in a list the first stands before the second, or the second before the first, or they are one
module _ {A : Type 0} (a b : A) where
  abbrev pub Before : List A → Type 0
  Before xs = (front : List A) × (middle : List A) × (back : List A) × (xs ≡ front ++ (a ∷ (middle ++ (b ∷ back))))

  abbrev pub Behind : List A → Type 0
  Behind xs = (front : List A) × (back : List A) × (xs ≡ front ++ (b ∷ back)) × IsIn a (b ∷ back)

  before_more : (x : A) (xs : List A) → Before xs → Before (x ∷ xs)
  before_more x xs w = (x ∷ w.0, w.1, w.2, ap (λ zs. x ∷ zs) w.3)

  behind_more : (x : A) (xs : List A) → Behind xs → Behind (x ∷ xs)
  behind_more x xs w = (x ∷ w.0, w.1, ap (λ zs. x ∷ zs) w.2, w.3)

  by_head : (x : A) (xs : List A) → x ≡ b → (x ≡ a) ⊎ IsIn a xs → IsIn a (b ∷ xs)
  by_head x xs here (inl same) = inl (sym here ∙ same)
  by_head x xs here (inr among) = inr among

  pub two_split : (xs : List A) → IsIn a xs → IsIn b xs → Before xs ⊎ Behind xs
  two_split [] a_in b_in = absurd a_in
  two_split (x ∷ xs) a_in (inl here) = inr ([], xs, ap (λ z. z ∷ xs) here, by_head x xs here a_in)
  two_split (x ∷ xs) (inl here) (inr b_in) =
      let w = split_at xs b b_in in
      inl ([], w.0, w.1, ap (λ zs. x ∷ zs) w.2 ∙ ap (λ z. z ∷ (w.0 ++ (b ∷ w.1))) here)
  two_split (x ∷ xs) (inr a_in) (inr b_in) = elim (two_split xs a_in b_in) [ inl w ↦ inl (before_more x xs w) | inr w ↦ inr (behind_more x xs w) ]

-- none passes
pub none_passes : {A : Type 0} (test : A → Bool) (xs : List A) (x : A) → IsIn x xs → list_any test xs ≡ false → test x ≡ false
none_passes test xs x among none = false_from_ne_true (test x) (λ on. clash (sym (any_in test xs x among on) ∙ none))

pub some_length : {A : Type 0} (xs : List A) (x : A) → IsIn x xs → nat_lt 0 (length xs) ≡ true
some_length [] x among = absurd among
some_length (y ∷ xs) x among = longer (length xs)
  where
    longer : (n : ℕ) → nat_lt 0 (suc n) ≡ true
    longer n = grind (arith, nat_tests)

-- what holds of each word holds of each behind the first
pub each_behind : (P : ℕ → Type 0) (xs : List ℕ) → ((k : ℕ) → k < length xs → P (slice_index xs k)) → (k : ℕ) → k < length (drop 1 xs) → P (slice_index (drop 1 xs) k)
each_behind P [] each k less = absurd (omega (arith, less))
each_behind P (x ∷ xs) each k less = each (suc k) (let more : suc k < suc (length xs) = omega (arith, less) in more)

-- lists that are put together
pub in_either : {A : Type 0} (x : A) (xs ys : List A) → IsIn x (xs ++ ys) → IsIn x xs ⊎ IsIn x ys
in_either x [] ys among = inr among
in_either x (y ∷ xs) ys (inl same) = inl (inl same)
in_either x (y ∷ xs) ys (inr among) = elim (in_either x xs ys among) [ inl left ↦ inl (inr left) | inr right ↦ inr right ]

pub of_flat : {A B : Type 0} (f : A → List B) (xs : List A) (y : B) → IsIn y (flat_map f xs) → (x : A) × IsIn x xs × IsIn y (f x)
of_flat f [] y among = absurd among
of_flat f (x ∷ xs) y among = elim (in_either y (f x) (flat_map f xs) among) [
  | inl here ↦ (x, inl refl, here)
  | inr later ↦ let w = of_flat f xs y later in (w.0, inr w.1, w.2)
]

pub of_numbered : {A : Type 0} (xs : List A) (from k : ℕ) (x : A) → IsIn (paired k x) (enumerate_from from xs) → (n : ℕ) × (k ≡ from + n) × (slice_get xs n ≡ Some x)
of_numbered [] from k x among = absurd among
of_numbered (y ∷ xs) from k x (inl same) = (zero, (let here : from ≡ k = ap number_of same in let own : k ≡ from + zero = omega (arith, here) in own), ap (λ p. Some (item_of p)) same)
of_numbered (y ∷ xs) from k x (inr among) =
    let w = of_numbered xs (from + 1) k x among in
    (suc w.0, (let there = w.1 in let own : k ≡ from + suc w.0 = omega (arith, there) in own), w.2)

pub of_numbered_first : {A : Type 0} (xs : List A) (k : ℕ) (x : A) → IsIn (paired k x) (enumerate_from 0 xs) → slice_get xs k ≡ Some x
of_numbered_first xs k x among =
    let w = of_numbered xs 0 k x among in
    subst (λ (n : ℕ). slice_get xs n ≡ Some x) (let there = w.1 in let own : w.0 ≡ k = omega (arith, there) in own) w.2

-- instructions
pub as_in : (is : List Inst) (i : Inst) → IsAmong i is → IsIn i is
as_in [] i among = absurd among
as_in (j ∷ is) i (inl same) = inl same
as_in (j ∷ is) i (inr among) = inr (as_in is i among)

pub as_among : (is : List Inst) (i : Inst) → IsIn i is → IsAmong i is
as_among [] i among = absurd among
as_among (j ∷ is) i (inl same) = inl same
as_among (j ∷ is) i (inr among) = inr (as_among is i among)

pub as_parameter : (q : IdOf × IdOf) (ps : List (IdOf × IdOf)) → IsIn q ps → IsParameter q ps
as_parameter q [] there = absurd there
as_parameter q (p ∷ ps) (inl same) = inl same
as_parameter q (p ∷ ps) (inr there) = inr (as_parameter q ps there)

-- the block in which an instruction stands
pub in_block : (bs : List Block) (i : Inst) → IsIn i (flat_map (λ (b : Block). b.insts) bs) → (c : ℕ) × (block : Block) × (slice_get bs c ≡ Some block) × IsIn i block.insts
in_block [] i among = absurd among
in_block (b ∷ bs) i among = elim (in_either i b.insts (flat_map (λ (c : Block). c.insts) bs) among) [
  | inl here ↦ (zero, b, refl, here)
  | inr later ↦ let w = in_block bs i later in (suc w.0, w.1, w.2, w.3)
]

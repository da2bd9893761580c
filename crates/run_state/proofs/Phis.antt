-- The phis that a block begins with.
use Rattle.std.proofs.Common.{◌≡◌, ◌<◌, ◌≤◌, ◌+◌, ℕ, zero, suc, Bool, true, false, List, [], ◌∷◌, ◌++◌, refl, ap, sym, ◌∙◌, arith, add-one, length, drop, take, get_or, map, cond}
use Rattle.std.specs.Prelude.{take_while, Option, Some, None, IfSome}
use Rattle.std.specs.List.{prefix_len}
use Rattle.std.proofs.Math.Seq.{drop-cons}
use Rattle.std.proofs.Math.ListN.{drop_of_length-le}
use Rattle.std.proofs.Math.Seq.{take-suc}
use Rattle.std.proofs.lemmas.List.{map_push}
use Rattle.spv_module.specs.declared.inst.Inst.{Inst}
use Rattle.spv_module.specs.declared.tree.Value.{Value}
use Rattle.spv_types.specs.Tree.{ValueTree}
use Rattle.spv_types.specs.View.{value_of}
use Rattle.module_semantics.specs.State as state
use Rattle.module_semantics.specs.Steps as steps

module _ (p : Inst → Bool) where
  goes_on : (x : Inst) (xs : List Inst) → p x ≡ true → x ∷ take_while p xs ≡ take_while p (x ∷ xs)
  goes_on x xs h =
      let next : suc (prefix_len p xs) ≡ 1 + prefix_len p xs = omega arith in
      ap (λ n. take n (x ∷ xs)) next ∙ sym (ap (λ b. take (cond b (1 + prefix_len p xs) 0) (x ∷ xs)) h)

  ends : (x : Inst) (xs : List Inst) → p x ≡ false → [] ≡ take_while p (x ∷ xs)
  ends x xs h = sym (ap (λ b. take (cond b (1 + prefix_len p xs) 0) (x ∷ xs)) h)

  pub while_more : (xs : List Inst) (k : ℕ) (x : Inst) → k < length xs → x ≡ get_or xs k x → p x ≡ true → length (take_while p (drop k xs)) ≡ suc (length (take_while p (drop (k + 1) xs)))
  while_more xs k x inside is h =
      ap (λ l. length (take_while p l)) (drop-cons xs k x inside)
      ∙ ap (λ y. length (take_while p (y ∷ drop (suc k) xs))) (sym is)
      ∙ ap length (sym (goes_on x (drop (suc k) xs) h))
      ∙ ap (λ n. suc (length (take_while p (drop n xs)))) (sym (add-one k))

  pub while_ends : (xs : List Inst) (k : ℕ) (x : Inst) → k < length xs → x ≡ get_or xs k x → p x ≡ false → length (take_while p (drop k xs)) ≡ 0
  while_ends xs k x inside is h =
      ap (λ l. length (take_while p l)) (drop-cons xs k x inside)
      ∙ ap (λ y. length (take_while p (y ∷ drop (suc k) xs))) (sym is)
      ∙ ap length (sym (ends x (drop (suc k) xs) h))

  pub while_past : (xs : List Inst) (k : ℕ) → length xs ≤ k → length (take_while p (drop k xs)) ≡ 0
  while_past xs k past = ap (λ l. length (take_while p l)) (drop_of_length-le xs past)

pub ruleset while_rules = (while_more, while_ends, while_past)

-- the last phi is set first
pub phis_snoc : (is : List Inst) (vs : List ValueTree) (i : Inst) (v : ValueTree) (ids : ℕ → Option state.Held) → length is ≡ length vs → steps.with_phis (is ++ i ∷ []) (vs ++ v ∷ []) ids ≡ steps.with_phis is vs (state.put ids i.result (state.value v))
phis_snoc [] [] i v ids h = refl
phis_snoc [] (w ∷ vs) i v ids h = absurd (omega (arith, h))
phis_snoc (j ∷ is) [] i v ids h = absurd (omega (arith, h))
phis_snoc (j ∷ is) (w ∷ vs) i v ids h = ap (λ f. state.put f j.result (state.value w)) (phis_snoc is vs i v ids (omega (arith, h)))

length_front : (xs : List Inst) (n : ℕ) → n ≤ length xs → length (take n xs) ≡ n
length_front xs zero h = refl
length_front [] (suc n) h = absurd (omega (arith, h))
length_front (x ∷ xs) (suc n) h = ap suc (length_front xs n (omega (arith, h)))

length_mapped : (vs : List Value) → length (map value_of vs) ≡ length vs
length_mapped [] = refl
length_mapped (v ∷ vs) = ap suc (length_mapped vs)

pub length_snoc : (vs : List Value) (v : Value) → length (vs ++ v ∷ []) ≡ length vs + 1
length_snoc [] v = refl
length_snoc (w ∷ vs) v = omega (arith, length_snoc vs v)

-- one phi of those that are left is set
pub phis_popped : (phis : List Inst) (left was : List Value) (v : Value) (i : Inst) (n : ℕ) (ids new : ℕ → Option state.Held) → was ≡ left ++ v ∷ [] → n ≡ length left → n < length phis → i ≡ get_or phis n i → ((q : ℕ) → new q ≡ state.put ids i.result (state.value (value_of v)) q) → steps.with_phis (take (length left) phis) (map value_of left) new ≡ steps.with_phis (take (length was) phis) (map value_of was) ids
phis_popped phis left was v i n ids new is count inside at set =
    ap (steps.with_phis (take (length left) phis) (map value_of left)) (λ j q. set q j)
    ∙ ap (λ k. steps.with_phis (take k phis) (map value_of left) (state.put ids i.result (state.value (value_of v)))) (sym count)
    ∙ sym (phis_snoc (take n phis) (map value_of left) i (value_of v) ids (length_front phis n (omega (arith, inside)) ∙ count ∙ sym (length_mapped left)))
    ∙ ap (λ x. steps.with_phis (take n phis ++ x ∷ []) (map value_of left ++ value_of v ∷ []) ids) at
    ∙ ap (λ l. steps.with_phis l (map value_of left ++ value_of v ∷ []) ids) (sym (take-suc phis n i inside))
    ∙ ap (λ k. steps.with_phis (take k phis) (map value_of left ++ value_of v ∷ []) ids) (sym (add-one n) ∙ ap (λ k. k + 1) count ∙ sym (length_snoc left v) ∙ ap length (sym is))
    ∙ ap (λ l. steps.with_phis (take (length was) phis) l ids) (sym (map_push value_of left v))
    ∙ ap (λ l. steps.with_phis (take (length was) phis) (map value_of l) ids) (sym is)

pub if_some : {A : Type 0} {P Q : A → Type 0} (o : Option A) → IfSome o P → ((x : A) → P x → Q x) → IfSome o Q
if_some None h f = tt
if_some (Some x) h f = f x h

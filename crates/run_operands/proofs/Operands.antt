-- What operands have, one after another.
use Rattle.std.proofs.Common.{◌≡◌, ◌<◌, ◌+◌, ℕ, List, [], ◌∷◌, ◌++◌, refl, ap, sym, ◌∙◌, subst, append_assoc, add-one, length, drop, arith}
use Rattle.std.specs.Prelude.{Option, Some, None, Result, IfOk, option_map, option_and_then, slice_index}
use Rattle.std.proofs.Math.Seq.{drop-cons}
use Rattle.spv_module.specs.declared.tree.Value.{Value}
use Rattle.spv_types.specs.Tree.{ValueTree}
use Rattle.spv_types.specs.View.{value_of}
use Rattle.op_semantics.specs.Component.{before, each_one}
use Rattle.module_semantics.specs.State as state
use Rattle.module_semantics.specs.Setting.{global_variable}
use Rattle.module_semantics.specs.Operands.{of_module}
use Rattle.spv_module.specs.declared.inst.Inst.{Inst}
use Rattle.memory_places.specs.Kernel.{Kernel, plain}

pub of_variable : (k : Kernel) (id : ℕ) (v : Inst) → Some v ≡ global_variable (plain k) id → Some (state.pointer (state.global id) []) ≡ of_module (plain k) id
of_variable k id v h = ap (λ (o : Option Inst). elim o as (λ _. Option state.Held) [ Some v ↦ Some (state.pointer (state.global id) []) | None ↦ option_map state.value ((plain k).constants id) ]) h

pub of_no_variable : (k : Kernel) (id : ℕ) → None ≡ global_variable (plain k) id → option_map state.value ((plain k).constants id) ≡ of_module (plain k) id
of_no_variable k id h = ap (λ (o : Option Inst). elim o as (λ _. Option state.Held) [ Some v ↦ Some (state.pointer (state.global id) []) | None ↦ option_map state.value ((plain k).constants id) ]) h

-- the value of an operation, from what was found
pub by_values : {E : Type 0} (r : Result (Option Value) E) (f : List ℕ → List ValueTree → Option ValueTree) (mine literals : List ℕ) (vs : List ValueTree) (o : Option (List ValueTree)) → IfOk r (λ v. option_map value_of v ≡ f mine vs) → mine ≡ literals → Some vs ≡ o → IfOk r (λ v. option_map value_of v ≡ option_and_then (f literals) o)
by_values r f mine literals vs o h same found =
    subst (λ o. IfOk r (λ v. option_map value_of v ≡ option_and_then (f literals) o)) found (subst (λ l. IfOk r (λ v. option_map value_of v ≡ f l vs)) same h)

pub one_found : (x : Option ValueTree) (a : ValueTree) → Some a ≡ x → Some (a ∷ []) ≡ before x (Some [])
one_found x a h = ap (λ x. before x (Some [])) h

pub two_found : (x y : Option ValueTree) (a b : ValueTree) → Some a ≡ x → Some b ≡ y → Some (a ∷ b ∷ []) ≡ before x (before y (Some []))
two_found x y a b h k = ap (λ x. before x (before (Some b) (Some []))) h ∙ ap (λ y. before x (before y (Some []))) k

-- where one has none
pub first_none : (f : List ValueTree → Option ValueTree) (x : Option ValueTree) (o : Option (List ValueTree)) → None ≡ x → None ≡ option_and_then f (before x o)
first_none f x o h = ap (λ x. option_and_then f (before x o)) h

pub second_none : (f : List ValueTree → Option ValueTree) (x y : Option ValueTree) (o : Option (List ValueTree)) → None ≡ y → None ≡ option_and_then f (before x (before y o))
second_none f None y o h = refl
second_none f (Some a) y o h = ap (λ y. option_and_then f (before (Some a) (before y o))) h

pub ruleset two_rules = (first_none, second_none)

pub pushed : {B : Type 0} (vs : List B) (v : B) (rest : Option (List B)) → option_map (λ (l : List B). (vs ++ v ∷ []) ++ l) rest ≡ option_map (λ (l : List B). vs ++ l) (before (Some v) rest)
pushed vs v None = refl
pushed vs v (Some l) = ap Some (append_assoc vs (v ∷ []) l)

module _ {B : Type 0} (f : ℕ → Option B) (ids : List ℕ) (i : ℕ) (inside : i < length ids) where
  each_at : each_one f (drop i ids) ≡ before (f (slice_index ids i)) (each_one f (drop (i + 1) ids))
  each_at = ap (each_one f) (drop-cons ids i 0 inside) ∙ ap (λ n. before (f (slice_index ids i)) (each_one f (drop n ids))) (sym (add-one i))

  -- what was found so far, up to one that has none
  pub none_here : (vs : List B) → None ≡ f (slice_index ids i) → option_map (λ (rest : List B). vs ++ rest) (each_one f (drop i ids)) ≡ each_one f ids → None ≡ each_one f ids
  none_here vs none whole = sym (ap (option_map (λ (rest : List B). vs ++ rest)) (each_at ∙ ap (λ o. before o (each_one f (drop (i + 1) ids))) (sym none))) ∙ whole

  pub one_more : (vs : List B) (v : B) → Some v ≡ f (slice_index ids i) → option_map (λ (rest : List B). vs ++ rest) (each_one f (drop i ids)) ≡ each_one f ids → option_map (λ (rest : List B). (vs ++ v ∷ []) ++ rest) (each_one f (drop (i + 1) ids)) ≡ each_one f ids
  one_more vs v some whole =
      pushed vs v (each_one f (drop (i + 1) ids))
      ∙ ap (λ o. option_map (λ (rest : List B). vs ++ rest) (before o (each_one f (drop (i + 1) ids)))) some
      ∙ ap (option_map (λ (rest : List B). vs ++ rest)) (sym each_at)
      ∙ whole

-- lists of one and of two
pub one_list : (xs : List ℕ) → length xs ≡ 1 → slice_index xs 0 ∷ [] ≡ xs
one_list [] h = absurd (omega (arith, h))
one_list (x ∷ []) h = refl
one_list (x ∷ y ∷ xs) h = absurd (omega (arith, h))

pub two_list : (xs : List ℕ) → length xs ≡ 2 → slice_index xs 0 ∷ slice_index xs 1 ∷ [] ≡ xs
two_list [] h = absurd (omega (arith, h))
two_list (x ∷ []) h = absurd (omega (arith, h))
two_list (x ∷ y ∷ []) h = refl
two_list (x ∷ y ∷ z ∷ xs) h = absurd (omega (arith, h))

-- with what was found of two
pub two_values : {E : Type 0} (r : Result (Option Value) E) (f : List ValueTree → Option ValueTree) (x x' y y' : Option ValueTree) → x ≡ x' → y ≡ y' → IfOk r (λ v. option_map value_of v ≡ option_and_then f (before x (before y (Some [])))) → IfOk r (λ v. option_map value_of v ≡ option_and_then f (before x' (before y' (Some []))))
two_values r f x x' y y' h k e =
    subst (λ o. IfOk r (λ v. option_map value_of v ≡ option_and_then f (before x' (before o (Some []))))) k
    (subst (λ o. IfOk r (λ v. option_map value_of v ≡ option_and_then f (before o (before y (Some []))))) h e)

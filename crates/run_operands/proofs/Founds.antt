-- What was found of operands, one after another.
use Rattle.std.proofs.Common.{◌≡◌, ◌<◌, ℕ, zero, suc, List, [], ◌∷◌, ◌++◌, Option, Some, None, refl, ap, sym, ◌∙◌, arith, length, slice_index, Vec, IfOk, map, option_map}
use Rattle.std.specs.declared.alloc.Global.{Global}
use Rattle.std.specs.declared.result.Result.{Result}
use Rattle.std.specs.declared.result.Result.TheVariants.{Ok, Err}
use Rattle.op_semantics.specs.Component.{before, each_one}
use Rattle.run_operands.specs.Found.{AreFound, WasFound}

module _ {T : Type 0} (P : ℕ → Option T → Type 0) where
  pub one_more : (ids : List ℕ) (xs : List T) (id : ℕ) (x : T) → AreFound P ids xs → P id (Some x) → AreFound P (ids ++ id ∷ []) (xs ++ x ∷ [])
  one_more [] [] id x are p = (p, tt)
  one_more [] (y ∷ xs) id x are p = elim are [ ]
  one_more (i ∷ ids) [] id x are p = elim are [ ]
  one_more (i ∷ ids) (y ∷ xs) id x are p = (are.0, one_more ids xs id x are.1 p)

  module _ {B : Type 0} (view : T → B) (f : ℕ → Option B) (same : (id : ℕ) (r : Option T) → P id r → option_map view r ≡ f id) where
    all_found : (ids : List ℕ) (xs : List T) → AreFound P ids xs → Some (map view xs) ≡ each_one f ids
    all_found [] [] are = refl
    all_found [] (x ∷ xs) are = elim are [ ]
    all_found (id ∷ ids) [] are = elim are [ ]
    all_found (id ∷ ids) (x ∷ xs) are =
        ap (λ o. before (Some (view x)) o) (all_found ids xs are.1) ∙ ap (λ o. before o (each_one f ids)) (same id (Some x) are.0)

    after_none : (o : Option B) → None ≡ before o None
    after_none None = refl
    after_none (Some x) = refl

    none_found : (ids : List ℕ) (k : ℕ) → k < length ids → P (slice_index ids k) None → None ≡ each_one f ids
    none_found [] k inside p = absurd (omega (arith, inside))
    none_found (id ∷ ids) zero inside p = ap (λ o. before o (each_one f ids)) (same id None p)
    none_found (id ∷ ids) (suc k) inside p =
        let less : k < length ids = omega (arith, inside) in
        after_none (f id) ∙ ap (λ o. before (f id) o) (none_found ids k less p)

    pub each_found : (ids : List ℕ) (all : Option (List T)) → WasFound P ids all → option_map (λ (xs : List T). map view xs) all ≡ each_one f ids
    each_found ids None was = none_found ids was.found.0 was.found.1 was.found.2
    each_found ids (Some xs) was = all_found ids xs was.found

    -- the same of a result
    pub result_found : {E : Type 0} (r : Result (Option (Vec T Global)) E) (plain : Vec T Global → List B) (ids : List ℕ) → ((v : Vec T Global) → map view v.items ≡ plain v) → IfOk r (λ all. WasFound P ids (option_map (λ (v : Vec T Global). v.items) all)) → IfOk r (λ all. option_map plain all ≡ each_one f ids)
    result_found (Ok None) plain ids shown was = each_found ids None was
    result_found (Ok (Some v)) plain ids shown was = ap Some (sym (shown v)) ∙ each_found ids (Some v.items) was
    result_found (Err e) plain ids shown was = tt

pub same_list : {A : Type 0} (xs : List A) → map (λ (x : A). x) xs ≡ xs
same_list [] = refl
same_list (x ∷ xs) = ap (λ l. x ∷ l) (same_list xs)

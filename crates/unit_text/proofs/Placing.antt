-- The plans of functions by the ids of these.
use Rattle.std.proofs.Common.{◌≡◌, ◌+◌, ℕ, Bool, true, List, ◌∷◌, [], ◌++◌, Some, cond, if◌then◌else◌, refl, sym, ap, subst, map}
use Rattle.std.specs.List.{AllZip, position_from}
use Rattle.spv_module.specs.State.{ModuleState}
use Rattle.spv_module.specs.declared.inst.Function.{Function}
use Rattle.function_plan.specs.declared.plan.FunctionPlan.{FunctionPlan as Planned}
use Rattle.function_plan.specs.Plans.{IsPlanned}
use Rattle.unit_text.specs.Reached.{IsPlannedNext}
use Rattle.function_plan.proofs.Moving.{zip_push}

-- the place of the first that passes among what a list is mapped to
pub position_map : {A B : Type 0} (test : B → Bool) (f : A → B) (i : ℕ) (xs : List A) → position_from test i (map f xs) ≡ position_from (λ x. test (f x)) i xs
position_map test f i [] = refl
position_map test f i (x ∷ xs) = ap (cond (test (f x)) (Some i)) (position_map test f (i + 1) xs)

-- a function that passes has a plan
pub planned_next : (m : ModuleState) (passes : Function → Bool) (f : Function) (ps new : List Planned) (p : Planned) → passes f ≡ true → new ≡ ps ++ p ∷ [] → IsPlanned m f p → IsPlannedNext m passes f ps new
planned_next m passes f ps new p passed pushed now = record {
  each = λ fs all.
      subst (λ (gs : List Function). AllZip (IsPlanned m) gs new) (sym (ap (λ (b : Bool). fs ++ (if b then f ∷ [] else [])) passed))
      (subst (λ (xs : List Planned). AllZip (IsPlanned m) (fs ++ f ∷ []) xs) (sym pushed) (zip_push (IsPlanned m) fs ps f p all now));
}

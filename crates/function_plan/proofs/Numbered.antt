-- The numbers of captured indexes.
use Rattle.std.proofs.Common.{◌≡◌, ◌∙◌, ℕ, Bool, true, List, [], ◌∷◌, if◌then◌else◌, map, refl, sym, ap}
use Rattle.spv_module.specs.declared.inst.Id.{Id}
use Rattle.spv_module.specs.declared.inst.Inst.{Inst}
use Rattle.access_paths.specs.Ways.{captured_indexes}
use Rattle.function_plan.specs.Planned.{number_in, is_captured, captured_numbers}

numbered : (ns : List (ℕ × Id)) → map number_in ns ≡ map (λ (n : ℕ × ℕ). n.0) (map (λ (n : ℕ × Id). (n.0, n.1.0)) ns)
numbered [] = refl
numbered (n ∷ ns) = ap (λ x. n.0 ∷ x) (numbered ns)

pub numbers_captured : (gs : List Inst) (carried : ℕ → Bool) (i : Inst) (indexes : List (ℕ × Id)) (numbers : List ℕ) → is_captured carried i ≡ true
    → map (λ (n : ℕ × Id). (n.0, n.1.0)) indexes ≡ captured_indexes gs i → numbers ≡ map number_in indexes → numbers ≡ captured_numbers gs carried i
numbers_captured gs carried i indexes numbers is found are =
    are ∙ (numbered indexes ∙ (ap (map (λ (n : ℕ × ℕ). n.0)) found ∙ sym (ap (λ b. if b then map (λ (n : ℕ × ℕ). n.0) (captured_indexes gs i) else []) is)))

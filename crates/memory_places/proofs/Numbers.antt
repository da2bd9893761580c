-- The places of the Workgroup variables that are mentioned.
use Rattle.std.proofs.Common.{◌≡◌, ℕ, ◌+◌, ◌==◌, Bool, cond, List, [], ◌∷◌, Option, Some, refl, ap, ◌∙◌, filter, map, min}
use Rattle.std.specs.List.{position_from}
use Rattle.std.specs.Option.{option_map_or}
use Rattle.spv_module.specs.State.{ModuleState}
use Rattle.spv_module.specs.declared.inst.Inst.{Inst}
use Rattle.module_semantics.specs.Setting.{is_mentioned, shared_number, shared_variables}
use Rattle.memory_places.specs.Capped.{most_variables}
use Rattle.memory_places.specs.Kernel.{bare_from}
use Rattle.memory_places.specs.Mentions.{AreMentioned, AreNumbers, is_shared}

place_by_id : (id k : ℕ) (gs : List Inst) → position_from (λ (n : ℕ). n == id) k (map (λ (g : Inst). g.result) gs) ≡ position_from (λ (g : Inst). g.result == id) k gs
place_by_id id k [] = refl
place_by_id id k (g ∷ gs) = ap (cond (g.result == id) (Some k)) (place_by_id id (k + 1) gs)

shared_are : (m : ModuleState) (entry : ℕ) (mentioned : ℕ → Bool) → AreMentioned m entry mentioned → filter (is_shared mentioned) m.globals ≡ shared_variables (bare_from m entry)
shared_are m entry mentioned h = let same : mentioned ≡ is_mentioned (bare_from m entry) = λ i id. h.each id i in ap (λ (test : ℕ → Bool). filter (is_shared test) m.globals) same

pub numbers_are : (m : ModuleState) (entry : ℕ) (mentioned : ℕ → Bool) (ids : List ℕ) (place : ℕ → Option ℕ) → AreMentioned m entry mentioned
    → ids ≡ map (λ (g : Inst). g.result) (filter (is_shared mentioned) m.globals)
    → ((id : ℕ) → place id ≡ position_from (λ (n : ℕ). n == id) 0 ids)
    → AreNumbers m entry place
numbers_are m entry mentioned ids place h e p = record {
  each = λ id.
      p id
      ∙ (ap (position_from (λ (n : ℕ). n == id) 0) e
      ∙ (place_by_id id 0 (filter (is_shared mentioned) m.globals)
      ∙ ap (position_from (λ (g : Inst). g.result == id) 0) (shared_are m entry mentioned h)));
}

pub number_is : (m : ModuleState) (entry id n : ℕ) (place : ℕ → Option ℕ) → AreNumbers m entry place → n ≡ min most_variables (option_map_or (λ (k : ℕ). k) (place id) 0)
    → n ≡ min most_variables (shared_number (bare_from m entry) id)
number_is m entry id n place h e = e ∙ ap (λ (o : Option ℕ). min most_variables (option_map_or (λ (k : ℕ). k) o 0)) (h.each id)

pub ruleset number_rules = (numbers_are)

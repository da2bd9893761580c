-- What variables have at the start.
use Rattle.std.specs.Prelude.{ℕ, ◌==◌, List, Option, map, filter, if◌then◌else◌}
use Rattle.spv_module.specs.declared.inst.Inst.{Inst}
use Rattle.module_semantics.specs.Setting.{is_listed}
use Rattle.profile_rules.specs.Places.{is_variable}

-- the ids of those that are variables
abbrev pub variables_among : List Inst → List ℕ
variables_among is = map (λ (i : Inst). i.result) (filter is_variable is)

-- the map with this, or nothing, at an id
abbrev pub with_entry : {A : Type 0} → (ℕ → Option A) → ℕ → Option A → ℕ → Option A
with_entry f n a k = if k == n then a else f k

-- the ids of a list have what this says, the others what they had
abbrev pub begun_in : {A : Type 0} → (ℕ → Option A) → List ℕ → (ℕ → Option A) → ℕ → Option A
begun_in first list f k = if is_listed list k then first k else f k

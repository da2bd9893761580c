-- What instructions mention, and the numbers of variables.
use Rattle.std.specs.Prelude.{ℕ, ◌≡◌, ◌==◌, ◌&&◌, Bool, true, false, List, Option, filter, is_some, if◌then◌else◌}
use Rattle.std.specs.List.{list_any, enumerate_from, position_from}
use Rattle.spv_ops.specs.declared.StorageClass.TheVariants as storage
use Rattle.spv_module.specs.declared.inst.Id.{Id}
use Rattle.spv_module.specs.declared.inst.Inst.{Inst}
use Rattle.spv_module.specs.declared.inst.Function.{Function}
use Rattle.spv_index.specs.Locals.{insts_of}
use Rattle.profile_rules.specs.Calls.{id_of}
use Rattle.module_semantics.specs.Setting.{Setting, has_operand, is_in_class, is_mentioned, shared_variables}
use Rattle.module_semantics.specs.Accesses.{initial}
use Rattle.spv_module.specs.State.{ModuleState}
use Rattle.memory_places.specs.Kernel.{bare_from}

-- one of the words from number k on is the id, and an operand
abbrev pub mentions_from : (ℕ → Bool) → ℕ → ℕ → List ℕ → Bool
mentions_from ids id k words = list_any (λ (p : ℕ × ℕ). (p.1 == id) && ids p.0) (enumerate_from k words)

-- an instruction of one of these functions mentions the id
abbrev pub mention : List Function → ℕ → Bool
mention fs id = list_any (λ (f : Function). list_any (has_operand id) (insts_of f)) fs

-- those functions whose ids pass the test
abbrev pub with_ids : (ℕ → Bool) → List Function → List Function
with_ids test fs = filter (λ (f : Function). test (id_of f)) fs

abbrev pub is_among_ids : List Id → ℕ → Bool
is_among_ids ids id = list_any (λ (x : Id). x.0 == id) ids

-- a Workgroup variable that is mentioned
abbrev pub is_shared : (ℕ → Bool) → Inst → Bool
is_shared mentioned g = elim (is_in_class storage.Workgroup g) [ true ↦ mentioned g.result | false ↦ false ]

-- what is mentioned from this entry
pub record AreMentioned (m : ModuleState) (entry : ℕ) (mentioned : ℕ → Bool) : Type 0 where
  pub each : (id : ℕ) → mentioned id ≡ is_mentioned (bare_from m entry) id

-- the places of the Workgroup variables that are
pub record AreNumbers (m : ModuleState) (entry : ℕ) (place : ℕ → Option ℕ) : Type 0 where
  pub each : (id : ℕ) → place id ≡ position_from (λ (g : Inst). g.result == id) 0 (shared_variables (bare_from m entry))

-- a Private variable that is mentioned; it has a value at the start
abbrev pub is_asked_by : (ℕ → Bool) → Inst → Bool
is_asked_by mentioned g = is_in_class storage.Private g && mentioned g.result

unfoldable pub is_fine_by : Setting → (ℕ → Bool) → Inst → Bool
is_fine_by s mentioned g = if is_asked_by mentioned g then is_some (initial s g) else true

-- A module, the function of its entry point and the values of its constants: with what an invocation is told, the setting of a run.
use Rattle.std.specs.Prelude.{ℕ, List, [], None}
use Rattle.spv_module.specs.State.{ModuleState}
use Rattle.spv_module.specs.declared.tree.Value.{Value}
use Rattle.traces.specs.Invocations.{Invocation}
use Rattle.group_items.specs.Sides.{bytes_in}
use Rattle.constant_values.specs.Held.{value_among}
use Rattle.module_semantics.specs.Setting.{Setting}

pub record Kernel : Type 0 where
  pub of : ModuleState
  pub entry : ℕ
  pub values : List (ℕ × Value)

abbrev pub kernel : ModuleState → ℕ → List (ℕ × Value) → Kernel
kernel m entry values = record { of = m; entry = entry; values = values }

abbrev pub setting_for : Kernel → Invocation → Setting
setting_for k told = record { of = k.of; entry = k.entry; constants = value_among k.values; invocation = told }

-- a setting of the module, of whatever else it is
abbrev pub setting_of : ModuleState → ℕ → List (ℕ × Value) → Invocation → Setting
setting_of m entry values told = setting_for (kernel m entry values) told

-- nothing is told
abbrev pub nobody : Invocation
nobody = record {
  num_workgroups = (0, 0, 0);
  workgroup_id = (0, 0, 0);
  local_invocation_id = (0, 0, 0);
  global_invocation_id = (0, 0, 0);
  local_invocation_index = 0;
  buffer_bytes = λ set binding. 0;
  specialization = λ id. None;
}

-- the setting of a module alone, with its entry, with values of constants
abbrev pub bare : ModuleState → Setting
bare m = setting_of m 0 [] nobody

abbrev pub bare_from : ModuleState → ℕ → Setting
bare_from m entry = setting_of m entry [] nobody

abbrev pub bare_with : ModuleState → List (ℕ × Value) → Setting
bare_with m values = setting_of m 0 values nobody

-- whatever the invocation is told
abbrev pub ForEach : Kernel → (Setting → Type 0) → Type 0
ForEach k P = (told : Invocation) → P (setting_for k told)

-- where nothing is told
abbrev pub plain : Kernel → Setting
plain k = setting_for k nobody

-- where buffers have these sizes
abbrev pub sized : ModuleState → List (ℕ × ℕ × ℕ) → Setting
sized m sizes = setting_of m 0 [] (record nobody { buffer_bytes = bytes_in sizes })

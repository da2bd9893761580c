-- What a variable's scalars lie in.
use Rattle.std.specs.Prelude.{ℕ, min, List, Option, unwrap_or}
use Rattle.spv_ops.specs.Enumerants.{built_in_of_number, decoration_number}
use Rattle.spv_ops.specs.declared.BuiltIn.{BuiltIn}
use Rattle.spv_ops.specs.declared.Decoration.TheVariants as decoration
use Rattle.spv_ops.specs.declared.StorageClass.{StorageClass}
use Rattle.spv_ops.specs.declared.StorageClass.TheVariants as storage
use Rattle.spv_module.specs.declared.inst.Inst.{Inst}
use Rattle.traces.specs.Events.{Location, buffer, push, shared}
use Rattle.module_semantics.specs.Setting.{Setting, shared_number}
use Rattle.module_semantics.specs.Memory.{decorated, class_of}
use Rattle.memory_places.specs.declared.bases.Base.{Base}
use Rattle.memory_places.specs.declared.bases.Base.TheVariants.{Buffer, Push, Shared}
use Rattle.memory_places.specs.Capped.{most_variables}

-- the place at this byte, to which these indexes lead
abbrev pub place_in : Base → ℕ → List ℕ → Location
place_in (Buffer set binding) byte path = buffer set binding byte
place_in Push byte path = push byte
place_in (Shared variable) byte path = shared variable path

abbrev pub buffer_base : Setting → Inst → Base
buffer_base s v = Buffer (decorated s (decoration_number decoration.DescriptorSet) v.result) (decorated s (decoration_number decoration.Binding) v.result)

abbrev pub base_by : Setting → Inst → StorageClass → Base
base_by s v storage.PushConstant = Push
base_by s v storage.Workgroup = Shared (min most_variables (shared_number s v.result))
base_by s v _ = buffer_base s v

abbrev pub base_of : Setting → Inst → Base
base_of s v = base_by s v (unwrap_or (class_of v) storage.StorageBuffer)

-- the built-in variable that a variable is decorated as
abbrev pub built_in_of : Setting → Inst → Option BuiltIn
built_in_of s v = built_in_of_number (decorated s (decoration_number decoration.BuiltIn) v.result)

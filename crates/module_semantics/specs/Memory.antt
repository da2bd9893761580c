-- Where the scalars of a variable lie that other invocations see, by the decorations of its type (SPIR-V 1.6, section 3.20, "Offset", "ArrayStride", "DescriptorSet", "Binding"), and which indexes a type allows.
use Rattle.std.specs.Prelude.{ℕ, ◌+◌, ◌*◌, ◌-◌, ◌/◌, ◌^◌, ◌&&◌, Bool, true, false, List, [], ◌∷◌, ◌++◌, Option, Some, None, length, map, nat_lt, option_and_then, slice_index, unwrap_or, if◌then◌else◌}
use Rattle.std.specs.Option.{option_map_or}
use Rattle.spv_ops.specs.declared.Op.{Op}
use Rattle.spv_ops.specs.declared.Op.TheVariants as code
use Rattle.spv_ops.specs.Enumerants.{decoration_number, class_of_number}
use Rattle.spv_ops.specs.declared.Decoration.TheVariants as decoration
use Rattle.spv_ops.specs.declared.StorageClass.{StorageClass}
use Rattle.spv_ops.specs.declared.StorageClass.TheVariants as storage
use Rattle.spv_module.specs.Held.{global}
use Rattle.spv_module.specs.declared.inst.Inst.{Inst}
use Rattle.spv_types.specs.Tree.{Tree, int, ValueTree, word as word_value}
use Rattle.spv_types.specs.Types.{type_tree}
use Rattle.spv_decor.specs.Rows.{word, value_of, member_value_of}
use Rattle.spv_index.specs.Pointers.{pointee}
use Rattle.value_words.specs.Words.{scalar_paths}
use Rattle.traces.specs.Events.{Location, buffer, push, shared}
use Rattle.module_semantics.specs.Setting.{Setting, shared_number}

-- the literal of a decoration of an id, and of a struct's member
abbrev pub decorated : Setting → ℕ → ℕ → ℕ
decorated s number id = unwrap_or (value_of s.of.heads id number) 0

abbrev pub member_offset : Setting → ℕ → ℕ → ℕ
member_offset s id member = unwrap_or (member_value_of s.of.heads id member (decoration_number decoration.Offset)) 0

abbrev pub array_stride : Setting → ℕ → ℕ
array_stride s id = decorated s (decoration_number decoration.ArrayStride) id

-- the type of the part at an index: a struct has a type for each member, an array and a vector one for all
abbrev pub part_by : Op → List ℕ → ℕ → ℕ
part_by code.TypeStruct args i = slice_index args i
part_by _ args i = slice_index args 0

abbrev pub part_type : Setting → ℕ → ℕ → ℕ
part_type s ty i = option_map_or (λ (g : Inst). part_by g.op g.args i) (global s.of.globals ty) 0

-- the type to which indexes lead
abbrev pub type_along : Setting → ℕ → List ℕ → ℕ
type_along s ty [] = ty
type_along s ty (i ∷ is) = type_along s (part_type s ty i) is

-- how many bytes the part at an index lies behind the first byte of the whole; a component of a vector has four
abbrev pub bytes_by : Setting → Inst → ℕ → Op → ℕ
bytes_by s g i code.TypeStruct = member_offset s g.result i
bytes_by s g i code.TypeArray = i * array_stride s g.result
bytes_by s g i code.TypeRuntimeArray = i * array_stride s g.result
bytes_by s g i code.TypeVector = i * 4
bytes_by s g i _ = 0

abbrev pub part_bytes : Setting → ℕ → ℕ → ℕ
part_bytes s ty i = option_map_or (λ (g : Inst). bytes_by s g i g.op) (global s.of.globals ty) 0

abbrev pub bytes_along : Setting → ℕ → List ℕ → ℕ
bytes_along s ty [] = 0
bytes_along s ty (i ∷ is) = part_bytes s ty i + bytes_along s (part_type s ty i) is

-- the type of a variable, without its pointer
abbrev pub variable_type : Setting → Inst → ℕ
variable_type s v = unwrap_or (pointee s.of.globals v.ty) 0

abbrev pub class_of : Inst → Option StorageClass
class_of v = class_of_number (word v 0)

-- where the scalar lies to which these indexes lead in a variable
abbrev pub location_by : Setting → Inst → List ℕ → StorageClass → Location
location_by s v path storage.PushConstant = push (bytes_along s (variable_type s v) path)
location_by s v path storage.Workgroup = shared (shared_number s v.result) path
location_by s v path _ =
    buffer (decorated s (decoration_number decoration.DescriptorSet) v.result) (decorated s (decoration_number decoration.Binding) v.result) (bytes_along s (variable_type s v) path)

abbrev pub location : Setting → Inst → List ℕ → Location
location s v path = location_by s v path (unwrap_or (class_of v) storage.StorageBuffer)

-- the shape of the part of a variable to which these indexes lead
abbrev pub shape_along : Setting → Inst → List ℕ → Option Tree
shape_along s v path = type_tree s.of.globals (type_along s (variable_type s v) path)

-- where the scalars of that part lie, in order
abbrev pub locations : Setting → Inst → List ℕ → List Location
locations s v path = option_map_or (λ (t : Tree). map (λ rest. location s v (path ++ rest)) (scalar_paths t)) (shape_along s v path) []

-- the length of an array: the word of its constant, where that has a value, and is not below zero where it has a sign
abbrev pub length_by : Option Tree → ℕ → Option ℕ
length_by (Some int) w = if nat_lt w (2 ^ 31) then Some w else None
length_by _ w = Some w

abbrev pub length_from : Setting → ℕ → Option ValueTree → Option ℕ
length_from s id (Some (word_value w)) = length_by (option_and_then (λ (g : Inst). type_tree s.of.globals g.ty) (global s.of.globals id)) w
length_from s id _ = None

abbrev pub array_length : Setting → ℕ → Option ℕ
array_length s id = length_from s id (s.constants id)

-- how many parts a type has of which an index is compared with the number; any index may lead into a runtime array
abbrev pub parts_by : Setting → Op → List ℕ → Option ℕ
parts_by s code.TypeVector args = Some (slice_index args 1)
parts_by s code.TypeArray args = Some (unwrap_or (array_length s (slice_index args 1)) 0)
parts_by s code.TypeStruct args = Some (length args)
parts_by s code.TypeRuntimeArray args = None
parts_by s _ args = Some 0

abbrev pub is_among : Option ℕ → ℕ → Bool
is_among None i = true
is_among (Some n) i = nat_lt i n

-- The index leads into the type: it is read with a sign, so it is below 2 ^ 31, and it is below the number of parts (SPIR-V 1.6, OpAccessChain, "Indexes").
abbrev pub is_allowed : Setting → ℕ → ℕ → Bool
is_allowed s ty i = nat_lt i (2 ^ 31) && option_map_or (λ (g : Inst). is_among (parts_by s g.op g.args) i) (global s.of.globals ty) false

abbrev pub are_allowed : Setting → ℕ → List ℕ → Bool
are_allowed s ty [] = true
are_allowed s ty (i ∷ is) = is_allowed s ty i && are_allowed s (part_type s ty i) is

-- How many elements the runtime array has that is this member of a buffer's block: as many whole strides as there are bytes behind its offset (SPIR-V 1.6, OpArrayLength).
abbrev pub elements : Setting → Inst → ℕ → ℕ
elements s v member =
    (s.invocation.buffer_bytes (decorated s (decoration_number decoration.DescriptorSet) v.result) (decorated s (decoration_number decoration.Binding) v.result)
    - member_offset s (variable_type s v) member) / array_stride s (part_type s (variable_type s v) member)

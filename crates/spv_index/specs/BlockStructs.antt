-- Structs that make blocks of the variables that point to them (SPIR-V 1.6, sections 3.7 and 3.20).
use Rattle.std.specs.Prelude.{ℕ, ◌==◌, ◌||◌, ◌&&◌, Bool, false, List, is_some, slice_index}
use Rattle.std.specs.Option.{option_map_or}
use Rattle.spv_ops.specs.Opcode.{number}
use Rattle.spv_ops.specs.Enumerants.{class_number, decoration_number}
use Rattle.spv_ops.specs.declared.Op.TheVariants as op
use Rattle.spv_ops.specs.declared.Decoration.{Decoration}
use Rattle.spv_ops.specs.declared.Decoration.TheVariants as decoration
use Rattle.spv_ops.specs.declared.StorageClass.TheVariants as storage
use Rattle.spv_module.specs.declared.inst.Inst.{Inst}
use Rattle.spv_decor.specs.Rows.{first_row}
use Rattle.spv_index.specs.Pointers.{pointee}

-- the id is decorated so
abbrev pub has : List Inst → Decoration → ℕ → Bool
has heads d id = is_some (first_row heads (number op.Decorate, id, 0, decoration_number d))

-- the struct is decorated Block or BufferBlock
abbrev pub is_block : List Inst → ℕ → Bool
is_block heads id = has heads decoration.Block id || has heads decoration.BufferBlock id

-- a variable of this class that points to this struct is a storage block: StorageBuffer with Block, or Uniform with BufferBlock
abbrev pub is_storage_struct : List Inst → ℕ → ℕ → Bool
is_storage_struct heads class id =
    ((class == class_number storage.StorageBuffer) && has heads decoration.Block id) || ((class == class_number storage.Uniform) && has heads decoration.BufferBlock id)

-- it is a uniform block: Uniform with Block; a push block: PushConstant with Block
abbrev pub is_uniform_struct : List Inst → ℕ → ℕ → Bool
is_uniform_struct heads class id = (class == class_number storage.Uniform) && has heads decoration.Block id

abbrev pub is_push_struct : List Inst → ℕ → ℕ → Bool
is_push_struct heads class id = (class == class_number storage.PushConstant) && has heads decoration.Block id

-- it is one of the three
abbrev pub is_block_struct : List Inst → ℕ → ℕ → Bool
is_block_struct heads class id = is_storage_struct heads class id || (is_uniform_struct heads class id || is_push_struct heads class id)

-- the variable is a storage block, is a block
abbrev pub is_storage_block : List Inst → List Inst → Inst → Bool
is_storage_block heads gs v = option_map_or (is_storage_struct heads (slice_index v.args 0)) (pointee gs v.ty) false

abbrev pub is_some_block : List Inst → List Inst → Inst → Bool
is_some_block heads gs v = option_map_or (is_block_struct heads (slice_index v.args 0)) (pointee gs v.ty) false

-- The types to which indexes lead.
use Rattle.std.specs.Prelude.{ℕ, Bool, false, List, Option, Some, None, option_and_then, slice_get, if◌then◌else◌}
use Rattle.std.specs.Option.{option_map_or}
use Rattle.spv_ops.specs.Opcode.{is}
use Rattle.spv_ops.specs.declared.Op.{Op}
use Rattle.spv_ops.specs.declared.Op.TheVariants as code
use Rattle.spv_module.specs.Held.{global}
use Rattle.spv_module.specs.declared.inst.Inst.{Inst}
use Rattle.spv_decor.specs.Rows.{word}

-- the word of an OpConstant
abbrev pub constant_if : Inst → Option ℕ
constant_if g = if is g.op code.Constant then Some (word g 0) else None

abbrev pub constant_word : List Inst → ℕ → Option ℕ
constant_word gs id = option_and_then constant_if (global gs id)

-- the type that an index leads to: of a struct's member, of an array's or runtime array's element, of a vector's component
abbrev pub member_type : Inst → Option ℕ → Option ℕ
member_type g member = option_and_then (slice_get g.args) member

abbrev pub step_by : List Inst → ℕ → Inst → Op → Option ℕ
step_by gs index g code.TypeStruct = member_type g (constant_word gs index)
step_by gs index g code.TypeVector = Some (word g 0)
step_by gs index g code.TypeArray = Some (word g 0)
step_by gs index g code.TypeRuntimeArray = Some (word g 0)
step_by gs index g _ = None

abbrev pub step_from : List Inst → ℕ → Inst → Option ℕ
step_from gs index g = step_by gs index g g.op

abbrev pub step_type : List Inst → ℕ → ℕ → Option ℕ
step_type gs index ty = option_and_then (step_from gs index) (global gs ty)

abbrev pub is_struct : List Inst → ℕ → Bool
is_struct gs ty = option_map_or (λ (g : Inst). is g.op code.TypeStruct) (global gs ty) false

-- The shapes by which types are named (GLSL 4.60, section 4.1).
use Rattle.std.specs.Prelude.{ℕ, List, Option, Some, if◌then◌else◌, slice_index}
use Rattle.std.specs.Option.{option_map_or}
use Rattle.spv_ops.specs.Opcode.{is}
use Rattle.spv_ops.specs.declared.Op.TheVariants as code
use Rattle.spv_module.specs.Held.{global}
use Rattle.spv_module.specs.Lists.{id}
use Rattle.spv_module.specs.declared.inst.Inst.{Inst}
use Rattle.spv_module.specs.declared.tree.Length.{Length}
use Rattle.spv_module.specs.declared.tree.Length.TheVariants.{Fixed, Spec}
use Rattle.spv_types.specs.Tree.{Tree, boolean, int, uint, vector, array, runtime, struct, no_trees}
use Rattle.spv_types.specs.Types.{kind, below, tree_at}
use Rattle.spv_types.specs.declared.kind.TypeKind.{TypeKind}
use Rattle.spv_types.specs.declared.kind.TypeKind.TheVariants as kinds

-- a scalar or a vector, and uint of another
abbrev pub basic_of : Option Tree → Tree
basic_of (Some boolean) = boolean
basic_of (Some int) = int
basic_of (Some (vector e n)) = vector e n
basic_of _ = uint

-- the shape of the scalar or vector type that an instruction declares
abbrev pub basic_at : List Inst → Inst → Tree
basic_at gs g = basic_of (tree_at gs g)

-- of the type with an id
abbrev pub basic : List Inst → ℕ → Tree
basic gs ty = option_map_or (basic_at gs) (global gs ty) uint

-- the length of an array: of an OpConstant its word, and else the specialization constant
abbrev pub length_by : ℕ → Inst → Length
length_by n g = if is g.op code.Constant then Fixed (slice_index g.args 0) else Spec (id n)

abbrev pub length_at : List Inst → ℕ → Length
length_at gs n = option_map_or (length_by n) (global gs n) (Spec (id n))

-- the shape of a type without the members of structs, by which it is named; `f` says it of the types before it
abbrev pub outline_by : List Inst → (ℕ → Tree) → Inst → TypeKind → Tree
outline_by gs f g kinds.Array = array (f (slice_index g.args 0)) (length_at gs (slice_index g.args 1))
outline_by gs f g kinds.Runtime = runtime (f (slice_index g.args 0))
outline_by gs f g kinds.Struct = struct g.result no_trees
outline_by gs f g _ = basic_at gs g

abbrev pub outline_step : List Inst → (ℕ → Tree) → Inst → Tree
outline_step gs f g = outline_by gs f g (kind g.op)

abbrev pub outline_before : List Inst → ℕ → ℕ → Tree
outline_before gs = below (outline_step gs) uint gs

abbrev pub outline_at : List Inst → Inst → Tree
outline_at gs g = outline_step gs (outline_before gs g.at) g

abbrev pub outline : List Inst → ℕ → Tree
outline gs ty = option_map_or (outline_at gs) (global gs ty) uint

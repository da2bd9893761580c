-- What of a module is written into its text: variables, named constants, structs (GLSL 4.60, chapter 4).
use Rattle.std.specs.Prelude.{ℕ, ◌==◌, ◌&&◌, ◌||◌, not, Bool, true, false, List, [], ◌∷◌, ◌++◌, filter, flat_map, map, is_some, slice_index}
use Rattle.std.specs.Option.{option_map_or}
use Rattle.std.specs.List.{list_any, enumerate_from}
use Rattle.spv_ops.specs.Opcode.{is}
use Rattle.spv_ops.specs.declared.Op.TheVariants as code
use Rattle.spv_ops.specs.declared.StorageClass.TheVariants as storage
use Rattle.spv_ops.specs.Enumerants.{class_number}
use Rattle.spv_module.specs.declared.inst.Inst.{Inst}
use Rattle.spv_module.specs.declared.inst.Function.{Function}
use Rattle.spv_ops.specs.Operands.{is_id}
use Rattle.spv_types.specs.Tree as shape
use Rattle.spv_types.specs.Tree.{Tree, Trees, no_trees, tree}
use Rattle.spv_types.specs.Types.{type_tree}
use Rattle.spv_index.specs.Locals.{insts_of}
use Rattle.spv_index.specs.Pointers.{pointee}
use Rattle.spv_index.specs.BlockStructs.{is_block}
use Rattle.profile_rules.specs.Places.{is_variable}
use Rattle.profile_rules.specs.TypeForm.{signature}
use Rattle.text_rules.specs.declared.readings.Reading.{Reading}
use Rattle.text_rules.specs.declared.readings.Reading.TheVariants.{Named}
use Rattle.text_rules.specs.Constants.{Source, is_constant, reading, free_spec_id}

-- what is written of the functions: those that calls reach from the entry; of the live instructions of these the types of the results, and the ids that they mention
pub record Reached : Type 0 where
  pub functions : List Function
  pub types : List ℕ
  pub mentions : List ℕ

-- operand word k of those from number k on is this id
abbrev pub has_operand_from : (ℕ → Bool) → ℕ → ℕ → List ℕ → Bool
has_operand_from ids id k words = list_any (λ (p : ℕ × ℕ). ids p.0 && (p.1 == id)) (enumerate_from k words)

-- an operand of the instruction is this id
abbrev pub has_operand : Inst → ℕ → Bool
has_operand i id = has_operand_from (is_id i.op i.args) id 0 i.args

-- the storage class of an OpVariable
abbrev pub class : Inst → ℕ
class g = slice_index g.args 0

-- Private; Workgroup; Uniform, PushConstant and StorageBuffer
abbrev pub is_private : Inst → Bool
is_private g = is_variable g && (class g == class_number storage.Private)

abbrev pub is_workgroup : Inst → Bool
is_workgroup g = is_variable g && (class g == class_number storage.Workgroup)

abbrev pub is_block_variable : Inst → Bool
is_block_variable g =
    is_variable g && ((class g == class_number storage.Uniform) || (class g == class_number storage.PushConstant) || (class g == class_number storage.StorageBuffer))

-- a variable is written where it is an operand of an instruction of a reached function, be this live or not; those that are Input are built in
abbrev pub is_operand_in : List Function → ℕ → Bool
is_operand_in fs id = list_any (λ (f : Function). list_any (λ (i : Inst). has_operand i id) (insts_of f)) fs

abbrev pub is_written_variable : Reached → Inst → Bool
is_written_variable r g = (is_private g || (is_workgroup g || is_block_variable g)) && is_operand_in r.functions g.result

-- OpTypeArray with this length
abbrev pub is_length_of : ℕ → Inst → Bool
is_length_of id g = (is g.op code.TypeArray) && (slice_index g.args 1 == id)

-- of itself, without the other constants, the text needs the constant with this id: a live instruction mentions it, or it is the length of an array, or an operand of a Private variable that is written
abbrev pub needs_constant : Source → Reached → ℕ → Bool
needs_constant s r id =
    list_any (λ (n : ℕ). n == id) r.mentions ||
    (list_any (is_length_of id) s.of.globals ||
    list_any (λ (g : Inst). is_private g && (is_written_variable r g && has_operand g id)) s.of.globals)

abbrev pub is_named : Reading → Bool
is_named Named = true
is_named _ = false

-- the constant is declared, where `needed` tells which ids the text needs: one that has a SpecId always is
abbrev pub declares : Source → (ℕ → Bool) → Inst → Bool
declares s needed g = is_constant g && (is_named (reading s g) && (is_some (free_spec_id s g.result) || needed g.result))

-- the ids that the text needs: a constant that is declared needs its operands, which stand before it
abbrev pub needed_with : Source → (ℕ → Bool) → Inst → ℕ → Bool
needed_with s needed g id = elim (needed id) [ true ↦ true | false ↦ declares s needed g && has_operand g id ]

abbrev pub needed_from : Source → (ℕ → Bool) → List Inst → ℕ → Bool
needed_from s first [] = first
needed_from s first (g ∷ gs) = needed_with s (needed_from s first gs) g

abbrev pub is_needed : Source → Reached → ℕ → Bool
is_needed s r = needed_from s (needs_constant s r) s.of.globals

abbrev pub is_declared_constant : Source → Reached → Inst → Bool
is_declared_constant s r g = declares s (is_needed s r) g

-- a shape is, or has in it, the struct with this id
abbrev mutual
  pub has_struct : ℕ → Tree → Bool
  has_struct id (shape.array t l) = has_struct id t
  has_struct id (shape.runtime t) = has_struct id t
  has_struct id (shape.struct other ts) = (other == id) || have_struct id ts
  has_struct id _ = false

  pub have_struct : ℕ → Trees → Bool
  have_struct id no_trees = false
  have_struct id (tree t ts) = has_struct id t || have_struct id ts

-- so it is with a type, or with what a pointer type points to
abbrev pub pointee_or_self : List Inst → ℕ → ℕ
pointee_or_self gs ty = option_map_or (λ p. p) (pointee gs ty) ty

abbrev pub type_has_struct : List Inst → ℕ → ℕ → Bool
type_has_struct gs id ty = option_map_or (has_struct id) (type_tree gs (pointee_or_self gs ty)) false

-- the types of what is written: of variables and constants, of the parameters and results of functions, of what live instructions give
abbrev pub written_types : Source → Reached → List ℕ
written_types s r =
    map (λ (g : Inst). g.ty) (filter (λ g. is_written_variable r g || is_declared_constant s r g) s.of.globals) ++
    (flat_map signature r.functions ++ r.types)

-- a struct is written where something that is written has it; one with Block or BufferBlock is written with its block alone
abbrev pub is_written_struct : Source → Reached → Inst → Bool
is_written_struct s r g =
    (is g.op code.TypeStruct) && (not (is_block s.of.heads g.result) && list_any (type_has_struct s.of.globals g.result) (written_types s r))

-- The items of a text before its functions: structs, named constants, variables and blocks (GLSL 4.60, chapter 4).
use Rattle.std.specs.Prelude.{ℕ, ◌==◌, Bool, List, [], ◌∷◌, filter, flat_map, map, Option, Some, None, is_some, if◌then◌else◌, slice_get, unwrap_or}
use Rattle.std.specs.Option.{option_map_or}
use Rattle.std.specs.List.{enumerate_from}
use Rattle.spv_ops.specs.declared.StorageClass.TheVariants as storage
use Rattle.spv_ops.specs.declared.Decoration.{Decoration}
use Rattle.spv_ops.specs.declared.Decoration.TheVariants as decoration
use Rattle.spv_ops.specs.Enumerants.{class_number, decoration_number}
use Rattle.spv_module.specs.Held.{global}
use Rattle.spv_module.specs.declared.inst.Inst.{Inst}
use Rattle.spv_module.specs.declared.tree.Length.{Length}
use Rattle.spv_module.specs.declared.tree.Length.TheVariants.{Fixed, Spec}
use Rattle.spv_decor.specs.Rows.{value_of, member_value_of}
use Rattle.spv_types.specs.Tree as shape
use Rattle.spv_types.specs.Tree.{Tree, word}
use Rattle.spv_types.specs.Types.{type_tree}
use Rattle.spv_index.specs.Pointers.{pointee}
use Rattle.spv_index.specs.BlockStructs.{is_storage_struct}
use Rattle.layout_rules.specs.declared.Kind.{Kind}
use Rattle.layout_rules.specs.declared.Kind.TheVariants.{Std140}
use Rattle.layout_rules.specs.Blocks.{block_of, kind_at}
use Rattle.profile_rules.specs.declared.constant.ConstantKind.{ConstantKind}
use Rattle.profile_rules.specs.declared.constant.ConstantKind.TheVariants.{Composite, Zero, Operation}
use Rattle.profile_rules.specs.Constants.{constant_kind}
use Rattle.glsl_ast.specs.Tree.{Text, Expr, literal, build, exprs_in, Extent, number, named, size, TypeName, Field, field, Member, member, Decl, struct, constant, shared, block}
use Rattle.glsl_ast.specs.Tree as tree
use Rattle.glsl_ast.specs.declared.expressions.Literal.TheVariants.{Uint}
use Rattle.glsl_ast.specs.declared.items.BlockPlace.{BlockPlace}
use Rattle.glsl_ast.specs.declared.items.BlockPlace.TheVariants.{Set, Push}
use Rattle.glsl_ast.specs.declared.items.BlockRules.{BlockRules}
use Rattle.glsl_ast.specs.declared.items.BlockRules.TheVariants as rules
use Rattle.glsl_ast.specs.declared.items.Qual.{Qual}
use Rattle.glsl_ast.specs.declared.items.Qual.TheVariants.{Coherent, Volatile, Restrict, Readonly, Writeonly}
use Rattle.text_rules.specs.declared.readings.Reading.{Reading}
use Rattle.text_rules.specs.declared.readings.Reading.TheVariants.{Plain, Named, GroupSize, GroupSizePart}
use Rattle.text_rules.specs.Types.{Spelling, type_text, zero_text}
use Rattle.text_rules.specs.Constants.{Source, reading, free_spec_id, plain_literal, plain_value, constant_expr, axis_text}
use Rattle.text_rules.specs.Outlines.{outline}
use Rattle.text_rules.specs.Printed.{Reached, is_private, is_written_variable, is_declared_constant, is_written_struct, class}

-- the names of what is written, and the expressions of the constants that are calculated
pub record Names : Type 0 where
  pub id : ℕ → Text
  pub block : ℕ → ℕ → Text
  pub member : ℕ → ℕ → Text
  pub calculated : Inst → Expr

-- the word of a plain constant
abbrev pub word_of : shape.ValueTree → ℕ
word_of (word w) = w
word_of _ = 0

-- how a constant that is the length of an array is written, where ids have these names
abbrev pub extent_by : Source → (ℕ → Text) → Inst → Reading → Extent
extent_by s ids g Plain = number (word_of (plain_value s g))
extent_by s ids g Named = named (ids g.result)
extent_by s ids g GroupSize = number 0
extent_by s ids g (GroupSizePart axis) = size (axis_text axis)

abbrev pub length_extent : Source → (ℕ → Text) → Length → Extent
length_extent s ids (Fixed n) = number n
length_extent s ids (Spec id) = option_map_or (λ (g : Inst). extent_by s ids g (reading s g)) (global s.of.globals id.0) (number 0)

abbrev pub spelling : Source → (ℕ → Text) → Spelling
spelling s ids = record { struct_name = ids; length = length_extent s ids }

-- the shape of a type, which each type of what is written has
abbrev pub shape_at : Source → ℕ → Tree
shape_at s ty = unwrap_or (type_tree s.of.globals ty) shape.uint

-- the name of a type
abbrev pub type_at : Source → Names → ℕ → TypeName
type_at s names ty = type_text (spelling s names.id) (outline s.of.globals ty)

-- what a pointer type points to
abbrev pub pointee_at : Source → ℕ → ℕ
pointee_at s ty = unwrap_or (pointee s.of.globals ty) ty

abbrev pub zero_at : Source → Names → ℕ → Expr
zero_at s names ty = zero_text (spelling s names.id) (shape_at s ty)

-- the expression of the constant with an id
abbrev pub expr_at : Source → Names → ℕ → Expr
expr_at s names id = option_map_or (constant_expr s names.id) (global s.of.globals id) (literal (Uint 0))

-- the expression that a named constant is declared with
abbrev pub value_by : Source → Names → Inst → ConstantKind → Expr
value_by s names g Composite = build (type_at s names g.ty) (exprs_in (map (expr_at s names) g.args))
value_by s names g Zero = zero_at s names g.ty
value_by s names g Operation = names.calculated g
value_by s names g _ = literal (plain_literal s g)

abbrev pub constant_decl : Source → Names → Inst → Decl
constant_decl s names g =
    constant (free_spec_id s g.result) (type_at s names g.ty) (names.id g.result) (value_by s names g (constant_kind g.op))

-- the members of a struct, each with its number and the id of its type
abbrev pub members : Inst → List (ℕ × ℕ)
members g = enumerate_from 0 g.args

abbrev pub struct_decl : Source → Names → Inst → Decl
struct_decl s names g =
    struct (names.id g.result) (map (λ (m : ℕ × ℕ). field (type_at s names m.1) (names.member g.result m.0)) (members g))

-- the initializer of a variable: the second operand, where there is one
abbrev pub initial : Source → Names → Inst → Expr
initial s names g = option_map_or (expr_at s names) (slice_get g.args 1) (zero_at s names (pointee_at s g.ty))

-- the qualifiers, in the order in which they are written, with their decorations
abbrev pub qualifiers : List (Qual × Decoration)
qualifiers =
    (Coherent, decoration.Coherent) ∷ (Volatile, decoration.Volatile) ∷ (Restrict, decoration.Restrict) ∷
    (Readonly, decoration.NonWritable) ∷ (Writeonly, decoration.NonReadable) ∷ []

abbrev pub qualifiers_by : Bool → (ℕ → Bool) → List Qual
qualifiers_by buffer has = if buffer then map (λ (q : Qual × Decoration). q.0) (filter (λ (q : Qual × Decoration). has (decoration_number q.1)) qualifiers) else []

-- the variable with this struct is a storage block
abbrev pub is_buffer : Source → Inst → Inst → Bool
is_buffer s v g = is_storage_struct s.of.heads (class v) g.result

abbrev pub member_decl : Source → Names → Inst → Inst → ℕ × ℕ → Member
member_decl s names v g m =
    member (unwrap_or (member_value_of s.of.heads g.result m.0 (decoration_number decoration.Offset)) 0)
    (qualifiers_by (is_buffer s v g) (λ d. is_some (member_value_of s.of.heads g.result m.0 d)))
    (type_at s names m.1) (names.member g.result m.0)

abbrev pub place_of : Source → Inst → BlockPlace
place_of s v =
    if class v == class_number storage.PushConstant then Push else
    Set (unwrap_or (value_of s.of.heads v.result (decoration_number decoration.DescriptorSet)) 0) (unwrap_or (value_of s.of.heads v.result (decoration_number decoration.Binding)) 0)

abbrev pub rules_by : Option Kind → BlockRules
rules_by (Some Std140) = rules.Std140
rules_by _ = rules.Std430

abbrev pub block_decl : Source → Names → Inst → Inst → Decl
block_decl s names v g =
    block (place_of s v) (rules_by (kind_at s.of.heads s.of.globals v g))
    (qualifiers_by (is_buffer s v g) (λ d. is_some (value_of s.of.heads v.result d))) (is_buffer s v g)
    (names.block v.result g.result) (map (member_decl s names v g) (members g)) (names.id v.result)

abbrev pub variable_decl : Source → Names → Inst → Option Inst → List Decl
variable_decl s names v (Some g) = block_decl s names v g ∷ []
variable_decl s names v None =
    (if is_private v then tree.global (type_at s names (pointee_at s v.ty)) (names.id v.result) (initial s names v)
    else shared (type_at s names (pointee_at s v.ty)) (names.id v.result)) ∷ []

-- what is written for a global instruction
abbrev pub declaration : Source → Reached → Names → Inst → List Decl
declaration s r names g =
    if is_written_struct s r g then struct_decl s names g ∷ [] else
    (if is_declared_constant s r g then constant_decl s names g ∷ [] else
    (if is_written_variable r g then variable_decl s names g (block_of s.of.globals g) else []))

-- the items before the functions, in the order in which the module defines them
abbrev pub declarations : Source → Reached → Names → List Decl
declarations s r names = flat_map (declaration s r names) s.of.globals

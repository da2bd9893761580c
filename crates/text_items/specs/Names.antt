-- The names of items, and the expressions of calculated constants.
use Rattle.std.specs.Prelude.{ℕ, ◌&&◌, Bool, true, false, List, [], drop, map, Option, Some, None, option_and_then, if◌then◌else◌, slice_index, unwrap_or}
use Rattle.std.specs.Option.{option_map_or}
use Rattle.spv_ops.specs.Operands.{inner_of}
use Rattle.spv_ops.specs.declared.Op.{Op}
use Rattle.spv_module.specs.Held.{global}
use Rattle.spv_module.specs.Lists.{id}
use Rattle.spv_module.specs.declared.inst.Inst.{Inst}
use Rattle.spv_module.specs.declared.tree.Elem.{Elem}
use Rattle.spv_module.specs.declared.tree.Elem.TheVariants as elem
use Rattle.spv_types.specs.Tree as shape
use Rattle.spv_types.specs.Types.{type_tree, elem_of}
use Rattle.op_semantics.specs.Value.{not_extended}
use Rattle.profile_rules.specs.Constants.{inner_operands, inner_literals}
use Rattle.name_alloc.specs.declared.claims.Key.{Key}
use Rattle.name_alloc.specs.declared.claims.Key.TheVariants.{Block, Member}
use Rattle.name_alloc.specs.declared.claims.Names.{Names as Given}
use Rattle.name_alloc.specs.Lookup.{name_in}
use Rattle.glsl_ast.specs.Tree.{Text, Expr, literal, Field, field}
use Rattle.glsl_ast.specs.declared.expressions.Literal.TheVariants.{Uint}
use Rattle.int_lowering.specs.Operand.{basic_type}
use Rattle.int_lowering.specs.Lowered.{zero}
use Rattle.vec_lowering.specs.Named.{Naming}
use Rattle.vec_lowering.specs.Composite.{Argument}
use Rattle.vec_lowering.specs.Lowered.{lowered_vector}
use Rattle.constant_text.specs.Named.{id_names}
use Rattle.text_rules.specs.declared.readings.Reading.{Reading}
use Rattle.text_rules.specs.declared.readings.Reading.TheVariants.{Plain}
use Rattle.text_rules.specs.Constants.{Source, is_constant, reading, plain_value, constant_expr}
use Rattle.text_rules.specs.Declarations.{Names, word_of, shape_at, type_at}

-- the name of a key; that of one that was not claimed is empty
abbrev pub key_text : Given → Key → Text
key_text names key = unwrap_or (name_in names key) []

abbrev pub is_plain : Reading → Bool
is_plain Plain = true
is_plain _ = false

abbrev pub is_number : Option Elem → Bool
is_number (Some elem.Int) = true
is_number (Some elem.Uint) = true
is_number _ = false

-- the word of a scalar integer constant that is written as a literal
abbrev pub literal_word : Source → Inst → Option ℕ
literal_word s g =
    if is_constant g && (is_plain (reading s g) && is_number (option_and_then elem_of (type_tree s.of.globals g.ty))) then Some (word_of (plain_value s g)) else None

-- an operand of a calculated constant, where ids have these names; an id without a definition is 0u
abbrev pub operand_by : Source → (ℕ → Text) → Option Inst → Argument
operand_by s ids None = record { of = literal (Uint 0); shape = shape.uint; word = None }
operand_by s ids (Some g) = record { of = constant_expr s ids g; shape = shape_at s g.ty; word = literal_word s g }

abbrev pub operand : Source → (ℕ → Text) → ℕ → Argument
operand s ids n = operand_by s ids (global s.of.globals n)

-- the opcode of the operation that an OpSpecConstantOp is, where it may stand there
abbrev pub inner_opcode : Inst → Option Op
inner_opcode g = inner_of (slice_index g.args 0)

-- the expression of an operation of constants, where keys and ids have these names
abbrev pub calculated_by : Source → Naming → (ℕ → Text) → Inst → List ℕ → Op → Expr
calculated_by s keys ids g args op =
    lowered_vector keys op not_extended (shape_at s g.ty) (inner_literals op args) (map (operand s ids) (inner_operands op args))

-- where there is no operation, it is a zero
abbrev pub calculated_with : Source → Naming → (ℕ → Text) → Inst → Expr
calculated_with s keys ids g =
    option_map_or (calculated_by s keys ids g (drop 1 g.args)) (inner_opcode g) (zero (basic_type (shape_at s g.ty)))

abbrev pub calculated : Source → Given → Inst → Expr
calculated s names = calculated_with s (name_in names) (id_names names)

-- the names of items
abbrev pub item_names : Source → Given → Names
item_names s names = record {
  id = id_names names;
  block = λ v struct. key_text names (Block (id v) (id struct));
  member = λ struct k. key_text names (Member (id struct) k);
  calculated = calculated s names;
}

-- the expression of a constant, 0u where there is none
abbrev pub expr_if_any : Source → (ℕ → Text) → Option Inst → Expr
expr_if_any s ids g = option_map_or (constant_expr s ids) g (literal (Uint 0))

-- a member of a struct, with its number and the id of its type
abbrev pub field_at : Source → Names → Inst → ℕ × ℕ → Field
field_at s names g m = field (type_at s names m.1) (names.member g.result m.0)

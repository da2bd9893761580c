-- What a report tells of the specialization constants that are not overridden.
use Rattle.std.specs.Prelude.{ℕ, ◌==◌, ◌&&◌, ◌++◌, Bool, false, List, Option, Some, None, codes, find, option_map, option_and_then, if◌then◌else◌}
use Rattle.std.specs.Option.{option_or, option_map_or}
use Rattle.std.specs.List.{filter_map}
use Rattle.std.specs.Int.{w32, cast_signed}
use Rattle.spv_ops.specs.Enumerants.{decoration_number}
use Rattle.spv_ops.specs.declared.Decoration.TheVariants as decoration
use Rattle.spv_module.specs.State.{ModuleState}
use Rattle.spv_module.specs.declared.inst.Inst.{Inst}
use Rattle.spv_decor.specs.Rows.{value_of}
use Rattle.glsl_ast.specs.Tree.{Text, Expr, literal, Decl, constant, TranslationUnit, translation_unit}
use Rattle.glsl_ast.specs.declared.expressions.Literal.{Literal}
use Rattle.glsl_ast.specs.declared.expressions.Literal.TheVariants.{Int, Uint, Hex, Truth}
use Rattle.glsl_ast.specs.declared.items.Size.{Size}
use Rattle.glsl_grammar.specs.Layout.{type_text}
use Rattle.serde_json.specs.Data.{Data, null, boolean, number, unsigned, string, object, member, no_members}
use Rattle.serde_json.specs.Find.{of_integer}
use Rattle.text_report.specs.Sizes.{number_at, number_or_null}

-- a constant's default: a truth value, or a number, which is signed for int
abbrev pub literal_data : Literal → Data
literal_data (Int n) = number (of_integer (cast_signed w32 n))
literal_data (Hex n) = number (of_integer (cast_signed w32 n))
literal_data (Uint n) = number (unsigned n)
literal_data (Truth b) = boolean b

abbrev pub default_data : Expr → Data
default_data (literal l) = literal_data l
default_data _ = null

abbrev pub constant_data : Data → ℕ → Text → Text → Data
constant_data default id name ty =
    object (member (codes "default") default (member (codes "id") (number (unsigned id)) (member (codes "name") (string name) (member (codes "type") (string ty) no_members))))

-- the SpecId of an item that declares a constant with one
abbrev pub own_id : Decl → Option ℕ
own_id (constant id ty name value) = id
own_id _ = None

-- the item declares the constant with a SpecId
abbrev pub declares : ℕ → Decl → Bool
declares id d = option_map_or (λ own. own == id) (own_id d) false

abbrev pub declared_data : Decl → Option Data
declared_data (constant (Some id) ty name value) = Some (constant_data (default_data value) id name (type_text ty))
declared_data _ = None

-- a part of the size of workgroups that is the constant with a SpecId
abbrev pub is_part : ℕ → Size → Bool
is_part id s = s.by_id && (s.number == id)

abbrev pub axis_text : ℕ → Text
axis_text axis = if axis == 0 then codes "x" else (if axis == 1 then codes "y" else codes "z")

abbrev pub part_name : ℕ → Text
part_name axis = codes "gl_WorkGroupSize." ++ axis_text axis

abbrev pub part_data : List Size → Size → Data
part_data ss s = constant_data (number_or_null (number_at ss s.axis)) s.number (part_name s.axis) (codes "uint")

-- the constant with a SpecId, where the text has it
abbrev pub spec_data : TranslationUnit → ℕ → Option Data
spec_data (translation_unit ss ds) id =
    option_or (option_map (part_data ss) (find (is_part id) ss)) (option_and_then declared_data (find (declares id) ds))

-- the constant that an instruction defines, where the text has it with a SpecId
abbrev pub spec_by : ModuleState → TranslationUnit → Inst → Option Data
spec_by m u g = option_and_then (spec_data u) (value_of m.heads g.result (decoration_number decoration.SpecId))

-- those constants in the order in which the module defines them
abbrev pub spec : ModuleState → TranslationUnit → List Data
spec m u = filter_map (spec_by m u) m.globals

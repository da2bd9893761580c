-- How constants are read: by a literal, by a name, or as a part of the size of workgroups.
use Rattle.std.specs.Prelude.{ℕ, ◌^◌, ◌==◌, ◌&&◌, not, nat_lt, Bool, true, false, List, [], ◌∷◌, drop, find, flat_map, Option, Some, None, is_some, option_map, option_and_then, if◌then◌else◌, codes, unwrap_or}
use Rattle.std.specs.Option.{option_map_or}
use Rattle.std.specs.List.{position_from, zip}
use Rattle.spv_ops.specs.Opcode.{is}
use Rattle.spv_ops.specs.declared.Op.TheVariants as code
use Rattle.spv_ops.specs.Groups.{is_constant as is_constant_op}
use Rattle.spv_module.specs.State.{ModuleState}
use Rattle.spv_module.specs.declared.inst.Inst.{Inst}
use Rattle.spv_types.specs.Tree as shape
use Rattle.spv_types.specs.Tree.{Tree, ValueTree, truth, word}
use Rattle.spv_types.specs.Types.{type_tree}
use Rattle.profile_rules.specs.declared.given.Given.{Given}
use Rattle.profile_rules.specs.declared.constant.ConstantKind.{ConstantKind}
use Rattle.profile_rules.specs.declared.constant.ConstantKind.TheVariants.{Composite, Operation}
use Rattle.profile_rules.specs.declared.size.SizePart.{SizePart}
use Rattle.profile_rules.specs.declared.size.SizePart.TheVariants.{Fixed, Spec}
use Rattle.profile_rules.specs.Constants.{constant_kind, value_by_kind, given_to, spec_id, word_given}
use Rattle.profile_rules.specs.Entry.{is_size_composite, is_local_size_id, group_size}
use Rattle.glsl_ast.specs.Tree.{Text, Expr, literal, name, member}
use Rattle.glsl_ast.specs.declared.expressions.Literal.{Literal}
use Rattle.glsl_ast.specs.declared.expressions.Literal.TheVariants.{Int, Uint, Hex, Truth}
use Rattle.glsl_ast.specs.declared.items.Size.{Size}
use Rattle.text_rules.specs.declared.readings.Reading.{Reading}
use Rattle.text_rules.specs.declared.readings.Reading.TheVariants.{Plain, Named, GroupSize, GroupSizePart}

-- what is translated: a module, the function of its entry point, and the overrides
pub record Source : Type 0 where
  pub of : ModuleState
  pub entry : ℕ
  pub overrides : List (ℕ × Given)

-- the ids of the parts of the size of workgroups, where constants give it: the composite decorated WorkgroupSize, else LocalSizeId
abbrev pub size_ids : Source → List ℕ
size_ids s =
    option_map_or (λ (g : Inst). g.args) (find (is_size_composite s.of.heads) s.of.globals)
    (option_map_or (λ (i : Inst). drop 2 i.args) (find (is_local_size_id s.entry) s.of.heads) [])

-- the SpecId of a constant that is not overridden
abbrev pub if_free : List (ℕ × Given) → ℕ → Option ℕ
if_free overrides id = if is_some (given_to overrides id) then None else Some id

abbrev pub free_spec_id : Source → ℕ → Option ℕ
free_spec_id s id = option_and_then (if_free s.overrides) (spec_id s.of.heads id)

-- bool, int and uint
abbrev pub is_scalar : Tree → Bool
is_scalar shape.boolean = true
is_scalar shape.int = true
is_scalar shape.uint = true
is_scalar _ = false

-- the instruction defines a constant; a global OpUndef is one
abbrev pub is_constant : Inst → Bool
is_constant g = is_constant_op g.op

-- the constant is a composite or calculated: it has no literal
abbrev pub has_literal : Source → Inst → Bool
has_literal s g = option_map_or is_scalar (type_tree s.of.globals g.ty) false && not (is g.op code.SpecConstantOp)

-- the reading of a constant with a SpecId that is not overridden: a part of the size of workgroups is read there
abbrev pub reading_by_part : Option ℕ → Reading
reading_by_part None = Named
reading_by_part (Some axis) = GroupSizePart axis

-- that of another
abbrev pub reading_by_literal : Bool → Reading
reading_by_literal has = if has then Plain else Named

abbrev pub reading_by_spec : Source → Inst → Option ℕ → Reading
reading_by_spec s g None = reading_by_literal (has_literal s g)
reading_by_spec s g (Some spec) = reading_by_part (position_from (λ (part : ℕ). part == g.result) 0 (size_ids s))

-- how the constant that an instruction defines is read
abbrev pub reading : Source → Inst → Reading
reading s g = if is_size_composite s.of.heads g then GroupSize else reading_by_spec s g (free_spec_id s g.result)

-- the literal of a scalar; a negative int has hexadecimal digits
abbrev pub int_literal : ℕ → Literal
int_literal w = if nat_lt w (2 ^ 31) then Int w else Hex w

abbrev pub scalar_literal : Tree → ValueTree → Literal
scalar_literal shape.int (word w) = int_literal w
scalar_literal _ (word w) = Uint w
scalar_literal _ (truth b) = Truth b
scalar_literal _ _ = Uint 0

-- the word that an override gives a constant
abbrev pub override_word : Source → ℕ → Option ℕ
override_word s id = option_and_then (λ spec. option_map word_given (given_to s.overrides spec)) (spec_id s.of.heads id)

-- the shape of a constant's type
abbrev pub constant_shape : Source → Inst → Tree
constant_shape s g = unwrap_or (type_tree s.of.globals g.ty) shape.uint

-- the value of a plain constant: its own, or that of its override; what is made of other constants has no literal
abbrev pub plain_value_by : Source → Inst → ConstantKind → ValueTree
plain_value_by s g Composite = word 0
plain_value_by s g Operation = word 0
plain_value_by s g kind = unwrap_or (value_by_kind (λ id. None) (override_word s g.result) (constant_shape s g) g.args kind) (word 0)

abbrev pub plain_value : Source → Inst → ValueTree
plain_value s g = plain_value_by s g (constant_kind g.op)

abbrev pub plain_literal : Source → Inst → Literal
plain_literal s g = scalar_literal (constant_shape s g) (plain_value s g)

-- the components of a vector of three
abbrev pub axis_text : ℕ → Text
axis_text axis = if axis == 0 then codes "x" else (if axis == 1 then codes "y" else codes "z")

abbrev pub group_size_text : Text
group_size_text = codes "gl_WorkGroupSize"

-- the expression by which a constant is read, where names are these
abbrev pub expr_by : Source → (ℕ → Text) → Inst → Reading → Expr
expr_by s names g Plain = literal (plain_literal s g)
expr_by s names g Named = name (names g.result)
expr_by s names g GroupSize = name group_size_text
expr_by s names g (GroupSizePart axis) = member (name group_size_text) (axis_text axis)

abbrev pub constant_expr : Source → (ℕ → Text) → Inst → Expr
constant_expr s names g = expr_by s names g (reading s g)

-- a part of the size of workgroups, under the overrides
abbrev pub overridden : SizePart → Option Given → SizePart
overridden part None = part
overridden part (Some given) = Fixed (word_given given)

abbrev pub size_now : List (ℕ × Given) → SizePart → SizePart
size_now overrides (Fixed n) = Fixed n
size_now overrides (Spec id default) = overridden (Spec id default) (given_to overrides id)

abbrev pub sizes_of : ℕ → SizePart → List Size
sizes_of axis (Fixed n) = record { axis = axis; by_id = false; number = n } ∷ []
sizes_of axis (Spec id default) = record { axis = axis; by_id = false; number = default } ∷ record { axis = axis; by_id = true; number = id } ∷ []

-- the line of the size of workgroups, of axis 0, 1 and 2
abbrev pub axes : List ℕ
axes = 0 ∷ 1 ∷ 2 ∷ []

abbrev pub sizes_by : List (ℕ × Given) → List SizePart → List Size
sizes_by overrides parts = flat_map (λ (p : ℕ × SizePart). sizes_of p.0 (size_now overrides p.1)) (zip axes parts)

abbrev pub sizes : Source → List Size
sizes s = sizes_by s.overrides (group_size s.of s.entry)

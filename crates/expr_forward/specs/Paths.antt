-- How a pointer is written: the name of what it leads from, and its steps (GLSL 4.60, sections 5.5 to 5.7).
use Rattle.std.specs.Prelude.{ℕ, ◌&&◌, nat_lt, Bool, true, false, List, [], ◌∷◌, Option, Some, None, option_and_then, unwrap_or, if◌then◌else◌, slice_index}
use Rattle.std.specs.Option.{option_map_or}
use Rattle.spv_ops.specs.Opcode.{is}
use Rattle.spv_ops.specs.declared.Op.{Op}
use Rattle.spv_ops.specs.declared.Op.TheVariants as code
use Rattle.spv_module.specs.Held.{global}
use Rattle.spv_module.specs.Lists.{id}
use Rattle.spv_module.specs.declared.inst.Id.{Id as IdOf}
use Rattle.spv_module.specs.declared.inst.Inst.{Inst}
use Rattle.profile_rules.specs.MemoryRules.{pointee_of}
use Rattle.spv_module.specs.declared.tree.Elem.{Elem}
use Rattle.spv_module.specs.declared.tree.Elem.TheVariants as elem
use Rattle.spv_types.specs.Types.{type_tree, elem_of}
use Rattle.name_alloc.specs.declared.claims.Key.TheVariants.{Id, Member, Captured}
use Rattle.access_paths.specs.declared.forms.Step.{Step}
use Rattle.access_paths.specs.declared.forms.Step.TheVariants as step
use Rattle.access_paths.specs.Ways.{Way, path}
use Rattle.glsl_ast.specs.Tree as text
use Rattle.glsl_ast.specs.Tree.{Text, Expr, name, literal, LStep, LValue, lvalue}
use Rattle.glsl_ast.specs.declared.expressions.Literal.TheVariants.{Int}
use Rattle.text_rules.specs.declared.readings.Reading.{Reading}
use Rattle.text_rules.specs.declared.readings.Reading.TheVariants.{Plain}
use Rattle.text_rules.specs.Constants.{is_constant, reading, plain_value}
use Rattle.text_rules.specs.Declarations.{word_of}
use Rattle.vec_lowering.specs.Component.{axis_name}
use Rattle.expr_forward.specs.Scope.{Setting, globals_in}

abbrev pub is_plain : Reading → Bool
is_plain Plain = true
is_plain _ = false

abbrev pub is_number : Option Elem → Bool
is_number (Some elem.Int) = true
is_number (Some elem.Uint) = true
is_number _ = false

-- the word of a scalar integer constant that is written as a literal
unfoldable pub literal_word : Setting → Inst → Option ℕ
literal_word w g =
    if is_constant g && (is_plain (reading w.source g) && is_number (option_and_then elem_of (type_tree (globals_in w) g.ty))) then Some (word_of (plain_value w.source g)) else None

abbrev pub word_at : Setting → ℕ → Option ℕ
word_at w n = option_and_then (literal_word w) (global (globals_in w) n)

-- an index is a constant or has a variable
abbrev pub index_expr : Setting → ℕ → Expr
index_expr w n = unwrap_or (w.global n) (name (w.key (Id (id n))))

-- the number of components of a vector type, and 0 of another: OpTypeVector
abbrev pub components : Inst → ℕ
components g = if is g.op code.TypeVector then slice_index g.args 1 else 0

abbrev pub vector_size_in : List Inst → ℕ → ℕ
vector_size_in gs ty = option_map_or components (global gs ty) 0

abbrev pub vector_size : Setting → ℕ → ℕ
vector_size w ty = vector_size_in (globals_in w) ty

-- a component by a literal below the size, and any other by an index
abbrev pub index_by : Setting → ℕ → ℕ → Option ℕ → LStep
index_by w size n (Some k) = if nat_lt k size then text.LStep.member (axis_name k) else text.LStep.index (index_expr w n)
index_by w size n None = text.LStep.index (index_expr w n)

-- an index that was captured where the chain stands
abbrev pub captured_text : Setting → IdOf → ℕ → LStep
captured_text w chain k = text.LStep.index (name (w.key (Captured chain k)))

abbrev pub step_text : Setting → ℕ → Step → LStep
step_text w ty (step.Member k) = text.LStep.member (w.key (Member (id ty) k))
step_text w ty (step.Index n) = index_by w (vector_size w ty) n.0 (word_at w n.0)
step_text w ty (step.Captured chain k) = captured_text w chain k

-- the type that a step leads to: of a member, or of an element or component
abbrev pub part : Step → ℕ
part (step.Member k) = k
part _ = 0

abbrev pub step_type : Setting → ℕ → Step → ℕ
step_type w ty s = option_map_or (λ (g : Inst). slice_index g.args (part s)) (global (globals_in w) ty) 0

abbrev pub steps_text : Setting → ℕ → List Step → List LStep
steps_text w ty [] = []
steps_text w ty (s ∷ ss) = step_text w ty s ∷ steps_text w (step_type w ty s) ss

-- the name of what a path leads from: that of what is built in, else its own
abbrev pub name_in : Expr → Text
name_in (name t) = t
name_in _ = []

abbrev pub base_text : Setting → ℕ → Text
base_text w n = option_map_or name_in (w.global n) (w.key (Id (id n)))

-- a path as the left side of an assignment, and as an expression
abbrev pub way_text : Setting → Way → LValue
way_text w p = lvalue (base_text w p.base) (steps_text w (unwrap_or (pointee_of (globals_in w) w.function p.base) 0) p.steps)

abbrev pub place_text : Setting → ℕ → ℕ → LValue
place_text w block pointer = way_text w (path (globals_in w) w.function block pointer)

abbrev pub further : Expr → List LStep → Expr
further e [] = e
further e (text.LStep.member m ∷ ss) = further (Expr.member e m) ss
further e (text.LStep.index i ∷ ss) = further (Expr.index e i) ss

-- the step from a composite to a part, by a literal: OpTypeVector, OpTypeStruct, and arrays
abbrev pub part_step_by : Setting → ℕ → ℕ → Op → LStep
part_step_by w ty k o =
    if is o code.TypeVector then text.LStep.member (axis_name k) else
    (if is o code.TypeStruct then text.LStep.member (w.key (Member (id ty) k)) else text.LStep.index (literal (Int k)))

-- the opcode of a composite's type; what is no type counts as an array
abbrev pub composite_op_in : List Inst → ℕ → Op
composite_op_in gs ty = option_map_or (λ (g : Inst). g.op) (global gs ty) code.TypeArray

abbrev pub part_step : Setting → ℕ → ℕ → LStep
part_step w ty k = part_step_by w ty k (composite_op_in (globals_in w) ty)

-- the type of the part
abbrev pub part_type_by : ℕ → Inst → ℕ
part_type_by k g = slice_index g.args (if is g.op code.TypeStruct then k else 0)

abbrev pub part_type_in : List Inst → ℕ → ℕ → ℕ
part_type_in gs ty k = option_map_or (part_type_by k) (global gs ty) 0

abbrev pub part_type : Setting → ℕ → ℕ → ℕ
part_type w ty k = part_type_in (globals_in w) ty k

abbrev pub part_steps : Setting → ℕ → List ℕ → List LStep
part_steps w ty [] = []
part_steps w ty (k ∷ ks) = part_step w ty k ∷ part_steps w (part_type w ty k) ks

abbrev pub lvalue_expr : LValue → Expr
lvalue_expr (lvalue n ss) = further (name n) ss

abbrev pub place_expr : Setting → ℕ → ℕ → Expr
place_expr w block pointer = lvalue_expr (place_text w block pointer)

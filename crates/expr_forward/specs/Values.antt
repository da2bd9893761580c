-- How a value is written: by the name of its variable, or by the expression of its operation.
use Rattle.std.specs.Prelude.{ℕ, zero, suc, List, [], ◌∷◌, drop, map, Option, Some, None, take, unwrap_or, slice_index}
use Rattle.spv_ops.specs.declared.Op.{Op}
use Rattle.spv_ops.specs.declared.Op.TheVariants as code
use Rattle.spv_module.specs.Lists.{id}
use Rattle.spv_module.specs.declared.inst.Inst.{Inst}
use Rattle.op_semantics.specs.Value.{not_extended}
use Rattle.profile_rules.specs.MemoryRules.{pointee_of}
use Rattle.name_alloc.specs.declared.claims.Key.TheVariants.{Id, Member}
use Rattle.hoist_plan.specs.declared.form.Form.{Form}
use Rattle.hoist_plan.specs.declared.form.Form.TheVariants.{Forwarded}
use Rattle.glsl_ast.specs.Tree as text
use Rattle.glsl_ast.specs.Tree.{Expr, name, build, exprs_in, type_name}
use Rattle.text_rules.specs.Outlines.{basic}
use Rattle.text_rules.specs.Declarations.{shape_at, type_at, zero_at}
pub use Rattle.expr_forward.specs.Kinds.{operation_kind_of}
use Rattle.expr_forward.specs.declared.kinds.OperationKind.{OperationKind}
use Rattle.expr_forward.specs.declared.kinds.OperationKind.TheVariants as kind
use Rattle.expr_forward.specs.Scope.{Scope, Argument, globals, inst_at, type_of}
use Rattle.expr_forward.specs.Paths.{word_at, further, part_steps, place_expr}

-- a variable's name
abbrev pub variable : Scope → ℕ → Expr
variable w n = name (w.setting.key (Id (id n)))

-- an operand of an operation on scalars and vectors, where values are written so
abbrev pub argument : Scope → (ℕ → Expr) → ℕ → Argument
argument w value n = record { expr = value n; shape = basic (globals w) (type_of w n); word = word_at w.setting n }

-- the words of an instruction that are values, and those that are literals: OpVectorShuffle has both
abbrev pub value_words : Op → List ℕ → List ℕ
value_words code.VectorShuffle args = take 2 args
value_words _ args = args

abbrev pub literal_words : Op → List ℕ → List ℕ
literal_words code.VectorShuffle args = drop 2 args
literal_words _ args = []

-- an operation on scalars and vectors
abbrev pub operation_text : Scope → (ℕ → Expr) → ℕ → Inst → List ℕ → Expr
operation_text w value number i args =
    w.lowered i.op number (basic (globals w) i.ty) (map (argument w value) (value_words i.op args)) (literal_words i.op args)

-- the number of elements of a runtime array: a member of a block
abbrev pub length_text : Scope → ℕ → Inst → Expr
length_text w block i =
    build (type_name text.uint []) (exprs_in (Expr.length_of (Expr.member (place_expr w.setting block (slice_index i.args 0))
    (w.setting.key (Member (id (unwrap_or (pointee_of (globals w) w.setting.function (slice_index i.args 0)) 0)) (slice_index i.args 1)))) ∷ []))

-- a part of a composite, by literals
abbrev pub extraction_text : Scope → (ℕ → Expr) → Inst → Expr
extraction_text w value i =
    further (value (slice_index i.args 0)) (part_steps w.setting (type_of w (slice_index i.args 0)) (drop 1 i.args))

-- a constructor of the operands
abbrev pub construction_text : Scope → (ℕ → Expr) → Inst → Expr
construction_text w value i = build (type_at w.setting.source w.names i.ty) (exprs_in (map value i.args))

-- a value as one of a type with other structs
abbrev pub whole_argument : Scope → (ℕ → Expr) → ℕ → Argument
whole_argument w value n = record { expr = value n; shape = shape_at w.setting.source (type_of w n); word = None }

abbrev pub logical_copy_text : Scope → (ℕ → Expr) → Inst → Expr
logical_copy_text w value i =
    w.lowered i.op not_extended (shape_at w.setting.source i.ty) (whole_argument w value (slice_index i.args 0) ∷ []) []

abbrev pub by_kind : Scope → (ℕ → Expr) → ℕ → Inst → OperationKind → Expr
by_kind w value block i kind.Undef = zero_at w.setting.source w.names i.ty
by_kind w value block i kind.CopyObject = value (slice_index i.args 0)
by_kind w value block i kind.ArrayLength = length_text w block i
by_kind w value block i kind.CompositeExtract = extraction_text w value i
by_kind w value block i kind.CompositeConstruct = construction_text w value i
by_kind w value block i kind.CopyLogical = logical_copy_text w value i
by_kind w value block i kind.Extended = operation_text w value (slice_index i.args 1) i (drop 2 i.args)
by_kind w value block i kind.Plain = operation_text w value not_extended i i.args
by_kind w value block i kind.Other = variable w i.result

abbrev pub expression : Scope → (ℕ → Expr) → ℕ → Inst → Expr
expression w value block i = by_kind w value block i (operation_kind_of i.op)

-- a result without a variable stands in the expression that mentions it
abbrev pub forwarded : Scope → (ℕ → Expr) → ℕ → ℕ → Option Inst → Expr
forwarded w value block n None = variable w n
forwarded w value block n (Some i) = expression w value block i

abbrev pub by_form : Scope → (ℕ → Expr) → ℕ → ℕ → Form → Expr
by_form w value block n Forwarded = forwarded w value block n (inst_at w n)
by_form w value block n _ = variable w n

-- the value with an id, in a block: expressions stand so deep in one another at most
unfoldable pub value_in : Scope → ℕ → ℕ → ℕ → Expr
value_in w block zero n = variable w n
value_in w block (suc deep) n = unwrap_or (w.setting.global n) (by_form w (value_in w block deep) block n (w.form n))

abbrev pub deepest : ℕ
deepest = 17

abbrev pub value : Scope → ℕ → ℕ → Expr
value w block n = value_in w block deepest n

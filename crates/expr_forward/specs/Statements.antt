-- The statements of a block, an instruction after the other.
use Rattle.std.specs.Prelude.{ℕ, ◌==◌, ◌&&◌, bit_and, Bool, true, false, List, [], ◌∷◌, ◌++◌, codes, drop, flat_map, map, is_some, Some, option_and_then, unwrap_or, if◌then◌else◌, slice_get, slice_index}
use Rattle.std.specs.Option.{option_map_or}
use Rattle.spv_ops.specs.Opcode.{is}
use Rattle.spv_ops.specs.Groups.{is_chain}
use Rattle.spv_ops.specs.declared.Op.{Op}
use Rattle.spv_ops.specs.declared.Op.TheVariants as code
use Rattle.spv_ops.specs.declared.AtomicOp.{AtomicOp}
use Rattle.spv_ops.specs.declared.AtomicOp.TheVariants as atomic
use Rattle.spv_module.specs.Held.{global}
use Rattle.spv_module.specs.Lists.{id}
use Rattle.spv_module.specs.declared.inst.Inst.{Inst}
use Rattle.spv_module.specs.declared.inst.Block.{Block}
use Rattle.spv_module.specs.declared.tree.Elem.{Elem}
use Rattle.spv_module.specs.declared.tree.Elem.TheVariants as elem
use Rattle.spv_types.specs.Types.{type_tree, elem_of}
use Rattle.profile_rules.specs.MemoryRules.{pointee_of}
use Rattle.name_alloc.specs.declared.claims.Key.TheVariants.{Id, Captured}
use Rattle.hoist_plan.specs.declared.form.Form.{Form}
use Rattle.hoist_plan.specs.declared.form.Form.TheVariants.{Local, Hoisted}
use Rattle.access_paths.specs.Ways.{captured_indexes}
use Rattle.glsl_ast.specs.Tree as text
use Rattle.glsl_ast.specs.Tree.{Text, Expr, literal, binary, exprs_in, Stmt, declare, assign, LStep, lvalue}
use Rattle.glsl_ast.specs.declared.expressions.BinOp.TheVariants.{Sub}
use Rattle.int_lowering.specs.Operand.{literal_of}
use Rattle.expr_forward.specs.declared.kinds.InstKind.{InstKind}
use Rattle.expr_forward.specs.declared.kinds.InstKind.TheVariants as kind
use Rattle.expr_forward.specs.Scope.{Scope, globals}
use Rattle.text_rules.specs.Declarations.{type_at}
use Rattle.expr_forward.specs.Paths.{index_expr, word_at, part_steps, place_text, place_expr}
use Rattle.expr_forward.specs.Values.{value, expression}
pub use Rattle.expr_forward.specs.Kinds.{kind_of}

-- the result gets a value: its variable is declared here, or was declared at the top of the function
abbrev pub set_by : Scope → Inst → Expr → Form → List Stmt
set_by w i e Local = declare (type_at w.setting.source w.names i.ty) (w.setting.key (Id (id i.result))) (Some e) ∷ []
set_by w i e Hoisted = assign (lvalue (w.setting.key (Id (id i.result))) []) e ∷ []
set_by w i e _ = []

abbrev pub set : Scope → Inst → Expr → List Stmt
set w i e = set_by w i e (w.form i.result)

-- an argument of a call: a pointer is written as its place
abbrev pub call_argument : Scope → ℕ → ℕ → Expr
call_argument w block n = if is_some (pointee_of (globals w) w.setting.function n) then place_expr w.setting block n else value w block n

abbrev pub call_arguments : Scope → ℕ → Inst → List Expr
call_arguments w block i = map (call_argument w block) (drop 1 i.args)

-- OpTypeVoid
abbrev pub is_void_in : List Inst → ℕ → Bool
is_void_in gs ty = option_map_or (λ (g : Inst). is g.op code.TypeVoid) (global gs ty) false

abbrev pub is_void : Scope → ℕ → Bool
is_void w ty = is_void_in (globals w) ty

abbrev pub callee_text : Scope → Inst → Text
callee_text w i = w.setting.key (Id (id (slice_index i.args 0)))

abbrev pub call_text : Scope → ℕ → Inst → List Stmt
call_text w block i =
    if is_void w i.ty then Stmt.call (callee_text w i) (exprs_in (call_arguments w block i)) ∷ []
    else set w i (Expr.call (callee_text w i) (exprs_in (call_arguments w block i)))

-- the scalar type with an id, and uint of another
abbrev pub scalar_at : Scope → ℕ → Elem
scalar_at w ty = unwrap_or (option_and_then elem_of (type_tree (globals w) ty)) elem.Uint

-- the literal of a word in the type of what a pointer points to
unfoldable pub word_by : Scope → ℕ → ℕ → Expr
word_by w pointer n = literal (literal_of (scalar_at w (unwrap_or (pointee_of (globals w) w.setting.function pointer) 0)) n)

abbrev pub word_at_place : Scope → Inst → ℕ → Expr
word_at_place w i n = word_by w (slice_index i.args 0) n

-- the function of an atomic instruction, one for numbers with and without a sign (GLSL 4.60, section 8.11)
abbrev pub atomic_name : AtomicOp → Text
atomic_name atomic.Load = codes "atomicAdd"
atomic_name atomic.Store = codes "atomicExchange"
atomic_name atomic.Exchange = codes "atomicExchange"
atomic_name atomic.CompareExchange = codes "atomicCompSwap"
atomic_name atomic.IIncrement = codes "atomicAdd"
atomic_name atomic.IDecrement = codes "atomicAdd"
atomic_name atomic.IAdd = codes "atomicAdd"
atomic_name atomic.ISub = codes "atomicAdd"
atomic_name atomic.SMin = codes "atomicMin"
atomic_name atomic.UMin = codes "atomicMin"
atomic_name atomic.SMax = codes "atomicMax"
atomic_name atomic.UMax = codes "atomicMax"
atomic_name atomic.And = codes "atomicAnd"
atomic_name atomic.Or = codes "atomicOr"
atomic_name atomic.Xor = codes "atomicXor"

abbrev pub atomic_value : Scope → ℕ → Inst → Expr
atomic_value w block i = value w block (slice_index i.args 3)

-- it has a comparator; it has a result
abbrev pub compares : AtomicOp → Bool
compares atomic.CompareExchange = true
compares _ = false

abbrev pub has_result : AtomicOp → Bool
has_result atomic.Store = false
has_result _ = true

-- what stands behind the place: of OpAtomicCompareExchange the comparator first
abbrev pub comparator : Scope → ℕ → Inst → AtomicOp → List Expr
comparator w block i a = if compares a then value w block (slice_index i.args 5) ∷ [] else []

-- OpAtomicLoad adds 0, OpAtomicIIncrement 1, OpAtomicIDecrement the greatest word, and OpAtomicISub the negated operand
abbrev pub atomic_operand : Scope → ℕ → Inst → AtomicOp → Expr
atomic_operand w block i atomic.Load = word_at_place w i 0
atomic_operand w block i atomic.IIncrement = word_at_place w i 1
atomic_operand w block i atomic.IDecrement = word_at_place w i 0xFFFFFFFF
atomic_operand w block i atomic.ISub = binary Sub (word_at_place w i 0) (atomic_value w block i)
atomic_operand w block i atomic.CompareExchange = value w block (slice_index i.args 4)
atomic_operand w block i _ = atomic_value w block i

abbrev pub atomic_arguments : Scope → ℕ → Inst → AtomicOp → List Expr
atomic_arguments w block i a = (place_expr w.setting block (slice_index i.args 0) ∷ comparator w block i a) ++ (atomic_operand w block i a ∷ [])

abbrev pub atomic_text : Scope → ℕ → Inst → AtomicOp → List Stmt
atomic_text w block i a =
    if has_result a then set w i (Expr.call (atomic_name a) (exprs_in (atomic_arguments w block i a)))
    else Stmt.call (atomic_name a) (exprs_in (atomic_arguments w block i a)) ∷ []

-- a call of a function without arguments
abbrev pub bare_call : Text → List Stmt
bare_call f = Stmt.call f (exprs_in []) ∷ []

abbrev pub when_bit : ℕ → ℕ → Text → List Stmt
when_bit semantics bit f = if bit_and semantics bit == 0 then [] else bare_call f

-- UniformMemory is bit 0x40, WorkgroupMemory bit 0x100
abbrev pub memory_barrier : ℕ → List Stmt
memory_barrier semantics = when_bit semantics 0x40 (codes "memoryBarrierBuffer") ++ when_bit semantics 0x100 (codes "memoryBarrierShared")

abbrev pub semantics : Scope → ℕ → ℕ
semantics w n = unwrap_or (word_at w.setting n) 0

-- OpMemoryBarrier, and OpControlBarrier
abbrev pub memory_barrier_text : Scope → Inst → List Stmt
memory_barrier_text w i = memory_barrier (semantics w (slice_index i.args 1))

abbrev pub control_barrier_text : Scope → Inst → List Stmt
control_barrier_text w i = memory_barrier (semantics w (slice_index i.args 2)) ++ bare_call (codes "barrier")

-- the indexes of a chain that other blocks need
abbrev pub capture : Scope → Inst → ℕ × ℕ → Stmt
capture w i n = assign (lvalue (w.setting.key (Captured (id i.result) n.0)) []) (index_expr w.setting n.1)

abbrev pub captured_of : Scope → Inst → List (ℕ × ℕ)
captured_of w i = if is_chain i.op && w.carried i.result then captured_indexes (globals w) i else []

abbrev pub chain_text : Scope → Inst → List Stmt
chain_text w i = map (capture w i) (captured_of w i)

-- a copy of a composite, and an assignment to a part of it
abbrev pub insert_text : Scope → ℕ → Inst → ℕ → List LStep → ℕ → List Stmt
insert_text w block i composite steps object =
    set w i (value w block composite) ++ (assign (lvalue (w.setting.key (Id (id i.result))) steps) (value w block object) ∷ [])

abbrev pub is_variable_form : Form → Bool
is_variable_form Local = true
is_variable_form Hoisted = true
is_variable_form _ = false

abbrev pub insert_where_named : Scope → ℕ → Inst → ℕ → List LStep → ℕ → List Stmt
insert_where_named w block i composite steps object =
    if is_variable_form (w.form i.result) then insert_text w block i composite steps object else []

-- the value of an operation
abbrev pub set_value : Scope → ℕ → Inst → List Stmt
set_value w block i = set w i (expression w (value w block) block i)

abbrev pub inst_text : Scope → ℕ → Inst → InstKind → List Stmt
inst_text w block i kind.Load = set w i (place_expr w.setting block (slice_index i.args 0))
inst_text w block i kind.Store = assign (place_text w.setting block (slice_index i.args 0)) (value w block (slice_index i.args 1)) ∷ []
inst_text w block i kind.Call = call_text w block i
inst_text w block i (kind.Atomic a) = atomic_text w block i a
inst_text w block i kind.ControlBarrier = control_barrier_text w i
inst_text w block i kind.MemoryBarrier = memory_barrier_text w i
inst_text w block i kind.Chain = chain_text w i
inst_text w block i kind.CompositeInsert =
    insert_where_named w block i (slice_index i.args 1) (part_steps w.setting i.ty (drop 2 i.args)) (slice_index i.args 0)
inst_text w block i kind.VectorInsertDynamic =
    insert_where_named w block i (slice_index i.args 0) (text.LStep.index (value w block (slice_index i.args 2)) ∷ []) (slice_index i.args 1)
inst_text w block i (kind.Value _) = set_value w block i
inst_text w block i kind.Silent = []

-- the instructions of a block
abbrev pub insts_at : Scope → ℕ → List Inst
insts_at w block = option_map_or (λ (b : Block). b.insts) (slice_get w.setting.function.blocks block) []

-- the statements of a block before its terminator
abbrev pub block_text : Scope → ℕ → List Stmt
block_text w block = flat_map (λ (i : Inst). inst_text w block i (kind_of i.op)) (insts_at w block)

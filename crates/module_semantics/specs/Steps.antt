-- What each instruction does (SPIR-V 1.6, section "Instructions"). A step runs one instruction; the phis of a block go with the edge to it. It has no meaning where a division is by zero or of the smallest number by -1, an index leads past its type, a bit field past its word, an id or a constant without a value is read, or OpUnreachable is reached.
use Rattle.std.specs.Prelude.{ℕ, ◌==◌, ◌&&◌, bit_and, Bool, true, false, List, [], ◌∷◌, ◌++◌, drop, length, map, Option, Some, None, option_map, option_and_then, if◌then◌else◌, slice_get, slice_index, take_while}
use Rattle.spv_ops.specs.Opcode.{is}
use Rattle.spv_ops.specs.Groups.{is_chain}
use Rattle.spv_ops.specs.OpGroups.{group_of}
use Rattle.spv_ops.specs.declared.OpGroup.{OpGroup}
use Rattle.spv_ops.specs.declared.OpGroup.TheVariants as groups
use Rattle.spv_ops.specs.declared.AtomicOp.{AtomicOp}
use Rattle.spv_ops.specs.declared.AtomicOp.TheVariants as atomics
use Rattle.spv_ops.specs.declared.Terminator.{Terminator}
use Rattle.spv_ops.specs.declared.Terminator.TheVariants as ends
use Rattle.spv_ops.specs.declared.Op.{Op}
use Rattle.spv_ops.specs.declared.Op.TheVariants as code
use Rattle.spv_module.specs.declared.inst.Id.{Id}
use Rattle.spv_module.specs.declared.inst.Inst.{Inst}
use Rattle.spv_module.specs.declared.inst.Block.{Block}
use Rattle.spv_module.specs.declared.inst.Function.{Function}
use Rattle.spv_types.specs.Tree.{Tree, ValueTree, word}
use Rattle.spv_types.specs.Types.{type_tree}
use Rattle.spv_index.specs.Locals.{insts_of, block_in}
use Rattle.op_semantics.specs.declared.operation.Unary.TheVariants.{SNegate}
use Rattle.op_semantics.specs.Word.{unary_word, all_ones}
use Rattle.op_semantics.specs.Component.{each_one}
use Rattle.op_semantics.specs.Composite.{extracted, inserted}
use Rattle.op_semantics.specs.Value.{op_value}
use Rattle.profile_rules.specs.Entry.{function_of}
use Rattle.profile_rules.specs.MemoryRules.{pointee_of}
use Rattle.value_words.specs.Words.{words_of, value_from}
use Rattle.traces.specs.Events as event
use Rattle.traces.specs.Events.{AtomicOperation, Event, reading, updating}
use Rattle.traces.specs.Runs.{Act, goes, asks, stops, fails}
use Rattle.module_semantics.specs.Setting.{Setting}
use Rattle.module_semantics.specs.Memory.{location, locations, shape_along, are_allowed, elements}
use Rattle.module_semantics.specs.State.{own, lent, Held, value, pointer, Frame, Conf, put, with_top}
use Rattle.module_semantics.specs.Operands.{held, value_at, word_at, truth_at, Target, pointer_at, arg, value_operands, literal_operands, values_at, words_at}
use Rattle.module_semantics.specs.Accesses.{initial_in, seen, kept, keeping}

-- no meaning where there is none of this
abbrev pub with_some : {A : Type 0} → Option A → (A → Act Conf) → Act Conf
with_some None f = fails
with_some (Some a) f = f a

-- on behind the instruction, and with this as its result
abbrev pub advanced : Conf → List Inst → Conf
advanced c rest = with_top c (record c.top { rest = rest })

abbrev pub set : Conf → List Inst → Inst → Held → Conf
set c rest i h = with_top c (record c.top { rest = rest; ids = put c.top.ids i.result h })

abbrev pub set_value : Conf → List Inst → Inst → ValueTree → Conf
set_value c rest i v = set c rest i (value v)

-- Operations: the result is that of the operands.
abbrev pub computed : Setting → Frame → Inst → Option ValueTree
computed s f i = option_and_then (λ (t : Tree). option_and_then (op_value i.op t (literal_operands i.op i.args)) (values_at s f (value_operands i.op i.args))) (type_tree s.of.globals i.ty)

unfoldable pub operation_step : Setting → Conf → List Inst → Inst → Act Conf
operation_step s c rest i = with_some (computed s c.top i) (λ v. goes [] (set_value c rest i v))

-- OpAccessChain, OpInBoundsAccessChain: the result leads further than the base. Chains based on this one, directly or through others, have nothing until they are set again.
abbrev pub base : Inst → ℕ
base i = arg i 0

abbrev pub with_based : ℕ → (ℕ → Bool) → Inst → ℕ → Bool
with_based chain based i id = elim (is_chain i.op && (i.result == id)) [ true ↦ elim (base i == chain) [ true ↦ true | false ↦ based (base i) ] | false ↦ based id ]

abbrev pub based_among : ℕ → (ℕ → Bool) → List Inst → ℕ → Bool
based_among chain based [] = based
based_among chain based (i ∷ is) = based_among chain (with_based chain based i) is

abbrev pub is_based_on : Function → ℕ → ℕ → Bool
is_based_on f chain = based_among chain (λ id. false) (insts_of f)

abbrev pub without_based : Function → ℕ → (ℕ → Option Held) → ℕ → Option Held
without_based f chain ids id = elim (is_based_on f chain id) [ true ↦ None | false ↦ ids id ]

abbrev pub lead : Conf → List Inst → Inst → Target → List ℕ → Conf
lead c rest i p indexes =
    with_top c (record c.top { rest = rest; ids = put (without_based c.top.function i.result c.top.ids) i.result (pointer p.0 (p.1 ++ indexes)) })

abbrev pub lead_if : Bool → Conf → List Inst → Inst → Target → List ℕ → Act Conf
lead_if true c rest i p indexes = goes [] (lead c rest i p indexes)
lead_if false c rest i p indexes = fails

unfoldable pub chain_step : Setting → Conf → List Inst → Inst → Act Conf
chain_step s c rest i =
    with_some (pointer_at s c.top (base i)) (λ p.
    with_some (words_at s c.top (drop 1 i.args)) (λ indexes.
    with_some (pointee_of s.of.globals c.top.function (base i)) (λ ty.
    lead_if (are_allowed s ty indexes) c rest i p indexes)))

-- OpArrayLength: of a block variable and the number of its member.
unfoldable pub length_step : Setting → Conf → List Inst → Inst → Act Conf
length_step s c rest i =
    with_some (pointer_at s c.top (arg i 0)) (λ p. with_some (seen s p.0) (λ v. goes [] (set_value c rest i (word (elements s v (arg i 1))))))

-- OpVariable in a function: its result is a pointer to it; it has had its first value since the call.
unfoldable pub variable_step : Setting → Conf → List Inst → Inst → Act Conf
variable_step s c rest i = with_some (c.top.variables i.result) (λ v. goes [] (set c rest i (pointer (own i.result) [])))

-- OpLoad: of a variable that others see, an event whose words come from outside.
abbrev pub read_shape : Setting → Conf → List Inst → Inst → Inst → Target → Tree → Act Conf
read_shape s c rest i v p t = asks (reading (locations s v p.1)) (λ words. set_value c rest i (value_from t words))

abbrev pub load_from : Setting → Conf → List Inst → Inst → Target → Option Inst → Act Conf
load_from s c rest i p (Some v) = with_some (shape_along s v p.1) (read_shape s c rest i v p)
load_from s c rest i p None = with_some (option_and_then (extracted p.1) (kept s c p.0)) (λ v. goes [] (set_value c rest i v))

unfoldable pub load_step : Setting → Conf → List Inst → Inst → Act Conf
load_step s c rest i = with_some (pointer_at s c.top (arg i 0)) (λ p. load_from s c rest i p (seen s p.0))

-- OpStore
abbrev pub store_to : Setting → Conf → List Inst → Target → ValueTree → Option Inst → Act Conf
store_to s c rest p v (Some var) = goes (event.write (locations s var p.1) (words_of v) ∷ []) (advanced c rest)
store_to s c rest p v None = with_some (option_and_then (inserted v p.1) (kept s c p.0)) (λ whole. goes [] (keeping p.0 whole (advanced c rest)))

unfoldable pub store_step : Setting → Conf → List Inst → Inst → Act Conf
store_step s c rest i =
    with_some (pointer_at s c.top (arg i 0)) (λ p. with_some (value_at s c.top (arg i 1)) (λ v. store_to s c rest p v (seen s p.0)))

-- Atomic instructions: a load adds 0, a store exchanges, an increment adds 1, a decrement the greatest word, and a difference the negated operand.
abbrev pub atomic_operation : AtomicOp → AtomicOperation
atomic_operation atomics.Load = event.add
atomic_operation atomics.Store = event.exchange
atomic_operation atomics.Exchange = event.exchange
atomic_operation atomics.CompareExchange = event.compare_exchange
atomic_operation atomics.IIncrement = event.add
atomic_operation atomics.IDecrement = event.add
atomic_operation atomics.IAdd = event.add
atomic_operation atomics.ISub = event.add
atomic_operation atomics.SMin = event.signed_min
atomic_operation atomics.UMin = event.unsigned_min
atomic_operation atomics.SMax = event.signed_max
atomic_operation atomics.UMax = event.unsigned_max
atomic_operation atomics.And = event.bit_and
atomic_operation atomics.Or = event.bit_or
atomic_operation atomics.Xor = event.bit_xor

abbrev pub negated : List ℕ → List ℕ
negated words = map (unary_word SNegate) words

-- the operands of the event: of OpAtomicCompareExchange the comparator and then the value
abbrev pub atomic_operands : AtomicOp → Setting → Frame → Inst → Option (List ℕ)
atomic_operands atomics.Load s f i = Some (0 ∷ [])
atomic_operands atomics.IIncrement s f i = Some (1 ∷ [])
atomic_operands atomics.IDecrement s f i = Some (all_ones ∷ [])
atomic_operands atomics.ISub s f i = option_map negated (words_at s f (arg i 3 ∷ []))
atomic_operands atomics.CompareExchange s f i = words_at s f (arg i 5 ∷ arg i 4 ∷ [])
atomic_operands atomics.Store s f i = words_at s f (arg i 3 ∷ [])
atomic_operands atomics.Exchange s f i = words_at s f (arg i 3 ∷ [])
atomic_operands atomics.IAdd s f i = words_at s f (arg i 3 ∷ [])
atomic_operands atomics.SMin s f i = words_at s f (arg i 3 ∷ [])
atomic_operands atomics.UMin s f i = words_at s f (arg i 3 ∷ [])
atomic_operands atomics.SMax s f i = words_at s f (arg i 3 ∷ [])
atomic_operands atomics.UMax s f i = words_at s f (arg i 3 ∷ [])
atomic_operands atomics.And s f i = words_at s f (arg i 3 ∷ [])
atomic_operands atomics.Or s f i = words_at s f (arg i 3 ∷ [])
atomic_operands atomics.Xor s f i = words_at s f (arg i 3 ∷ [])

-- what was found is the result, where the instruction has one
abbrev pub set_found : Conf → List Inst → Inst → AtomicOp → List ℕ → Conf
set_found c rest i atomics.Store words = advanced c rest
set_found c rest i _ words = set_value c rest i (word (slice_index words 0))

unfoldable pub atomic_step : AtomicOp → Setting → Conf → List Inst → Inst → Act Conf
atomic_step o s c rest i =
    with_some (pointer_at s c.top (arg i 0)) (λ p.
    with_some (seen s p.0) (λ v.
    with_some (atomic_operands o s c.top i) (λ operands.
    asks (updating (atomic_operation o) (location s v p.1) operands) (set_found c rest i o))))

-- OpMemoryBarrier, OpControlBarrier: by the bits UniformMemory and WorkgroupMemory of the semantics (section 3.25).
abbrev pub when_bit : ℕ → ℕ → Event → List Event
when_bit semantics bit e = if bit_and semantics bit == 0 then [] else e ∷ []

abbrev pub memory_barriers : ℕ → List Event
memory_barriers semantics = when_bit semantics 0x40 event.buffer_barrier ++ when_bit semantics 0x100 event.shared_barrier

unfoldable pub memory_barrier_step : Setting → Conf → List Inst → Inst → Act Conf
memory_barrier_step s c rest i = with_some (word_at s c.top (arg i 1)) (λ w. goes (memory_barriers w) (advanced c rest))

unfoldable pub control_barrier_step : Setting → Conf → List Inst → Inst → Act Conf
control_barrier_step s c rest i = with_some (word_at s c.top (arg i 2)) (λ w. goes (memory_barriers w ++ event.control_barrier ∷ []) (advanced c rest))

-- The block that a label begins: its phis, which go with the edge, and what is behind them.
abbrev pub is_phi : Inst → Bool
is_phi i = is i.op code.Phi

abbrev pub phis : Block → List Inst
phis b = take_while is_phi b.insts

abbrev pub behind_phis : Block → List Inst
behind_phis b = drop (length (phis b)) b.insts

-- OpFunctionCall: a call begins with nothing but its parameters. A pointer to a variable of the caller is one to a variable of a call below.
abbrev pub passed : ℕ → Held → Held
passed depth (pointer (own id) path) = pointer (lent depth id) path
passed depth h = h

abbrev pub argument_of : List (Id × Id) → List Held → ℕ → Option Held
argument_of (p ∷ ps) (h ∷ hs) id = elim (p.0.0 == id) [ true ↦ Some h | false ↦ argument_of ps hs id ]
argument_of _ _ id = None

abbrev pub first_insts : List Block → List Inst
first_insts [] = []
first_insts (b ∷ bs) = behind_phis b

-- the first moment of a call with these arguments
unfoldable pub entered : Setting → Function → List Held → Frame
entered s f arguments = record { function = f; block = 0; rest = first_insts f.blocks; ids = argument_of f.params arguments; variables = initial_in s f }

abbrev pub called : Setting → Conf → List Inst → Inst → Function → List Held → Conf
called s c rest i f arguments = record c { top = entered s f (map (passed (length c.below)) arguments); below = (record c.top { rest = rest }, i.result) ∷ c.below }

unfoldable pub call_step : Setting → Conf → List Inst → Inst → Act Conf
call_step s c rest i =
    with_some (function_of s.of.functions (arg i 0)) (λ f. with_some (each_one (held s c.top) (drop 1 i.args)) (λ arguments. goes [] (called s c rest i f arguments)))

-- OpReturn, OpReturnValue: the call below goes on; the run ends with the first call.
unfoldable pub return_step : Conf → List (Frame × ℕ) → Act Conf
return_step c [] = stops
return_step c (b ∷ below) = goes [] (record c { top = b.0; below = below })

abbrev pub given : ValueTree → Frame × ℕ → Frame
given v b = record b.0 { ids = put b.0.ids b.1 (value v) }

abbrev pub given_to : ValueTree → Conf → List (Frame × ℕ) → Act Conf
given_to v c [] = stops
given_to v c (b ∷ below) = goes [] (record c { top = given v b; below = below })

unfoldable pub return_value_step : Setting → Conf → Inst → Act Conf
return_value_step s c i = with_some (value_at s c.top (arg i 0)) (λ v. given_to v c c.below)

-- OpBranch, OpBranchConditional, OpSwitch: the label to which control goes, by the first literal that equals the selector, or the default.
abbrev pub case_label : ℕ → ℕ → List ℕ → ℕ
case_label w default (literal ∷ label ∷ more) = elim (literal == w) [ true ↦ label | false ↦ case_label w default more ]
case_label w default _ = default

abbrev pub target_label : Terminator → Setting → Frame → Inst → Option ℕ
target_label ends.Branch s f i = Some (arg i 0)
target_label ends.BranchConditional s f i = option_map (λ b. if b then arg i 1 else arg i 2) (truth_at s f (arg i 0))
target_label ends.Switch s f i = option_map (λ w. case_label w (arg i 1) (drop 2 i.args)) (word_at s f (arg i 0))
target_label ends.Return s f i = None
target_label ends.ReturnValue s f i = None
target_label ends.Unreachable s f i = None

-- what a phi takes from the block with this label
abbrev pub source_from : ℕ → List ℕ → Option ℕ
source_from from (id ∷ label ∷ more) = elim (label == from) [ true ↦ Some id | false ↦ source_from from more ]
source_from from _ = None

abbrev pub phi_value : Setting → Frame → ℕ → Inst → Option ValueTree
phi_value s f from i = option_and_then (value_at s f) (source_from from i.args)

abbrev pub with_phis : List Inst → List ValueTree → (ℕ → Option Held) → ℕ → Option Held
with_phis (i ∷ is) (v ∷ vs) ids = put (with_phis is vs ids) i.result (value v)
with_phis _ _ ids = ids

-- the label of the present block
abbrev pub label_of : Option Block → ℕ
label_of None = 0
label_of (Some b) = b.label.0

abbrev pub present_label : Frame → ℕ
present_label f = label_of (slice_get f.function.blocks f.block)

-- control goes to this block, at this place, and all its phis take the values from before
abbrev pub gone_to : Conf → ℕ → Block → List ValueTree → Conf
gone_to c t b values = with_top c (record c.top { block = t; rest = behind_phis b; ids = with_phis (phis b) values c.top.ids })

unfoldable pub edge_step : Setting → Conf → ℕ → Act Conf
edge_step s c label =
    with_some (block_in c.top.function label) (λ t.
    with_some (slice_get c.top.function.blocks t) (λ b.
    with_some (each_one (phi_value s c.top (present_label c.top)) (phis b)) (λ values.
    goes [] (gone_to c t b values))))

unfoldable pub branch_step : Terminator → Setting → Conf → Inst → Act Conf
branch_step o s c i = with_some (target_label o s c.top i) (edge_step s c)

-- what kind of step an instruction is
pub data StepKind : Type 0 where
  operation : StepKind
  chain : StepKind
  array_length : StepKind
  variable : StepKind
  load : StepKind
  store : StepKind
  atomic : AtomicOp → StepKind
  memory_barrier : StepKind
  control_barrier : StepKind
  call : StepKind
  merge : StepKind
  branch : Terminator → StepKind
  return : StepKind
  return_value : StepKind
  unreachable : StepKind

abbrev pub step_at_end : Terminator → StepKind
step_at_end ends.Branch = branch ends.Branch
step_at_end ends.BranchConditional = branch ends.BranchConditional
step_at_end ends.Switch = branch ends.Switch
step_at_end ends.Return = return
step_at_end ends.ReturnValue = return_value
step_at_end ends.Unreachable = unreachable

-- what is no operation, and stands in no block behind its phis, has no value as one
abbrev pub step_in : OpGroup → StepKind
step_in groups.Debug = operation
step_in groups.Head = operation
step_in groups.Type = operation
step_in groups.Truth = operation
step_in groups.Number = operation
step_in groups.Composite = operation
step_in groups.AnyConstant = operation
step_in groups.Undef = operation
step_in groups.Function = operation
step_in groups.Variable = variable
step_in groups.Load = load
step_in groups.Store = store
step_in groups.Chain = chain
step_in groups.ArrayLength = array_length
step_in groups.CopyObject = operation
step_in groups.CopyLogical = operation
step_in groups.Bitcast = operation
step_in groups.VectorExtractDynamic = operation
step_in groups.VectorInsertDynamic = operation
step_in groups.VectorShuffle = operation
step_in groups.CompositeConstruct = operation
step_in groups.CompositeExtract = operation
step_in groups.CompositeInsert = operation
step_in groups.Arithmetic = operation
step_in groups.Comparison = operation
step_in groups.Logical = operation
step_in groups.AnyOrAll = operation
step_in groups.Select = operation
step_in groups.BitFieldInsert = operation
step_in groups.BitFieldExtract = operation
step_in groups.BitOperation = operation
step_in groups.Extended = operation
step_in (groups.Atomic o) = atomic o
step_in groups.ControlBarrier = control_barrier
step_in groups.MemoryBarrier = memory_barrier
step_in groups.Call = call
step_in groups.Phi = operation
step_in groups.Merge = merge
step_in (groups.Terminator o) = step_at_end o

unfoldable pub step_kind : Op → StepKind
step_kind o = step_in (group_of o)

abbrev pub step_by : StepKind → Setting → Conf → List Inst → Inst → Act Conf
step_by operation s c rest i = operation_step s c rest i
step_by chain s c rest i = chain_step s c rest i
step_by array_length s c rest i = length_step s c rest i
step_by variable s c rest i = variable_step s c rest i
step_by load s c rest i = load_step s c rest i
step_by store s c rest i = store_step s c rest i
step_by (atomic o) s c rest i = atomic_step o s c rest i
step_by memory_barrier s c rest i = memory_barrier_step s c rest i
step_by control_barrier s c rest i = control_barrier_step s c rest i
step_by call s c rest i = call_step s c rest i
step_by merge s c rest i = goes [] (advanced c rest)
step_by (branch o) s c rest i = branch_step o s c i
step_by return s c rest i = return_step c c.below
step_by return_value s c rest i = return_value_step s c i
step_by unreachable s c rest i = fails

-- the instruction that is next, with what is behind it
abbrev pub act_on : Setting → Conf → List Inst → Act Conf
act_on s c [] = fails
act_on s c (i ∷ rest) = step_by (step_kind i.op) s c rest i

unfoldable pub act : Setting → Conf → Act Conf
act s c = act_on s c c.top.rest

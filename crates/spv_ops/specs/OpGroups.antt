-- The opcodes in groups, of which most questions ask the same.
use Rattle.std.specs.Prelude.{Bool, true, false}
use Rattle.spv_ops.specs.declared.class.OpClass.{OpClass}
use Rattle.spv_ops.specs.declared.class.OpClass.TheVariants as classes
use Rattle.spv_ops.specs.declared.op_group.OpGroup.{OpGroup}
use Rattle.spv_ops.specs.declared.op_group.OpGroup.TheVariants as groups
use Rattle.spv_ops.specs.declared.op_group.AtomicOp.TheVariants as atomic
use Rattle.spv_ops.specs.declared.op_group.Terminator.{Terminator}
use Rattle.spv_ops.specs.declared.op_group.Terminator.TheVariants as exit
use Rattle.spv_ops.specs.declared.op_group.Takes.{Takes}
use Rattle.spv_ops.specs.declared.op_group.Takes.TheVariants.{Values, Types, TypeAndConstants, Constants, Labels, ValueAndLabels, ValuesWithLabels, ImportAndValues, FunctionAndValues}
use Rattle.spv_ops.specs.declared.opcode.Op.{Op}
use Rattle.spv_ops.specs.declared.opcode.Op.TheVariants as op

-- the group of an opcode
unfoldable pub group_of : Op → OpGroup
group_of op.Nop = groups.Debug
group_of op.Undef = groups.Undef
group_of op.SourceContinued = groups.Debug
group_of op.Source = groups.Debug
group_of op.SourceExtension = groups.Debug
group_of op.Name = groups.Debug
group_of op.MemberName = groups.Debug
group_of op.String = groups.Debug
group_of op.Line = groups.Debug
group_of op.Extension = groups.Head
group_of op.ExtInstImport = groups.Head
group_of op.ExtInst = groups.Extended
group_of op.MemoryModel = groups.Head
group_of op.EntryPoint = groups.Head
group_of op.ExecutionMode = groups.Head
group_of op.Capability = groups.Head
group_of op.TypeVoid = groups.Type
group_of op.TypeBool = groups.Type
group_of op.TypeInt = groups.Type
group_of op.TypeVector = groups.Type
group_of op.TypeArray = groups.Type
group_of op.TypeRuntimeArray = groups.Type
group_of op.TypeStruct = groups.Type
group_of op.TypePointer = groups.Type
group_of op.TypeFunction = groups.Type
group_of op.ConstantTrue = groups.Truth
group_of op.ConstantFalse = groups.Truth
group_of op.Constant = groups.Number
group_of op.ConstantComposite = groups.Composite
group_of op.ConstantNull = groups.AnyConstant
group_of op.SpecConstantTrue = groups.Truth
group_of op.SpecConstantFalse = groups.Truth
group_of op.SpecConstant = groups.Number
group_of op.SpecConstantComposite = groups.Composite
group_of op.SpecConstantOp = groups.AnyConstant
group_of op.Function = groups.Function
group_of op.FunctionParameter = groups.Function
group_of op.FunctionEnd = groups.Function
group_of op.FunctionCall = groups.Call
group_of op.Variable = groups.Variable
group_of op.Load = groups.Load
group_of op.Store = groups.Store
group_of op.AccessChain = groups.Chain
group_of op.InBoundsAccessChain = groups.Chain
group_of op.ArrayLength = groups.ArrayLength
group_of op.Decorate = groups.Head
group_of op.MemberDecorate = groups.Head
group_of op.VectorExtractDynamic = groups.VectorExtractDynamic
group_of op.VectorInsertDynamic = groups.VectorInsertDynamic
group_of op.VectorShuffle = groups.VectorShuffle
group_of op.CompositeConstruct = groups.CompositeConstruct
group_of op.CompositeExtract = groups.CompositeExtract
group_of op.CompositeInsert = groups.CompositeInsert
group_of op.CopyObject = groups.CopyObject
group_of op.Bitcast = groups.Bitcast
group_of op.SNegate = groups.Arithmetic
group_of op.IAdd = groups.Arithmetic
group_of op.ISub = groups.Arithmetic
group_of op.IMul = groups.Arithmetic
group_of op.UDiv = groups.Arithmetic
group_of op.SDiv = groups.Arithmetic
group_of op.UMod = groups.Arithmetic
group_of op.SRem = groups.Arithmetic
group_of op.SMod = groups.Arithmetic
group_of op.Any = groups.AnyOrAll
group_of op.All = groups.AnyOrAll
group_of op.LogicalEqual = groups.Logical
group_of op.LogicalNotEqual = groups.Logical
group_of op.LogicalOr = groups.Logical
group_of op.LogicalAnd = groups.Logical
group_of op.LogicalNot = groups.Logical
group_of op.Select = groups.Select
group_of op.IEqual = groups.Comparison
group_of op.INotEqual = groups.Comparison
group_of op.UGreaterThan = groups.Comparison
group_of op.SGreaterThan = groups.Comparison
group_of op.UGreaterThanEqual = groups.Comparison
group_of op.SGreaterThanEqual = groups.Comparison
group_of op.ULessThan = groups.Comparison
group_of op.SLessThan = groups.Comparison
group_of op.ULessThanEqual = groups.Comparison
group_of op.SLessThanEqual = groups.Comparison
group_of op.ShiftRightLogical = groups.Arithmetic
group_of op.ShiftRightArithmetic = groups.Arithmetic
group_of op.ShiftLeftLogical = groups.Arithmetic
group_of op.BitwiseOr = groups.Arithmetic
group_of op.BitwiseXor = groups.Arithmetic
group_of op.BitwiseAnd = groups.Arithmetic
group_of op.Not = groups.Arithmetic
group_of op.BitFieldInsert = groups.BitFieldInsert
group_of op.BitFieldSExtract = groups.BitFieldExtract
group_of op.BitFieldUExtract = groups.BitFieldExtract
group_of op.BitReverse = groups.BitOperation
group_of op.BitCount = groups.BitOperation
group_of op.ControlBarrier = groups.ControlBarrier
group_of op.MemoryBarrier = groups.MemoryBarrier
group_of op.AtomicLoad = groups.Atomic atomic.Load
group_of op.AtomicStore = groups.Atomic atomic.Store
group_of op.AtomicExchange = groups.Atomic atomic.Exchange
group_of op.AtomicCompareExchange = groups.Atomic atomic.CompareExchange
group_of op.AtomicIIncrement = groups.Atomic atomic.IIncrement
group_of op.AtomicIDecrement = groups.Atomic atomic.IDecrement
group_of op.AtomicIAdd = groups.Atomic atomic.IAdd
group_of op.AtomicISub = groups.Atomic atomic.ISub
group_of op.AtomicSMin = groups.Atomic atomic.SMin
group_of op.AtomicUMin = groups.Atomic atomic.UMin
group_of op.AtomicSMax = groups.Atomic atomic.SMax
group_of op.AtomicUMax = groups.Atomic atomic.UMax
group_of op.AtomicAnd = groups.Atomic atomic.And
group_of op.AtomicOr = groups.Atomic atomic.Or
group_of op.AtomicXor = groups.Atomic atomic.Xor
group_of op.Phi = groups.Phi
group_of op.LoopMerge = groups.Merge
group_of op.SelectionMerge = groups.Merge
group_of op.Label = groups.Function
group_of op.Branch = groups.Terminator exit.Branch
group_of op.BranchConditional = groups.Terminator exit.BranchConditional
group_of op.Switch = groups.Terminator exit.Switch
group_of op.Return = groups.Terminator exit.Return
group_of op.ReturnValue = groups.Terminator exit.ReturnValue
group_of op.Unreachable = groups.Terminator exit.Unreachable
group_of op.NoLine = groups.Debug
group_of op.ModuleProcessed = groups.Debug
group_of op.ExecutionModeId = groups.Head
group_of op.CopyLogical = groups.CopyLogical

-- the class of the opcodes of a group
abbrev pub class_in : OpGroup → OpClass
class_in groups.Debug = classes.Debug
class_in groups.Head = classes.Head
class_in groups.Type = classes.Global
class_in groups.Truth = classes.Global
class_in groups.Number = classes.Global
class_in groups.Composite = classes.Global
class_in groups.AnyConstant = classes.Global
class_in groups.Undef = classes.Pure
class_in groups.Function = classes.Flow
class_in groups.Variable = classes.Memory
class_in groups.Load = classes.Memory
class_in groups.Store = classes.Memory
class_in groups.Chain = classes.Pure
class_in groups.ArrayLength = classes.Pure
class_in groups.CopyObject = classes.Pure
class_in groups.CopyLogical = classes.Pure
class_in groups.Bitcast = classes.Pure
class_in groups.VectorExtractDynamic = classes.Pure
class_in groups.VectorInsertDynamic = classes.Pure
class_in groups.VectorShuffle = classes.Pure
class_in groups.CompositeConstruct = classes.Pure
class_in groups.CompositeExtract = classes.Pure
class_in groups.CompositeInsert = classes.Pure
class_in groups.Arithmetic = classes.Pure
class_in groups.Comparison = classes.Pure
class_in groups.Logical = classes.Pure
class_in groups.AnyOrAll = classes.Pure
class_in groups.Select = classes.Pure
class_in groups.BitFieldInsert = classes.Pure
class_in groups.BitFieldExtract = classes.Pure
class_in groups.BitOperation = classes.Pure
class_in groups.Extended = classes.Pure
class_in (groups.Atomic o) = classes.Memory
class_in groups.ControlBarrier = classes.Barrier
class_in groups.MemoryBarrier = classes.Barrier
class_in groups.Call = classes.Call
class_in groups.Phi = classes.Pure
class_in groups.Merge = classes.Flow
class_in (groups.Terminator o) = classes.Flow

-- what the operands of an instruction that are ids have to name: of a terminator, of a group but for OpTypeArray, and of an opcode
abbrev pub takes_at_end : Terminator → Takes
takes_at_end exit.Branch = Labels
takes_at_end exit.BranchConditional = ValueAndLabels
takes_at_end exit.Switch = ValueAndLabels
takes_at_end exit.Return = Values
takes_at_end exit.ReturnValue = Values
takes_at_end exit.Unreachable = Values

abbrev pub takes_in : OpGroup → Takes
takes_in groups.Debug = Values
takes_in groups.Head = Values
takes_in groups.Type = Types
takes_in groups.Truth = Values
takes_in groups.Number = Values
takes_in groups.Composite = Constants
takes_in groups.AnyConstant = Constants
takes_in groups.Undef = Values
takes_in groups.Function = Values
takes_in groups.Variable = Constants
takes_in groups.Load = Values
takes_in groups.Store = Values
takes_in groups.Chain = Values
takes_in groups.ArrayLength = Values
takes_in groups.CopyObject = Values
takes_in groups.CopyLogical = Values
takes_in groups.Bitcast = Values
takes_in groups.VectorExtractDynamic = Values
takes_in groups.VectorInsertDynamic = Values
takes_in groups.VectorShuffle = Values
takes_in groups.CompositeConstruct = Values
takes_in groups.CompositeExtract = Values
takes_in groups.CompositeInsert = Values
takes_in groups.Arithmetic = Values
takes_in groups.Comparison = Values
takes_in groups.Logical = Values
takes_in groups.AnyOrAll = Values
takes_in groups.Select = Values
takes_in groups.BitFieldInsert = Values
takes_in groups.BitFieldExtract = Values
takes_in groups.BitOperation = Values
takes_in groups.Extended = ImportAndValues
takes_in (groups.Atomic o) = Values
takes_in groups.ControlBarrier = Values
takes_in groups.MemoryBarrier = Values
takes_in groups.Call = FunctionAndValues
takes_in groups.Phi = ValuesWithLabels
takes_in groups.Merge = Labels
takes_in (groups.Terminator o) = takes_at_end o

unfoldable pub takes_of : Op → Takes
takes_of op.TypeArray = TypeAndConstants
takes_of o = takes_in (group_of o)

-- the opcodes of the group may stand inside OpSpecConstantOp
abbrev pub is_inner_group : OpGroup → Bool
is_inner_group groups.VectorShuffle = true
is_inner_group groups.CompositeExtract = true
is_inner_group groups.Arithmetic = true
is_inner_group groups.Logical = true
is_inner_group groups.Comparison = true
is_inner_group groups.Select = true
is_inner_group _ = false

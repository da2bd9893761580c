-- The kinds of instructions and operations: what is written for them.
use Rattle.spv_ops.specs.OpGroups.{group_of}
use Rattle.spv_ops.specs.declared.Op.{Op}
use Rattle.spv_ops.specs.declared.OpGroup.{OpGroup}
use Rattle.spv_ops.specs.declared.OpGroup.TheVariants as groups
use Rattle.expr_forward.specs.declared.kinds.InstKind.{InstKind}
use Rattle.expr_forward.specs.declared.kinds.InstKind.TheVariants as kind
use Rattle.expr_forward.specs.declared.kinds.OperationKind.{OperationKind}
use Rattle.expr_forward.specs.declared.kinds.OperationKind.TheVariants as operation

-- the kind of the instructions of a group: what is written for them
abbrev pub kind_in : OpGroup → InstKind
kind_in groups.Debug = kind.Silent
kind_in groups.Head = kind.Silent
kind_in groups.Type = kind.Silent
kind_in groups.Truth = kind.Silent
kind_in groups.Number = kind.Silent
kind_in groups.Composite = kind.Silent
kind_in groups.AnyConstant = kind.Silent
kind_in groups.Undef = kind.Value operation.Undef
kind_in groups.Function = kind.Silent
kind_in groups.Variable = kind.Silent
kind_in groups.Load = kind.Load
kind_in groups.Store = kind.Store
kind_in groups.Chain = kind.Chain
kind_in groups.ArrayLength = kind.Value operation.ArrayLength
kind_in groups.CopyObject = kind.Value operation.CopyObject
kind_in groups.CopyLogical = kind.Value operation.CopyLogical
kind_in groups.Bitcast = kind.Value operation.Plain
kind_in groups.VectorExtractDynamic = kind.Value operation.Plain
kind_in groups.VectorInsertDynamic = kind.VectorInsertDynamic
kind_in groups.VectorShuffle = kind.Value operation.Plain
kind_in groups.CompositeConstruct = kind.Value operation.CompositeConstruct
kind_in groups.CompositeExtract = kind.Value operation.CompositeExtract
kind_in groups.CompositeInsert = kind.CompositeInsert
kind_in groups.Arithmetic = kind.Value operation.Plain
kind_in groups.Comparison = kind.Value operation.Plain
kind_in groups.Logical = kind.Value operation.Plain
kind_in groups.AnyOrAll = kind.Value operation.Plain
kind_in groups.Select = kind.Value operation.Plain
kind_in groups.BitFieldInsert = kind.Value operation.Plain
kind_in groups.BitFieldExtract = kind.Value operation.Plain
kind_in groups.BitOperation = kind.Value operation.Plain
kind_in groups.Extended = kind.Value operation.Extended
kind_in (groups.Atomic o) = kind.Atomic o
kind_in groups.ControlBarrier = kind.ControlBarrier
kind_in groups.MemoryBarrier = kind.MemoryBarrier
kind_in groups.Call = kind.Call
kind_in groups.Phi = kind.Silent
kind_in groups.Merge = kind.Silent
kind_in (groups.Terminator o) = kind.Silent

-- the kind of an instruction, by its opcode
unfoldable pub kind_of : Op → InstKind
kind_of o = kind_in (group_of o)

-- the kind of operation; what is no operation has a variable
abbrev pub operation_of : InstKind → OperationKind
operation_of (kind.Value o) = o
operation_of _ = operation.Other

unfoldable pub operation_kind_of : Op → OperationKind
operation_kind_of o = operation_of (kind_of o)

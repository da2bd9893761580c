-- Types of integers and of vectors (SPIR-V 1.6, OpTypeInt and OpTypeVector).
use Rattle.std.specs.Prelude.{ℕ, ◌==◌, ◌&&◌, Bool, slice_index}
use Rattle.spv_ops.specs.Opcode.{is}
use Rattle.spv_ops.specs.declared.opcode.Op.TheVariants as op
use Rattle.spv_module.specs.declared.inst.Inst.{Inst}

-- the signedness that an OpTypeInt without a sign states
abbrev pub unsigned : ℕ
unsigned = 0

-- the signedness that an OpTypeInt with a sign states
abbrev pub signed : ℕ
signed = 1

-- OpTypeInt states this width in bits, and this signedness
abbrev pub states_int : ℕ → ℕ → Inst → Bool
states_int width signedness g = (is g.op op.TypeInt) && (slice_index g.args 0 == width) && (slice_index g.args 1 == signedness)

-- an integer of 32 bits without a sign
abbrev pub is_uint : Inst → Bool
is_uint g = states_int 32 unsigned g

-- an integer of 32 bits with a sign
abbrev pub is_sint : Inst → Bool
is_sint g = states_int 32 signed g

-- an integer with a sign, of whatever width
abbrev pub has_sign : Inst → Bool
has_sign g = (is g.op op.TypeInt) && (slice_index g.args 1 == signed)

-- a vector of this many components
abbrev pub is_vector_of : ℕ → Inst → Bool
is_vector_of count g = (is g.op op.TypeVector) && (slice_index g.args 1 == count)

-- Members of blocks that end within 32 bits.
use Rattle.std.specs.Prelude.{ℕ, ◌+◌, ◌<◌, ◌^◌}
use Rattle.spv_types.specs.Tree.{Tree, runtime}
use Rattle.spv_types.specs.Leaves.{IsSized}
use Rattle.layout_rules.specs.declared.Kind.{Kind}
use Rattle.layout_rules.specs.Sizes.{size_of, stride_over}

-- a runtime array begins there and has such a stride, and anything else ends there
abbrev pub IsLowMember : Kind → ℕ → Tree → Type 0
IsLowMember k offset (runtime t) = IsSized t × (offset < 2 ^ 32) × (stride_over k t < 2 ^ 32)
IsLowMember k offset t = IsSized t × (offset + size_of k t < 2 ^ 32)

-- no array in it has another length than a number, but that it may be a runtime array itself
abbrev pub IsFineMember : Tree → Type 0
IsFineMember (runtime t) = IsSized t
IsFineMember t = IsSized t

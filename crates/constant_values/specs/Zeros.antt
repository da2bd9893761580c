-- The zeros of shapes, where they have the shape.
use Rattle.std.specs.Prelude.{ℕ, Option, Some, None, if◌then◌else◌, List, replicate}
use Rattle.spv_types.specs.Tree.{Tree, Trees, ValueTree, ValueTrees, values_in}
use Rattle.spv_types.specs.Leaves.{zero_of, zeros_of}
use Rattle.op_semantics.specs.Fits.{each_fits, fits_parts}

-- so many zeros of one shape
abbrev pub zero_parts : Tree → ℕ → Option (List ValueTree)
zero_parts t n = if each_fits t (values_in (replicate n (zero_of t))) then Some (replicate n (zero_of t)) else None

-- the zeros of members
abbrev pub zero_members : Trees → Option ValueTrees
zero_members ts = if fits_parts ts (zeros_of ts) then Some (zeros_of ts) else None

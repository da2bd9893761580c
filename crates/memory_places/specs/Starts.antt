-- What variables begin with, as the program has it.
use Rattle.std.specs.Prelude.{Option, Some, None}
use Rattle.spv_types.specs.Tree.{ValueTree}
use Rattle.spv_types.specs.Leaves.{zero_of}
use Rattle.spv_types.specs.View.{tree_of, value_of}
use Rattle.memory_places.specs.declared.starts.Start.{Start}
use Rattle.memory_places.specs.declared.starts.Start.TheVariants.{Known, Zero, Missing}

abbrev pub start_of : Start → Option ValueTree
start_of (Known v) = Some (value_of v.now)
start_of (Zero t) = Some (zero_of (tree_of t))
start_of Missing = None

-- The components that literals pick from two vectors.
use Rattle.std.specs.Prelude.{ℕ, List, ◌++◌, Option, None, option_map}
use Rattle.spv_module.specs.declared.tree.Elem.{Elem}
use Rattle.spv_types.specs.Tree.{ValueTree, many}
use Rattle.spv_types.specs.Leaves.{zero_elem}
use Rattle.op_semantics.specs.Component.{listed, composite, each_one}
use Rattle.op_semantics.specs.Composite.{picked}

abbrev pub shuffled_by : Elem → List ℕ → ValueTree → ValueTree → Option ValueTree
shuffled_by e picks (many xs) (many ys) = option_map composite (each_one (picked (zero_elem e) (listed xs ++ listed ys)) picks)
shuffled_by e picks _ _ = None

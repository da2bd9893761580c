-- Values that are held, or referred to, as plain data.
use Rattle.std.specs.Prelude.{List, Vec, map}
use Rattle.std.specs.declared.alloc.Global.{Global}
use Rattle.std.specs.Borrow.{Bor}
use Rattle.spv_module.specs.declared.tree.Value.{Value}
use Rattle.spv_types.specs.Tree.{ValueTree}
use Rattle.spv_types.specs.View.{value_of}

-- what the values are that are referred to
abbrev pub referred : List (Bor Value) → List ValueTree
referred rs = map (λ (r : Bor Value). value_of r.now) rs

abbrev pub plain_references : Vec (Bor Value) Global → List ValueTree
plain_references rs = referred rs.items

abbrev pub plain_values : Vec Value Global → List ValueTree
plain_values vs = map value_of vs.items

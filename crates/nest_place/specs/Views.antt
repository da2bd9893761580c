-- What contracts see of the structs.
use Rattle.std.specs.Prelude.{List}
use Rattle.structure_rules.specs.declared.graph.Node.{Node}
use Rattle.structure_rules.specs.declared.graph.Part.{Part}

-- the control-flow graph of a function
abbrev pub Graph : Type 0
Graph = List Node

-- lists of constructs, each from inside out
abbrev pub Lists : Type 0
Lists = List (List Part)

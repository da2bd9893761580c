use Rattle.std.proofs.Common.{◌≡◌, take, map}
use Rattle.std.specs.List.{All}
use Rattle.structure_rules.specs.Graph.{graph}
use Rattle.module_check.specs.Structure.{IsStructured}
use Rattle.module_check.proofs.structure.check_structure.Given as goal

abbrev pub invariant-loop-function : goal.invariant-loop-function
invariant-loop-function l = All IsStructured (take l.function-index l.functions) × (l.list.items ≡ map graph (take l.function-index l.functions))

-- The blocks to which a block leads.
use Rattle.std.specs.Prelude.{ℕ, List, [], if◌then◌else◌, slice_index}
use Rattle.structure_rules.specs.declared.graph.Node.{Node}
use Rattle.structure_rules.specs.Graph.{nth}

-- the blocks to which a reached block leads, and the one by its number among them
abbrev pub targets_in : List Node → ℕ → List ℕ
targets_in g b = if (nth g b).reached then (nth g b).targets else []

abbrev pub target_of : List Node → ℕ → ℕ → ℕ
target_of g b k = slice_index (targets_in g b) k

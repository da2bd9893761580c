-- All blocks of which a graph speaks are its own.
use Rattle.std.specs.Prelude.{ℕ, ◌≡◌, ◌<◌, Bool, true, List, length, slice_index}
use Rattle.structure_rules.specs.declared.graph.Node.{Node}
use Rattle.structure_rules.specs.Graph.{nth, named, is_marked, leads_to}

-- the targets and the blocks named are among the first n
pub record IsNodeWithin (n : ℕ) (node : Node) : Type 0 where
  pub leads : (k : ℕ) → k < length node.targets → slice_index node.targets k < n
  pub tells : (k : ℕ) → k < length (named node.merge) → slice_index (named node.merge) k < n

abbrev pub AreWithin : List Node → Type 0
AreWithin g = (b : ℕ) → b < length g → IsNodeWithin (length g) (nth g b)

-- what edges lead to from a marked block is marked
abbrev pub IsClosed : List Node → List Bool → Type 0
IsClosed ns marks = (p t : ℕ) → is_marked marks p ≡ true → leads_to t (nth ns p) ≡ true → t < length ns → is_marked marks t ≡ true

-- what edges lead to from a reached block is reached
abbrev pub AreReached : List Node → Type 0
AreReached g = (b t : ℕ) → (nth g b).reached ≡ true → leads_to t (nth g b) ≡ true → (nth g t).reached ≡ true

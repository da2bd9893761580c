-- The search for the blocks that are reached: the blocks found so far are marked, and stand in a list of which those before a place have been visited.
use Rattle.std.specs.Prelude.{ℕ, ◌⊎◌, ◌≡◌, ◌<◌, ◌≤◌, Bool, true, List, length, count_by, slice_index}
use Rattle.structure_rules.specs.declared.graph.Node.{Node}
use Rattle.structure_rules.specs.Graph.{nth, is_marked, leads_to, reach}

-- all blocks to which an edge leads from this one are marked
abbrev pub IsVisited : List Node → List Bool → ℕ → Type 0
IsVisited ns marks p = (t : ℕ) → leads_to t (nth ns p) ≡ true → t < length ns → is_marked marks t ≡ true

-- the block stands in the list, at this place or behind it
abbrev pub IsWaiting : List ℕ → ℕ → ℕ → Type 0
IsWaiting order place p = (k : ℕ) × (place ≤ k) × (k < length order) × (slice_index order k ≡ p)

pub record IsSearch (ns : List Node) (marks : List Bool) (order : List ℕ) (place : ℕ) : Type 0 where
  pub sized : length marks ≡ length ns
  pub counted : count_by (λ (m : Bool). m) marks ≡ length order
  pub inside : (k : ℕ) → k < length order → slice_index order k < length ns
  pub listed : (k : ℕ) → k < length order → is_marked marks (slice_index order k) ≡ true
  pub sound : (t : ℕ) → is_marked marks t ≡ true → is_marked (reach ns (length order)) t ≡ true
  pub whole : (p : ℕ) → is_marked marks p ≡ true → IsWaiting order place p ⊎ IsVisited ns marks p
  pub from_first : 0 < length ns → is_marked marks 0 ≡ true

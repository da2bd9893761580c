-- Following the falls from case target to case target, by a table that tells for each where it falls.
use Rattle.std.specs.Prelude.{ℕ, zero, suc, ◌≡◌, ◌<◌, List, length, Option, Some, None, IfSome, slice_index_or, slice_index}
use Rattle.std.specs.Option.{option_and_then}
use Rattle.structure_rules.specs.declared.graph.Node.{Node}
use Rattle.structure_rules.specs.Structure.{falls_from}

abbrev pub Table : Type 0
Table = List (Option ℕ)

abbrev pub entry : Table → ℕ → Option ℕ
entry table u = slice_index_or table u None

-- where so many steps lead
unfoldable pub steps : Table → ℕ → ℕ → Option ℕ
steps next zero u = Some u
steps next (suc n) u = option_and_then (steps next n) (entry next u)

-- steps lead back
abbrev pub Returns : Table → ℕ → Type 0
Returns next u = (n : ℕ) × (n < length next) × (steps next (suc n) u ≡ Some u)

-- what leads to a block by the last table falls into it by the next
pub record AreInverse (next last : Table) : Type 0 where
  pub back : (v u : ℕ) → entry last v ≡ Some u → entry next u ≡ Some v

-- what a block falls into has a height below this one
abbrev pub IsReady : Table → Table → ℕ → ℕ → Type 0
IsReady next heights u k = IfSome (entry next u) (λ t. (j : ℕ) × (entry heights t ≡ Some j) × (j < k))

-- each height is above that of what the block falls into
pub record AreHeights (next heights : Table) : Type 0 where
  pub fall : (u k : ℕ) → entry heights u ≡ Some k → IsReady next heights u k

-- the edge to block t falls from a case target on a cycle
abbrev pub FallsOnCycle : List Node → Table → ℕ → ℕ → Type 0
FallsOnCycle g next b t = (u : ℕ) × (falls_from g b t ≡ Some u) × Returns next u

-- an edge to one of these does
abbrev pub SomeCyclic : List Node → Table → ℕ → List ℕ → Type 0
SomeCyclic g next b ts = (k : ℕ) × (k < length ts) × FallsOnCycle g next b (slice_index ts k)

-- What `Nest` keeps true of its fields, and what is told of the block from which an edge leads.
use Rattle.std.specs.Prelude.{ℕ, ◌≡◌, ◌<◌, Bool, List, [], ◌∷◌, length, slice_index}
use Rattle.std.specs.List.{list_any}
use Rattle.structure_rules.specs.declared.graph.Node.{Node}
use Rattle.structure_rules.specs.declared.graph.Role.{Role}
use Rattle.structure_rules.specs.declared.graph.Part.{Part}
use Rattle.structure_rules.specs.declared.graph.EdgeKind.TheVariants.{SwitchBreak, Break, Continue, Back, Fall}
use Rattle.structure_rules.specs.EdgeKinds.{nearest_loop, innermost, innermost_switch, has_kind}
use Rattle.spv_words.specs.Breaks.{NoRuleBroken}
use Rattle.structure_rules.specs.Structure.{BrokenIn, structure_rules}
use Rattle.block_graph.specs.Within.{AreWithin, AreReached}
use Rattle.nest_place.specs.declared.spots.Spot.{Spot}
use Rattle.nest_place.specs.declared.kinds.Origin.{Origin}
use Rattle.nest_place.specs.Steps.{AreRoles}
use Rattle.nest_place.specs.Spots.{AreSpots, IsGrounded}

pub record IsNest (g : List Node) (roles : List Role) (spots : List Spot) (lists : List (List Part)) : Type 0 where
  pub roles_of : AreRoles g roles
  pub spots_of : AreSpots g (length g) spots lists

-- the constructs round the edges of a block
pub record IsOrigin (g : List Node) (b : ℕ) (o : Origin) : Type 0 where
  pub block : o.block ≡ b
  pub nearest : o.nearest ≡ nearest_loop g b
  pub innermost_is : o.innermost ≡ innermost g b
  pub switch : o.switch ≡ innermost_switch g b

-- the edge has a kind, other than that it enters a block or merges a selection
abbrev pub has_outer_kind : List Node → ℕ → ℕ → Bool
has_outer_kind g b t = list_any (has_kind g b t) (SwitchBreak ∷ Break ∷ Continue ∷ Back ∷ Fall ∷ [])

-- these blocks are among the first n
abbrev pub AllInside : ℕ → List ℕ → Type 0
AllInside n ts = (k : ℕ) → k < length ts → slice_index ts k < n

-- the graph of a function that breaks no rule of structured control flow
pub record IsSound (g : List Node) : Type 0 where
  pub within : AreWithin g
  pub reached : AreReached g
  pub grounded : IsGrounded g
  pub fine : NoRuleBroken (BrokenIn g) structure_rules

-- What stands round the place where control goes on.
use Rattle.std.specs.Prelude.{◌≡◌, ℕ, Bool, true, false, List, ◌∷◌, if◌then◌else◌}
use Rattle.structure_rules.specs.declared.graph.Node.{Node}
use Rattle.structure_rules.specs.declared.graph.Part.{Part}
use Rattle.structure_rules.specs.declared.graph.Part.TheVariants.{Loop}
use Rattle.structure_rules.specs.declared.graph.EdgeKind.{EdgeKind}
use Rattle.structure_rules.specs.Graph.{nth, leads_to}
use Rattle.structure_rules.specs.Nesting.{place}
use Rattle.structure_rules.specs.EdgeKinds.{is_enter, has_kind}
use Rattle.structure_recover.specs.declared.region.Exit.TheVariants.{Edge, Return, Lost, Closed}
use Rattle.structure_recover.specs.declared.edges.Start.TheVariants.{Block, Body}
use Rattle.structure_recover.specs.declared.edges.Next.{Next}
use Rattle.structure_recover.specs.declared.edges.Next.TheVariants.{At, Stop}
use Rattle.structure_recover.specs.Follows.{heads_loop}
use Rattle.tree_law.specs.Serves.{Sees}

-- the edge leaves the region that these constructs stand round
pub record IsExit (g : List Node) (b t : ℕ) (k : EdgeKind) (ps : List Part) : Type 0 where
  pub here : (nth g b).reached ≡ true
  pub leads : leads_to t (nth g b) ≡ true
  pub kind : has_kind g b t k ≡ true
  pub outward : is_enter g b t ≡ false
  pub sees : Sees g b ps

-- the header of a loop stands in the loop itself
abbrev pub held : List Node → ℕ → List Part
held g b = if heads_loop g b then Loop b ∷ place g b else place g b

abbrev pub IsPlaced : List Node → Next → List Part → Type 0
IsPlaced g (At (Block b)) ps = ((nth g b).reached ≡ true) × (place g b ≡ ps)
IsPlaced g (At (Body h)) ps = ((nth g h).reached ≡ true) × (Loop h ∷ place g h ≡ ps) × (heads_loop g h ≡ true)
IsPlaced g (Stop (Edge b t k)) ps = IsExit g b t k ps
IsPlaced g (Stop (Return b)) ps = Unit {0}
IsPlaced g (Stop (Lost b)) ps = Unit {0}
IsPlaced g (Stop Closed) ps = Unit {0}

-- round the header of a loop, or round a block in its loop
abbrev pub IsPlacedItem : List Node → Bool → ℕ → List Part → Type 0
IsPlacedItem g true h ps = ((nth g h).reached ≡ true) × (place g h ≡ ps) × (heads_loop g h ≡ true)
IsPlacedItem g false h ps = ((nth g h).reached ≡ true) × (held g h ≡ ps)

-- control goes on in this block, or by an edge to it
abbrev pub Starts : Next → ℕ → Type 0
Starts (At (Block b)) t = b ≡ t
Starts (At (Body h)) t = h ≡ t
Starts (Stop (Edge b u k)) t = u ≡ t
Starts (Stop (Return b)) t = ⊥
Starts (Stop (Lost b)) t = ⊥
Starts (Stop Closed) t = ⊥

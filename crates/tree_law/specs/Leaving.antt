-- Edges of a region that leave the loop that stands round it.
use Rattle.std.specs.Prelude.{◌≡◌, ℕ, Bool, true, List, Option, is_some}
use Rattle.structure_rules.specs.declared.graph.Node.{Node}
use Rattle.structure_rules.specs.declared.graph.Part.{Part}
use Rattle.structure_rules.specs.Graph.{nth, leads_to}
use Rattle.structure_rules.specs.EdgeKinds.{nearest_loop, innermost_switch, is_break}

-- an edge breaks out of the nearest loop; where a switch stands round the region, through one
pub record Leaves (g : List Node) (near : Option Part) (switched : Bool) : Type 0 where
  pub from : ℕ
  pub to : ℕ
  pub here : (nth g from).reached ≡ true
  pub leads : leads_to to (nth g from) ≡ true
  pub breaks : is_break g from to ≡ true
  pub nearest_is : nearest_loop g from ≡ near
  pub through : switched ≡ true → is_some (innermost_switch g from) ≡ true

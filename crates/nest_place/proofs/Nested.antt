-- What is read of a graph with its constructs.
use Rattle.std.proofs.Common.{◌≡◌, ◌<◌, ℕ, true, List, length, get_or, sym, ◌∙◌, subst, arith}
use Rattle.std.proofs.lemmas.List.{get_or_default}
use Rattle.structure_rules.specs.declared.graph.Node.{Node}
use Rattle.structure_rules.specs.declared.graph.Role.{Role}
use Rattle.structure_rules.specs.declared.graph.Part.{Part}
use Rattle.structure_rules.specs.Graph.{nth}
use Rattle.nest_place.specs.declared.spots.Spot.{Spot}
use Rattle.nest_place.specs.Spots.{IsSpot, no_spot}
use Rattle.nest_place.specs.Nests.{IsNest}

-- the spot that is read is the block's
pub spot_read : (g : List Node) (roles : List Role) (spots : List Spot) (lists : List (List Part)) (b : ℕ) (s : Spot) → IsNest g roles spots lists → b < length g → (nth g b).reached ≡ true → s ≡ get_or spots b s → IsSpot g lists b s
spot_read g roles spots lists b s nest inside here read =
    let room : b < length spots = (let size = nest.spots_of.sized in omega (arith, size, inside)) in
    subst (λ x. IsSpot g lists b x) (sym (read ∙ get_or_default spots b s no_spot room)) (nest.spots_of.each b inside here)

pub ruleset place_rules = (spot_read)

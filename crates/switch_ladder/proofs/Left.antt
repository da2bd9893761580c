-- The edges by which loops are left.
use Rattle.std.proofs.Common.{◌≡◌, ◌<◌, ◌==◌, ℕ, Bool, true, false, List, [], length, get_or, if◌then◌else◌, refl, sym, arith}
use Rattle.std.specs.List.{list_any}
use Rattle.std.proofs.lemmas.Bool.{false_from_ne_true, eq-eqb}
use Rattle.std.proofs.lemmas.List.Folds.{list_any_at}
use Rattle.structure_rules.specs.declared.graph.Node.{Node}
use Rattle.structure_rules.specs.declared.graph.EdgeKind.{EdgeKind}
use Rattle.structure_rules.specs.declared.graph.EdgeKind.TheVariants.{Break}
use Rattle.structure_rules.specs.Graph.{edges, leads_to}
use Rattle.structure_rules.specs.EdgeKinds.{has_kind, is_break}

pub not_break : (g : List Node) (b t : ℕ) (k : EdgeKind) → ((j : EdgeKind) → has_kind g b t j ≡ true → j ≡ k) → (k ≡ Break → ⊥) → is_break g b t ≡ false
not_break g b t k only other = false_from_ne_true (is_break g b t) (λ e. other (sym (only Break e)))

-- an edge of a block that is reached
by_reached : (r : Bool) (ts : List ℕ) (i t : ℕ) → i < length (if r then ts else []) → t ≡ get_or (if r then ts else []) i 0 → (r ≡ true) × (list_any (λ x. x == t) ts ≡ true)
by_reached true ts i t inside at = (refl, list_any_at (λ x. x == t) ts i 0 inside (eq-eqb (get_or ts i 0) t (sym at)))
by_reached false ts i t inside at = absurd (omega (arith, inside))

pub edge_at : (n : Node) (i t : ℕ) → i < length (edges n) → t ≡ get_or (edges n) i 0 → (n.reached ≡ true) × (leads_to t n ≡ true)
edge_at n i t inside at = by_reached n.reached n.targets i t inside at

pub reached_at : (n : Node) (i t : ℕ) → i < length (edges n) → t ≡ get_or (edges n) i 0 → n.reached ≡ true
reached_at n i t inside at = (edge_at n i t inside at).0

pub leads_at : (n : Node) (i t : ℕ) → i < length (edges n) → t ≡ get_or (edges n) i 0 → leads_to t n ≡ true
leads_at n i t inside at = (edge_at n i t inside at).1

pub ruleset edge_rules = (reached_at, leads_at)

-- The graph of a function: its first block is reached, and terminators have no more targets than their kinds have.
use Rattle.std.proofs.Common.{◌≡◌, ◌<◌, ◌≤◌, ◌==◌, ℕ, zero, suc, Bool, true, false, List, [], ◌∷◌, length, map, take, drop, Option, Some, None, refl, sym, ◌∙◌, subst, arith}
use Rattle.std.proofs.lemmas.List.{length-map, length-take}
use Rattle.list_law.proofs.Numbers.{above_zero}
use Rattle.spv_module.specs.declared.inst.Inst.{Inst}
use Rattle.spv_module.specs.declared.inst.Block.{Block}
use Rattle.spv_module.specs.declared.inst.Function.{Function}
use Rattle.structure_rules.specs.declared.graph.Exit.{Exit}
use Rattle.structure_rules.specs.declared.graph.Exit.TheVariants.{Branch, Conditional, Switch, Leave}
use Rattle.structure_rules.specs.declared.graph.Node.{Node}
use Rattle.structure_rules.specs.Graph.{nth, node_by, index_of, nodes, reached, told, graph, terminator, exit_by, labels_by, target_labels}
use Rattle.structure_recover.specs.declared.region.Exit.TheVariants.{Closed}
use Rattle.structure_recover.specs.declared.edges.Start.TheVariants.{Block as BlockStart}
use Rattle.structure_recover.specs.declared.edges.Next.TheVariants.{At, Stop}
use Rattle.structure_recover.specs.Follows.{first}
use Rattle.nest_place.proofs.LinkLemmas.{equal_nat}
use Rattle.block_graph.proofs.Walks.{reach_start, reach_le}
use Rattle.block_graph.proofs.Within.{past_told, length_reached, length_nodes, graph_sized}

pub first_reached : (f : Function) → 0 < length (graph f) → (nth (graph f) 0).reached ≡ true
unfolding graph reached
first_reached f some =
    let ns : List Node = nodes f in
    let size : length (reached ns) ≡ length ns = length_reached ns in
    let blocks : 0 < length ns = (let a = graph_sized f in let b = length_nodes f in omega (arith, some, a, b)) in
    past_told (reached ns) ns 0 size ∙ reach_le ns 0 (length ns) 0 (omega arith) (reach_start ns blocks)

pub some_reached : (f : Function) (ns g : List Node) → ns ≡ g → g ≡ graph f → (length ns == 0) ≡ false → (nth g 0).reached ≡ true
some_reached f ns g one two some =
    subst (λ q. (nth q 0).reached ≡ true) (sym two) (first_reached f (subst (λ q. 0 < length q) (one ∙ two) (above_zero (length ns) some)))

pub first_none : (g : List Node) → (length g == 0) ≡ true → first g ≡ Stop Closed
first_none [] e = refl
first_none (n ∷ g) e = let never : suc (length g) ≡ 0 = equal_nat (suc (length g)) 0 e in absurd (omega (arith, never))

pub first_some : (g : List Node) → (length g == 0) ≡ false → first g ≡ At (BlockStart 0)
first_some [] e = cc
first_some (n ∷ g) e = refl

pub ruleset first_rules = (some_reached, first_none, first_some)

-- a terminator has no more targets than its kind has
abbrev pub FitsExit : Exit → ℕ → Type 0
FitsExit Branch n = n ≤ 1
FitsExit Conditional n = n ≤ 2
FitsExit Switch n = Unit {0}
FitsExit Leave n = n ≤ 0

pub record IsShaped (g : List Node) : Type 0 where
  pub fits : (b : ℕ) → FitsExit (nth g b).exit (length (nth g b).targets)

taken : (index : ℕ → ℕ) (k : ℕ) (labels : List ℕ) → length (map index (take k labels)) ≤ k
taken index k labels = let a = length-map (take k labels) index in let b = length-take k labels in omega (arith, a, b)

labels_fit : (index : ℕ → ℕ) (x : Exit) (args : List ℕ) → FitsExit x (length (map index (labels_by x args)))
labels_fit index Branch args = taken index 1 args
labels_fit index Conditional args = taken index 2 (drop 1 args)
labels_fit index Switch args = tt
labels_fit index Leave args = omega arith

block_fits : (index : ℕ → ℕ) (i : Option Inst) → FitsExit (exit_by i) (length (map index (target_labels i)))
block_fits index None = omega arith
block_fits index (Some i) = labels_fit index (exit_by (Some i)) i.args

all_fit : (index : ℕ → ℕ) (blocks : List Block) (b : ℕ) → FitsExit (nth (map (node_by index) blocks) b).exit (length (nth (map (node_by index) blocks) b).targets)
all_fit index [] b = omega arith
all_fit index (x ∷ blocks) zero = block_fits index (terminator x)
all_fit index (x ∷ blocks) (suc b) = all_fit index blocks b

told_fit : (marks : List Bool) (ns : List Node) → ((b : ℕ) → FitsExit (nth ns b).exit (length (nth ns b).targets)) → (b : ℕ) → FitsExit (nth (told marks ns) b).exit (length (nth (told marks ns) b).targets)
told_fit [] ns all b = omega arith
told_fit (m ∷ marks) [] all b = omega arith
told_fit (m ∷ marks) (n ∷ ns) all zero = all zero
told_fit (m ∷ marks) (n ∷ ns) all (suc b) = told_fit marks ns (λ k. all (suc k)) b

pub graph_shaped : (f : Function) → IsShaped (graph f)
unfolding graph nodes
graph_shaped f = record { fits = told_fit (reached (nodes f)) (nodes f) (all_fit (index_of f) f.blocks) }

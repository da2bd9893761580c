-- The node of a block tells what its terminator does; so the node of an OpSwitch leads to the blocks of its labels.
use Rattle.std.proofs.Common.{◌≡◌, ◌<◌, ℕ, zero, suc, true, List, [], ◌∷◌, length, map, Some, ap, ◌∙◌, arith}
use Rattle.std.specs.Prelude.{slice_get, slice_index_or, is_some, option_and_then}
use Rattle.spv_module.specs.declared.inst.Inst.{Inst}
use Rattle.spv_module.specs.declared.inst.Block.{Block}
use Rattle.spv_module.specs.declared.inst.Function.{Function}
use Rattle.spv_index.specs.Locals.{block_in}
use Rattle.structure_rules.specs.declared.graph.Node.{Node}
use Rattle.structure_rules.specs.declared.graph.Exit.{Exit}
use Rattle.structure_rules.specs.declared.graph.Exit.TheVariants.{Switch}
use Rattle.structure_rules.specs.Graph.{index_of, seconds, terminator, exit_by, labels_by, target_labels, node_by, nodes, is_marked, reached, graph, no_node, nth}
use Rattle.block_graph.proofs.Within.{nth_told, length_reached, length_nodes, graph_sized}
use Rattle.structure_recover.specs.Follows.{firsts}
use Rattle.list_law.proofs.Options.{some_number}
use Rattle.region_law.specs.Leads.{In}
use Rattle.function_law.proofs.CaseGroups.{AreOnceWords, IsSwitchOf, placed_below}

mapped_at : (k : Block → Node) (bs : List Block) (h : ℕ) (b : Block) → slice_get bs h ≡ Some b → slice_index_or (map k bs) h no_node ≡ k b
mapped_at k [] h b e = cc
mapped_at k (c ∷ bs) zero b e = let same : c ≡ b = cc in ap k same
mapped_at k (c ∷ bs) (suc h) b e = mapped_at k bs h b e

-- of a block of the function
pub node_is : (f : Function) (h : ℕ) (b : Block) → slice_get f.blocks h ≡ Some b → nth (graph f) h ≡ record (node_by (index_of f) b) { reached = is_marked (reached (nodes f)) h }
unfolding graph nodes
node_is f h b there =
    let below : h < length f.blocks = placed_below f.blocks h b there in
    let size : length (nodes f) ≡ length f.blocks = length_nodes f in
    nth_told (reached (nodes f)) (nodes f) h (length_reached (nodes f)) (omega (arith, below, size)) ∙ ap (λ (n : Node). record n { reached = is_marked (reached (nodes f)) h }) (mapped_at (node_by (index_of f)) f.blocks h b there)

-- OpSwitch, whose labels are labels of the function, with each literal once
pub switch_of : (f : Function) (h : ℕ) (b : Block) (last : Inst) (selector default : ℕ) (words : List ℕ) → slice_get f.blocks h ≡ Some b → terminator b ≡ Some last → exit_by (Some last) ≡ Switch → last.args ≡ selector ∷ default ∷ words
    → ((label : ℕ) → In label (seconds last.args) → is_some (block_in f label) ≡ true) → AreOnceWords (firsts words) → IsSwitchOf f (graph f) h last
switch_of f h b last selector default words there ends kind args labels once = record {
  last_is = ap (option_and_then terminator) there ∙ ends;
  selector = selector;
  default = default;
  words = words;
  args = args;
  leads = ap (λ (n : Node). n.targets) (node_is f h b there) ∙ (ap (λ o. map (index_of f) (target_labels o)) ends ∙ ap (λ (x : Exit). map (index_of f) (labels_by x last.args)) kind);
  labels = λ label in_it. some_number (block_in f label) (labels label in_it);
  size = graph_sized f;
  once = once;
}

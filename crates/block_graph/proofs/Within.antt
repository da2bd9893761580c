-- All blocks of which the graph of a function speaks are its own.
use Rattle.std.proofs.Common.{◌≡◌, ◌<◌, ◌+◌, ◌==◌, ℕ, zero, suc, Bool, true, false, List, [], ◌∷◌, length, map, unwrap_or, Option, Some, None, refl, ap, sym, ◌∙◌, subst, arith, cond, if◌then◌else◌}
use Rattle.std.specs.List.{position_from, slice_index}
use Rattle.std.proofs.lemmas.List.{length-map}
use Rattle.list_law.proofs.Lists.{marked_within}
use Rattle.spv_ops.specs.Opcode.{is}
use Rattle.spv_ops.specs.declared.Op.TheVariants as code
use Rattle.spv_module.specs.declared.inst.Inst.{Inst}
use Rattle.spv_module.specs.declared.inst.Block.{Block}
use Rattle.spv_module.specs.declared.inst.Function.{Function}
use Rattle.structure_rules.specs.declared.graph.Merge.TheVariants.{Loop, Selection}
use Rattle.structure_rules.specs.declared.graph.Node.{Node}
use Rattle.structure_rules.specs.Graph.{nth, named, index_of, node_by, merge_by, nodes, reached, told, graph, is_marked, target_labels, terminator, merge_inst, leads_to}
use Rattle.block_graph.specs.Within.{IsNodeWithin, AreWithin, IsClosed, AreReached}
use Rattle.block_graph.proofs.Walks.{length-reach}
use Rattle.block_graph.proofs.Search.{found_target}

found_within : {X : Type 0} (p : X → Bool) (n : ℕ) (xs : List X) (k : ℕ) → position_from p n xs ≡ Some k → k < n + length xs
found_within p n [] k e = cc
found_within p n (x ∷ xs) k e =
    let later : position_from p (n + 1) xs ≡ Some k → k < n + suc (length xs) = λ h. let l = found_within p (n + 1) xs k h in omega (arith, l) in
    (elim (p x) as (λ b. cond b (Some n) (position_from p (n + 1) xs) ≡ Some k → k < n + suc (length xs)) [
      | true ↦ λ h. let here : n ≡ k = cc in omega (arith, here)
      | false ↦ later
    ]) e

default_within : (o : Option ℕ) (n : ℕ) → 0 < n → ((k : ℕ) → o ≡ Some k → k < n) → unwrap_or o 0 < n
default_within None n some all = some
default_within (Some k) n some all = all k refl

index_within : (f : Function) (label : ℕ) → 0 < length f.blocks → index_of f label < length f.blocks
index_within f label some = default_within (position_from (λ (b : Block). b.label.0 == label) 0 f.blocks) (length f.blocks) some (λ k e. let w = found_within (λ (b : Block). b.label.0 == label) 0 f.blocks k e in omega (arith, w))

all_mapped : (f : ℕ → ℕ) (n : ℕ) (labels : List ℕ) (k : ℕ) → ((label : ℕ) → f label < n) → k < length (map f labels) → slice_index (map f labels) k < n
all_mapped f n [] k all inside = absurd (omega (arith, inside))
all_mapped f n (l ∷ labels) zero all inside = all l
all_mapped f n (l ∷ labels) (suc k) all inside = all_mapped f n labels k all (omega (arith, inside))

all_named : (f : ℕ → ℕ) (n : ℕ) (i : Option Inst) (k : ℕ) → ((label : ℕ) → f label < n) → k < length (named (merge_by f i)) → slice_index (named (merge_by f i)) k < n
all_named f n None k all inside = absurd (omega (arith, inside))
all_named f n (Some i) k all inside = by_test (is i.op code.LoopMerge) k inside
  where
    by_test : (b : Bool) (k : ℕ) → k < length (named (if b then Loop (f (slice_index i.args 0)) (f (slice_index i.args 1)) else Selection (f (slice_index i.args 0)))) → slice_index (named (if b then Loop (f (slice_index i.args 0)) (f (slice_index i.args 1)) else Selection (f (slice_index i.args 0)))) k < n
    by_test true zero h = all (slice_index i.args 0)
    by_test true (suc zero) h = all (slice_index i.args 1)
    by_test true (suc (suc k)) h = absurd (omega (arith, h))
    by_test false zero h = all (slice_index i.args 0)
    by_test false (suc k) h = absurd (omega (arith, h))

length_told : (marks : List Bool) (ns : List Node) → length marks ≡ length ns → length (told marks ns) ≡ length ns
length_told [] [] e = refl
length_told [] (n ∷ ns) e = absurd (omega (arith, e))
length_told (m ∷ marks) [] e = absurd (omega (arith, e))
length_told (m ∷ marks) (n ∷ ns) e = ap suc (length_told marks ns (omega (arith, e)))

pub nth_told : (marks : List Bool) (ns : List Node) (b : ℕ) → length marks ≡ length ns → b < length ns → nth (told marks ns) b ≡ record (nth ns b) { reached = is_marked marks b }
nth_told [] [] b e inside = absurd (omega (arith, inside))
nth_told [] (n ∷ ns) b e inside = absurd (omega (arith, e))
nth_told (m ∷ marks) [] b e inside = absurd (omega (arith, e))
nth_told (m ∷ marks) (n ∷ ns) zero e inside = refl
nth_told (m ∷ marks) (n ∷ ns) (suc b) e inside = nth_told marks ns b (omega (arith, e)) (omega (arith, inside))

pub length_reached : (ns : List Node) → length (reached ns) ≡ length ns
unfolding reached
length_reached ns = length-reach ns (length ns)

pub length_nodes : (f : Function) → length (nodes f) ≡ length f.blocks
unfolding nodes
length_nodes f = length-map f.blocks (node_by (index_of f))

node_within : (f : Function) (b : ℕ) → b < length (nodes f) → IsNodeWithin (length (nodes f)) (nth (nodes f) b)
unfolding nodes
node_within f b inside =
    let size : length (nodes f) ≡ length f.blocks = length_nodes f in
    let within : (label : ℕ) → index_of f label < length (nodes f) = λ label. let w = index_within f label (omega (arith, inside, size)) in omega (arith, w, size) in
    let of_block : (x : Block) → IsNodeWithin (length (nodes f)) (node_by (index_of f) x) = λ x. record {
      leads = λ k h. all_mapped (index_of f) (length (nodes f)) (target_labels (terminator x)) k within h;
      tells = λ k h. all_named (index_of f) (length (nodes f)) (merge_inst x) k within h;
    } in
    by_index f.blocks of_block b (omega (arith, inside, size))
  where
    by_index : (blocks : List Block) → ((x : Block) → IsNodeWithin (length (nodes f)) (node_by (index_of f) x)) → (b : ℕ) → b < length blocks → IsNodeWithin (length (nodes f)) (nth (map (node_by (index_of f)) blocks) b)
    by_index [] all b h = absurd (omega (arith, h))
    by_index (x ∷ blocks) all zero h = all x
    by_index (x ∷ blocks) all (suc b) h = by_index blocks all b (omega (arith, h))

pub graph_within : (f : Function) → AreWithin (graph f)
unfolding graph
graph_within f b inside =
    let sizes : length (reached (nodes f)) ≡ length (nodes f) = length_reached (nodes f) in
    let size : length (told (reached (nodes f)) (nodes f)) ≡ length (nodes f) = length_told (reached (nodes f)) (nodes f) sizes in
    let old = node_within f b (omega (arith, inside, size)) in
    let is = nth_told (reached (nodes f)) (nodes f) b sizes (omega (arith, inside, size)) in
    subst (λ (n : Node). IsNodeWithin (length (told (reached (nodes f)) (nodes f))) n) (sym is) (subst (λ m. IsNodeWithin m (record (nth (nodes f) b) { reached = is_marked (reached (nodes f)) b })) (sym size) (record { leads = old.leads; tells = old.tells }))

pub past_told : (marks : List Bool) (ns : List Node) (b : ℕ) → length marks ≡ length ns → (nth (told marks ns) b).reached ≡ is_marked marks b
past_told [] [] b e = refl
past_told [] (n ∷ ns) b e = absurd (omega (arith, e))
past_told (m ∷ marks) [] b e = absurd (omega (arith, e))
past_told (m ∷ marks) (n ∷ ns) zero e = refl
past_told (m ∷ marks) (n ∷ ns) (suc b) e = past_told marks ns b (omega (arith, e))

pub graph_reached : (f : Function) (marks : List Bool) → marks ≡ reached (nodes f) → IsClosed (nodes f) marks → AreReached (graph f)
unfolding graph
graph_reached f marks is closed b t here edge =
    let ns : List Node = nodes f in
    let size : length marks ≡ length ns = ap length is ∙ length_reached ns in
    let same : told (reached ns) ns ≡ told marks ns = ap (λ m. told m ns) (sym is) in
    let marked : is_marked marks b ≡ true = sym (past_told marks ns b size) ∙ (ap (λ g. (nth g b).reached) (sym same) ∙ here) in
    let inside : b < length ns = (let m : b < length marks = marked_within marks b marked in omega (arith, m, size)) in
    let node : nth (told (reached ns) ns) b ≡ record (nth ns b) { reached = is_marked marks b } = ap (λ g. nth g b) same ∙ nth_told marks ns b size inside in
    let old_edge : leads_to t (nth ns b) ≡ true = ap (λ n. leads_to t n) (sym node) ∙ edge in
    let at = found_target (nth ns b).targets t old_edge in
    let within : t < length ns = subst (λ q. q < length ns) at.2 ((node_within f b inside).leads at.0 at.1) in
    ap (λ g. (nth g t).reached) same ∙ past_told marks ns t size ∙ closed b t marked old_edge within

-- a node for each block
pub graph_sized : (f : Function) → length (graph f) ≡ length f.blocks
unfolding graph
graph_sized f = length_told (reached (nodes f)) (nodes f) (length_reached (nodes f)) ∙ length_nodes f

pub sized_reached : (marks : List Bool) (ns : List Node) → marks ≡ reached ns → length marks ≡ length ns
sized_reached marks ns is = ap length is ∙ length_reached ns

pub ruleset graph_rules = (graph_within, graph_reached, graph_sized, sized_reached)

-- In a conforming module each call under way stands in a block that is reached: the first is, and where a terminator leads is one more.
use Rattle.std.proofs.Common.{◌≡◌, ◌<◌, ◌≤◌, ◌+◌, ◌==◌, ◌||◌, ℕ, Bool, true, false, List, [], ◌∷◌, length, map, drop, Option, Some, None, inl, inr, refl, sym, ap, subst, ◌∙◌, if◌then◌else◌, unwrap_or, arith}
use Rattle.std.specs.Prelude.{option_map, slice_get, slice_index}
use Rattle.std.specs.List.{list_any}
use Rattle.std.proofs.lemmas.Bool.Decides.{eqb_tells}
use Rattle.spv_ops.specs.OpGroups.{group_of}
use Rattle.spv_ops.specs.Shape.{shape, count_of}
use Rattle.spv_ops.specs.Groups.{is_terminator}
use Rattle.spv_ops.specs.declared.Op.{Op}
use Rattle.spv_ops.specs.declared.Op.TheVariants as code
use Rattle.spv_ops.specs.declared.Terminator.{Terminator}
use Rattle.spv_ops.specs.declared.Terminator.TheVariants as ends
use Rattle.spv_module.specs.Inst.{has_type, has_result}
use Rattle.spv_module.specs.Lists.{module_of}
use Rattle.spv_module.specs.declared.inst.Inst.{Inst}
use Rattle.spv_module.specs.declared.inst.Block.{Block}
use Rattle.spv_module.specs.declared.inst.Function.{Function}
use Rattle.spv_index.specs.Locals.{block_in, insts_of}
use Rattle.profile_rules.specs.declared.given.Given.{Given}
use Rattle.traces.specs.Invocations.{Invocation}
use Rattle.structure_rules.specs.declared.graph.Node.{Node}
use Rattle.structure_rules.specs.declared.graph.Exit.{Exit}
use Rattle.structure_rules.specs.declared.graph.Exit.TheVariants.{Branch, Conditional, Switch}
use Rattle.structure_rules.specs.Graph.{index_of, seconds, exit_at_end, exit_of, labels_by, target_labels, nodes, is_marked, reached, graph, nth}
use Rattle.block_graph.specs.Within.{AreReached}
use Rattle.block_graph.proofs.Walks.{reach_start, reach_le}
use Rattle.block_graph.proofs.Within.{past_told, length_reached, length_nodes, graph_reached}
use Rattle.region_law.specs.Leads.{In}
use Rattle.module_semantics.specs.Setting.{Setting, setting}
use Rattle.module_semantics.specs.State.{Frame}
use Rattle.module_semantics.specs.Operands.{truth_at, word_at}
use Rattle.module_semantics.specs.Steps.{branch, step_kind, case_label, target_label}
use Rattle.agree_law.specs.Blocks.{IsOf}
use Rattle.call_law.specs.Known.{IsFunctionOf}
use Rattle.call_law.specs.Reached.{AreReached as AllReached}
use Rattle.call_law.proofs.CodeKept.{in_block}
use Rattle.typed_law.specs.Conforms.{BreakNone, IsFormed}
use Rattle.typed_law.proofs.Words.{conforms}
use Rattle.grammar_law.proofs.Height.Closed.{closed_reached}
use Rattle.function_law.proofs.CaseGroups.{placed_below}
use Rattle.function_law.proofs.Nodes.{node_is}
use Rattle.grammar_law.proofs.Ruled.Ruled.{contains_of, among_of}
use Rattle.grammar_law.specs.Formed.{IsFormedFunction}
use Rattle.grammar_law.specs.Traced.{IsReachedBlock}
use Rattle.grammar_law.proofs.Formed.Formed.{formed}
use Rattle.grammar_law.proofs.Formed.Blocks.{end_is, only_end}

-- the least number of operands of a terminator that leads on
abbrev fewest : Terminator → ℕ
fewest ends.Branch = 1
fewest ends.BranchConditional = 3
fewest ends.Switch = 2
fewest _ = 0

abbrev IsBranchOp : Terminator → Op → Type 0
IsBranchOp o p = (is_terminator p ≡ true) × (exit_of p ≡ exit_at_end o) × ((n : ℕ) → (shape p).least ≤ 1 + count_of (has_type p) + count_of (has_result p) + n → fewest o ≤ n)

branch_op : (p : Op) (o : Terminator) → step_kind p ≡ branch o → IsBranchOp o p
unfolding step_kind group_of shape
branch_op code.Branch ends.Branch e = (refl, refl, λ n le. omega (arith, le))
branch_op code.BranchConditional ends.BranchConditional e = (refl, refl, λ n le. omega (arith, le))
branch_op code.Switch ends.Switch e = (refl, refl, λ n le. omega (arith, le))
branch_op p o e = cc

-- the label to which control goes is one of those to which the node of a block leads
branch_leads : (args : List ℕ) (label : ℕ) → 1 ≤ length args → Some (slice_index args 0) ≡ Some label → In label (labels_by Branch args)
branch_leads [] label few e = absurd (omega (arith, few))
branch_leads (a ∷ args) label few e = inl (let same : a ≡ label = cc in sym same)

conditional_leads : (args : List ℕ) (o : Option Bool) (label : ℕ) → 3 ≤ length args → option_map (λ (b : Bool). if b then slice_index args 1 else slice_index args 2) o ≡ Some label → In label (labels_by Conditional args)
conditional_leads [] o label few e = absurd (omega (arith, few))
conditional_leads (a ∷ []) o label few e = absurd (omega (arith, few))
conditional_leads (a ∷ b ∷ []) o label few e = absurd (omega (arith, few))
conditional_leads (a ∷ b ∷ c ∷ args) None label few e = cc
conditional_leads (a ∷ b ∷ c ∷ args) (Some true) label few e = inl (let same : b ≡ label = cc in sym same)
conditional_leads (a ∷ b ∷ c ∷ args) (Some false) label few e = inr (inl (let same : c ≡ label = cc in sym same))

case_in : (w default : ℕ) (words : List ℕ) → In (case_label w default words) (default ∷ seconds words)
case_in w default [] = inl refl
case_in w default (literal ∷ []) = inl refl
case_in w default (literal ∷ label ∷ more) = by_test (literal == w) (case_in w default more)
  where
    by_test : (t : Bool) → In (case_label w default more) (default ∷ seconds more) → In (elim t as (λ t. ℕ) [ true ↦ label | false ↦ case_label w default more ]) (default ∷ label ∷ seconds more)
    by_test true later = inr (inl refl)
    by_test false (inl same) = inl same
    by_test false (inr there) = inr (inr there)

switch_leads : (args : List ℕ) (o : Option ℕ) (label : ℕ) → 2 ≤ length args → option_map (λ (w : ℕ). case_label w (slice_index args 1) (drop 2 args)) o ≡ Some label → In label (labels_by Switch args)
switch_leads [] o label few e = absurd (omega (arith, few))
switch_leads (a ∷ []) o label few e = absurd (omega (arith, few))
switch_leads (a ∷ d ∷ words) None label few e = cc
switch_leads (a ∷ d ∷ words) (Some w) label few e = subst (λ l. In l (d ∷ seconds words)) (let same : case_label w d words ≡ label = cc in same) (case_in w d words)

leads_by : (s : Setting) (g : Frame) (i : Inst) (o : Terminator) (label : ℕ) → fewest o ≤ length i.args → target_label o s g i ≡ Some label → In label (labels_by (exit_at_end o) i.args)
leads_by s g i ends.Branch label few e = branch_leads i.args label few e
leads_by s g i ends.BranchConditional label few e = conditional_leads i.args (truth_at s g (slice_index i.args 0)) label few e
leads_by s g i ends.Switch label few e = switch_leads i.args (word_at s g (slice_index i.args 0)) label few e
leads_by s g i ends.Return label few e = cc
leads_by s g i ends.ReturnValue label few e = cc
leads_by s g i ends.Unreachable label few e = cc

any_target : (index : ℕ → ℕ) (label t : ℕ) (labels : List ℕ) → In label labels → index label ≡ t → list_any (λ (x : ℕ). x == t) (map index labels) ≡ true
any_target index label t [] there same = absurd there
any_target index label t (l ∷ labels) (inl here) same = ap (λ (b : Bool). b || list_any (λ (x : ℕ). x == t) (map index labels)) (elim (eqb_tells (index l) t) [ inl w ↦ w.0 | inr w ↦ absurd (w.1 (ap index (sym here) ∙ same)) ])
any_target index label t (l ∷ labels) (inr there) same = later (index l == t) (any_target index label t labels there same)
  where
    later : (b : Bool) → list_any (λ (x : ℕ). x == t) (map index labels) ≡ true → (b || list_any (λ (x : ℕ). x == t) (map index labels)) ≡ true
    later true e = refl
    later false e = e

-- the first block is reached
all_steps : (ns : List Node) → 0 < length ns → is_marked (reached ns) 0 ≡ true
unfolding reached
all_steps ns some = reach_le ns 0 (length ns) 0 (omega arith) (reach_start ns some)

pub first_marked : (f : Function) (b : Block) → slice_get f.blocks 0 ≡ Some b → IsReachedBlock f 0
unfolding graph
first_marked f b there =
    let below : 0 < length f.blocks = placed_below f.blocks 0 b there in
    let size : length (nodes f) ≡ length f.blocks = length_nodes f in
    past_told (reached (nodes f)) (nodes f) 0 (length_reached (nodes f)) ∙ all_steps (nodes f) (omega (arith, below, size))

-- and so is each to which an edge leads from one
module _ (f : Function) (form : IsFormedFunction f) (few : (i : Inst) → IsOf i (insts_of f) → IsFormed i) where
  edges_reached : AreReached (graph f)
  edges_reached = graph_reached f (reached (nodes f)) refl (closed_reached (nodes f))

  leads_on : (s : Setting) (g : Frame) (b : ℕ) (block : Block) (i : Inst) (o : Terminator) (label t : ℕ) → slice_get f.blocks b ≡ Some block → IsReachedBlock f b → IsOf i block.insts → step_kind i.op ≡ branch o → target_label o s g i ≡ Some label → block_in f label ≡ Some t → IsReachedBlock f t
  leads_on s g b block i o label t there here of_it kind leads to =
      let op = branch_op i.op o kind in
      let shaped = form.blocks b block there in
      let last = end_is block shaped ∙ ap (λ (x : Inst). Some x) (only_end block.insts shaped i of_it op.0) in
      let targets : (nth (graph f) b).targets ≡ map (index_of f) (labels_by (exit_at_end o) i.args)
      = ap (λ (n : Node). n.targets) (node_is f b block there) ∙ (ap (λ (x : Option Inst). map (index_of f) (target_labels x)) last ∙ ap (λ (x : Exit). map (index_of f) (labels_by x i.args)) op.1) in
      let among = leads_by s g i o label (op.2 (length i.args) (few i (in_block f.blocks b block there i of_it)).least) leads in
      edges_reached b t here (ap (list_any (λ (x : ℕ). x == t)) targets ∙ any_target (index_of f) label t (labels_by (exit_at_end o) i.args) among (ap (λ (q : Option ℕ). unwrap_or q 0) to))

-- So it is in a module whose words break no rule.
module _ (ws : List ℕ) (entry : Option (List ℕ)) (right : BreakNone ws entry) (function : ℕ) (overrides : List (ℕ × Given)) (inv : Invocation) where
  abbrev S : Setting
  S = setting (module_of ws) function overrides inv

  pub conforming_formed : (f : Function) → IsFunctionOf f S.of.functions → IsFormedFunction f
  conforming_formed f one = formed ws right.form.1.1.1.0 f one

  pub conforming_reached : AllReached S IsReachedBlock
  conforming_reached = record {
    first = λ f one. let form = conforming_formed f one in (form.first, form.there, first_marked f form.first form.there);
    on = λ g one block i o label t there here of_it kind leads to.
        leads_on g.function (conforming_formed g.function one) (λ j at. ((conforms ws entry right).inside g.function (contains_of S.of.functions g.function one)).formed j (among_of (insts_of g.function) j at)) S g g.block block i o label t there here of_it kind leads to;
  }

-- The terminator of a reached block does what the tree of its function has there.
use Rattle.std.proofs.Common.{◌≡◌, ◌≤◌, ◌+◌, ℕ, Bool, true, false, List, [], ◌∷◌, length, map, Option, Some, None, inl, inr, refl, sym, ap, subst, ◌∙◌, arith}
use Rattle.std.specs.Prelude.{◌⊎◌, is_some, slice_get, slice_index}
use Rattle.std.specs.Option.{option_map_or}
use Rattle.std.proofs.lemmas.List.{length-map}
use Rattle.std.proofs.lemmas.Option.{same_Some}
use Rattle.spv_ops.specs.Opcode.{is, number}
use Rattle.spv_ops.specs.OpGroups.{group_of}
use Rattle.spv_ops.specs.Shape.{shape, count_of}
use Rattle.spv_ops.specs.Groups.{is_terminator}
use Rattle.spv_ops.specs.declared.Op.{Op}
use Rattle.spv_ops.specs.declared.Op.TheVariants as code
use Rattle.spv_ops.specs.declared.Terminator.TheVariants as ends
use Rattle.spv_module.specs.Inst.{has_type, has_result}
use Rattle.spv_module.specs.declared.inst.Inst.{Inst}
use Rattle.spv_module.specs.declared.inst.Block.{Block}
use Rattle.spv_module.specs.declared.inst.Function.{Function}
use Rattle.spv_index.specs.Locals.{block_in, insts_of}
use Rattle.structure_rules.specs.declared.graph.Node.{Node}
use Rattle.structure_rules.specs.declared.graph.Exit.{Exit}
use Rattle.structure_rules.specs.declared.graph.Exit.TheVariants.{Branch, Conditional, Switch, Leave}
use Rattle.structure_rules.specs.Graph.{index_of, terminator, exit_of, exit_by, labels_by, target_labels, graph, nth}
use Rattle.structure_recover.specs.Follows.{last_inst}
use Rattle.list_law.proofs.Options.{some_number}
use Rattle.region_law.specs.Leads.{Term, jump, table, return, lost, In}
use Rattle.region_law.specs.Leads as ending
use Rattle.module_semantics.specs.Operands.{arg}
use Rattle.module_semantics.specs.Steps as steps
use Rattle.module_semantics.specs.Steps.{step_kind}
use Rattle.agree_law.specs.Blocks.{IsOf}
use Rattle.agree_law.specs.Points.{Body}
use Rattle.call_law.proofs.CodeKept.{in_block, of_right}
use Rattle.typed_law.specs.Conforms.{IsFormed}
use Rattle.function_law.proofs.Nodes.{node_is}
use Rattle.grammar_law.specs.Formed.{IsFormedFunction}
use Rattle.text_law.specs.Ends.{term_by, is_lost_block, term_of, HasLabels}
use Rattle.grammar_law.proofs.Formed.Blocks.{end_is, body_if, reached_body}

-- what an exit tells of an opcode
branch_step : (p : Op) → exit_of p ≡ Branch → (step_kind p ≡ steps.branch ends.Branch) × ((n : ℕ) → (shape p).least ≤ 1 + count_of (has_type p) + count_of (has_result p) + n → 1 ≤ n)
unfolding step_kind group_of shape
branch_step code.Branch e = (refl, λ n le. omega (arith, le))
branch_step p e = cc

conditional_step : (p : Op) → exit_of p ≡ Conditional → (step_kind p ≡ steps.branch ends.BranchConditional) × ((n : ℕ) → (shape p).least ≤ 1 + count_of (has_type p) + count_of (has_result p) + n → 3 ≤ n)
unfolding step_kind group_of shape
conditional_step code.BranchConditional e = (refl, λ n le. omega (arith, le))
conditional_step p e = cc

switch_step : (p : Op) → exit_of p ≡ Switch → step_kind p ≡ steps.branch ends.Switch
unfolding step_kind group_of
switch_step code.Switch e = refl
switch_step p e = cc

lost_step : (p : Op) → is p code.Unreachable ≡ true → step_kind p ≡ steps.unreachable
unfolding step_kind group_of number
lost_step code.Unreachable e = refl
lost_step p e = cc

-- a return, with or without a value
abbrev IsReturn : Op → Type 0
IsReturn p = ((step_kind p ≡ steps.return) × (is p code.ReturnValue ≡ false)) ⊎ ((step_kind p ≡ steps.return_value) × (is p code.ReturnValue ≡ true))

return_step : (p : Op) → is_terminator p ≡ true → exit_of p ≡ Leave → is p code.Unreachable ≡ false → IsReturn p
unfolding step_kind group_of number
return_step code.Return on e off = inl (refl, refl)
return_step code.ReturnValue on e off = inr (refl, refl)
return_step code.Branch on e off = cc
return_step code.BranchConditional on e off = cc
return_step code.Switch on e off = cc
return_step code.Unreachable on e off = cc
return_step p on e off = cc

-- to how many blocks it leads at least
abbrev pub least_of : Exit → ℕ
least_of Branch = 1
least_of Conditional = 2
least_of Switch = 0
least_of Leave = 0

-- a label that a block has
placed : (f : Function) (label : ℕ) → is_some (block_in f label) ≡ true → block_in f label ≡ Some (index_of f label)
placed f label on = some_number (block_in f label) on

module _ (f : Function) (form : IsFormedFunction f) where
  abbrev body : (b : ℕ) → Option (Body f b)
  body = reached_body f form

  -- the last instruction of a body is the terminator of its block
  pub ends_by : (b : ℕ) (o : Body f b) → body b ≡ Some o → (terminator o.block ≡ Some o.last) × (is_terminator o.last.op ≡ true) × IsOf o.last (insts_of f)
  ends_by b o has = by_test (nth (graph f) b).reached (slice_get f.blocks b) refl has
    where
      E : Body f b → Type 0
      E x = (terminator x.block ≡ Some x.last) × (is_terminator x.last.op ≡ true) × IsOf x.last (insts_of f)

      by_test : (t : Bool) (q : Option Block) (there : slice_get f.blocks b ≡ q) → body_if f b form t q there ≡ Some o → E o
      by_test true (Some x) there e =
          let shaped = form.blocks b x there in
          let among : IsOf shaped.ended.last x.insts = subst (IsOf shaped.ended.last) (sym shaped.whole) (of_right shaped.ended.last shaped.heads shaped.behind (subst (IsOf shaped.ended.last) (sym shaped.ended.whole) (of_right shaped.ended.last shaped.ended.plain (shaped.ended.last ∷ []) (inl refl)))) in
          subst E (same_Some _ o e) (end_is x shaped, shaped.ended.ends, in_block f.blocks b x there shaped.ended.last among)
      by_test true None there e = cc
      by_test false (Some x) there e = cc
      by_test false None there e = cc

  module _ (few : (i : Inst) → IsOf i (insts_of f) → IsFormed i) (labels : HasLabels f) (b : ℕ) (o : Body f b) (has : body b ≡ Some o) where
    ended : (terminator o.block ≡ Some o.last) × (is_terminator o.last.op ≡ true) × IsOf o.last (insts_of f)
    ended = ends_by b o has

    exit_is : (nth (graph f) b).exit ≡ exit_of o.last.op
    exit_is = ap (λ (n : Node). n.exit) (node_is f b o.block o.there) ∙ ap exit_by ended.0

    targets_are : (nth (graph f) b).targets ≡ map (index_of f) (labels_by (exit_of o.last.op) o.last.args)
    targets_are = ap (λ (n : Node). n.targets) (node_is f b o.block o.there) ∙ ap (λ (x : Option Inst). map (index_of f) (target_labels x)) ended.0

    last_is : last_inst (slice_get f.blocks b) ≡ Some o.last
    last_is = ap last_inst o.there ∙ ended.0

    lost_is : is_lost_block f b ≡ is o.last.op code.Unreachable
    lost_is = ap (λ (x : Option Inst). option_map_or (λ (j : Inst). is j.op code.Unreachable) x false) last_is

    -- so the block ends as its last instruction does
    term_is : term_of f b ≡ term_by (exit_of o.last.op) (map (index_of f) (labels_by (exit_of o.last.op) o.last.args)) (is o.last.op code.Unreachable)
    term_is =
        ap (λ (e : Exit). term_by e (nth (graph f) b).targets (is_lost_block f b)) exit_is
        ∙ (ap (λ (ts : List ℕ). term_by (exit_of o.last.op) ts (is_lost_block f b)) targets_are
        ∙ ap (term_by (exit_of o.last.op) (map (index_of f) (labels_by (exit_of o.last.op) o.last.args))) lost_is)

    label_there : (label : ℕ) → In label (labels_by (exit_of o.last.op) o.last.args) → block_in f label ≡ Some (index_of f label)
    label_there label among = placed f label (labels.there b o.block o.last o.there ended.0 label among)

    least : (shape o.last.op).least ≤ 1 + count_of (has_type o.last.op) + count_of (has_result o.last.op) + length o.last.args
    least = (few o.last ended.2).least

    abbrev By : Exit → Term → Type 0
    By e t = term_by e (map (index_of f) (labels_by e o.last.args)) (is o.last.op code.Unreachable) ≡ t

    jump_same : (t u : ℕ) → jump t ≡ jump u → t ≡ u
    jump_same t u e = cc

    pub jumps_to : (t : ℕ) → term_of f b ≡ jump t → (step_kind o.last.op ≡ steps.branch ends.Branch) × (block_in f (arg o.last 0) ≡ Some t)
    jumps_to t e = by_exit (exit_of o.last.op) refl (sym term_is ∙ e)
      where
        by_args : (args : List ℕ) → o.last.args ≡ args → exit_of o.last.op ≡ Branch → 1 ≤ length args → jump (slice_index (map (index_of f) (labels_by Branch args)) 0) ≡ jump t → block_in f (slice_index args 0) ≡ Some t
        by_args [] at exit few e = absurd (omega (arith, few))
        by_args (a ∷ args) at exit few e =
            label_there a (subst (λ (x : Exit). In a (labels_by x o.last.args)) (sym exit) (subst (λ (l : List ℕ). In a (labels_by Branch l)) (sym at) (inl refl)))
            ∙ ap (λ (n : ℕ). Some n) (jump_same (index_of f a) t e)

        by_exit : (x : Exit) → exit_of o.last.op ≡ x → By x (jump t) → (step_kind o.last.op ≡ steps.branch ends.Branch) × (block_in f (arg o.last 0) ≡ Some t)
        by_exit Branch at e =
            let op = branch_step o.last.op at in
            (op.0, by_args o.last.args refl at (op.1 (length o.last.args) least) e)
        by_exit Conditional at e = cc
        by_exit Switch at e = cc
        by_exit Leave at e = by_lost (is o.last.op code.Unreachable) e
          where
            by_lost : (l : Bool) → term_by Leave (map (index_of f) (labels_by Leave o.last.args)) l ≡ jump t → (step_kind o.last.op ≡ steps.branch ends.Branch) × (block_in f (arg o.last 0) ≡ Some t)
            by_lost true e = cc
            by_lost false e = cc

    branch_first : (t u x y : ℕ) → ending.branch t u ≡ ending.branch x y → t ≡ x
    branch_first t u x y e = cc

    branch_second : (t u x y : ℕ) → ending.branch t u ≡ ending.branch x y → u ≡ y
    branch_second t u x y e = cc

    pub branches_to : (t u : ℕ) → term_of f b ≡ ending.branch t u → (step_kind o.last.op ≡ steps.branch ends.BranchConditional) × (block_in f (arg o.last 1) ≡ Some t) × (block_in f (arg o.last 2) ≡ Some u)
    branches_to t u e = by_exit (exit_of o.last.op) refl (sym term_is ∙ e)
      where
        among : (args : List ℕ) (a : ℕ) → o.last.args ≡ args → exit_of o.last.op ≡ Conditional → In a (labels_by Conditional args) → block_in f a ≡ Some (index_of f a)
        among args a at exit there = label_there a (subst (λ (x : Exit). In a (labels_by x o.last.args)) (sym exit) (subst (λ (l : List ℕ). In a (labels_by Conditional l)) (sym at) there))

        by_args : (args : List ℕ) → o.last.args ≡ args → exit_of o.last.op ≡ Conditional → 3 ≤ length args → ending.branch (slice_index (map (index_of f) (labels_by Conditional args)) 0) (slice_index (map (index_of f) (labels_by Conditional args)) 1) ≡ ending.branch t u → (block_in f (slice_index args 1) ≡ Some t) × (block_in f (slice_index args 2) ≡ Some u)
        by_args [] at exit few e = absurd (omega (arith, few))
        by_args (a ∷ []) at exit few e = absurd (omega (arith, few))
        by_args (a ∷ x ∷ []) at exit few e = absurd (omega (arith, few))
        by_args (a ∷ x ∷ y ∷ args) at exit few e = (
          among (a ∷ x ∷ y ∷ args) x at exit (inl refl) ∙ ap (λ (n : ℕ). Some n) (branch_first (index_of f x) (index_of f y) t u e),
          among (a ∷ x ∷ y ∷ args) y at exit (inr (inl refl)) ∙ ap (λ (n : ℕ). Some n) (branch_second (index_of f x) (index_of f y) t u e),
        )

        by_exit : (x : Exit) → exit_of o.last.op ≡ x → By x (ending.branch t u) → (step_kind o.last.op ≡ steps.branch ends.BranchConditional) × (block_in f (arg o.last 1) ≡ Some t) × (block_in f (arg o.last 2) ≡ Some u)
        by_exit Conditional at e =
            let op = conditional_step o.last.op at in
            let both = by_args o.last.args refl at (op.1 (length o.last.args) least) e in
            (op.0, both.0, both.1)
        by_exit Branch at e = cc
        by_exit Switch at e = cc
        by_exit Leave at e = by_lost (is o.last.op code.Unreachable) e
          where
            by_lost : (l : Bool) → term_by Leave (map (index_of f) (labels_by Leave o.last.args)) l ≡ ending.branch t u → (step_kind o.last.op ≡ steps.branch ends.BranchConditional) × (block_in f (arg o.last 1) ≡ Some t) × (block_in f (arg o.last 2) ≡ Some u)
            by_lost true e = cc
            by_lost false e = cc

    pub table_kind : term_of f b ≡ table → step_kind o.last.op ≡ steps.branch ends.Switch
    table_kind e = by_exit (exit_of o.last.op) refl (sym term_is ∙ e)
      where
        by_exit : (x : Exit) → exit_of o.last.op ≡ x → By x table → step_kind o.last.op ≡ steps.branch ends.Switch
        by_exit Switch at e = switch_step o.last.op at
        by_exit Branch at e = cc
        by_exit Conditional at e = cc
        by_exit Leave at e = by_lost (is o.last.op code.Unreachable) e
          where
            by_lost : (l : Bool) → term_by Leave (map (index_of f) (labels_by Leave o.last.args)) l ≡ table → step_kind o.last.op ≡ steps.branch ends.Switch
            by_lost true e = cc
            by_lost false e = cc

    pub return_kind : term_of f b ≡ return → IsReturn o.last.op
    return_kind e = by_exit (exit_of o.last.op) refl (sym term_is ∙ e)
      where
        by_exit : (x : Exit) → exit_of o.last.op ≡ x → By x return → IsReturn o.last.op
        by_exit Switch at e = cc
        by_exit Branch at e = cc
        by_exit Conditional at e = cc
        by_exit Leave at e = by_lost (is o.last.op code.Unreachable) refl e
          where
            by_lost : (l : Bool) → is o.last.op code.Unreachable ≡ l → term_by Leave (map (index_of f) (labels_by Leave o.last.args)) l ≡ return → IsReturn o.last.op
            by_lost true off e = cc
            by_lost false off e = return_step o.last.op ended.1 at off

    pub lost_kind : term_of f b ≡ lost → step_kind o.last.op ≡ steps.unreachable
    lost_kind e = by_exit (exit_of o.last.op) refl (sym term_is ∙ e)
      where
        by_exit : (x : Exit) → exit_of o.last.op ≡ x → By x lost → step_kind o.last.op ≡ steps.unreachable
        by_exit Switch at e = cc
        by_exit Branch at e = cc
        by_exit Conditional at e = cc
        by_exit Leave at e = by_lost (is o.last.op code.Unreachable) refl e
          where
            by_lost : (l : Bool) → is o.last.op code.Unreachable ≡ l → term_by Leave (map (index_of f) (labels_by Leave o.last.args)) l ≡ lost → step_kind o.last.op ≡ steps.unreachable
            by_lost true on e = lost_step o.last.op on
            by_lost false off e = cc

  -- and its node leads to as many blocks
  pub targets_of : ((i : Inst) → IsOf i (insts_of f) → IsFormed i) → (b : ℕ) (o : Body f b) → body b ≡ Some o → (e : Exit) → (nth (graph f) b).exit ≡ e → least_of e ≤ length (nth (graph f) b).targets
  targets_of few b o has e at =
      let ended = ends_by b o has in
      let node = node_is f b o.block o.there in
      let exit : exit_of o.last.op ≡ e = sym (ap (λ (n : Node). n.exit) node ∙ ap exit_by ended.0) ∙ at in
      let targets : (nth (graph f) b).targets ≡ map (index_of f) (labels_by e o.last.args) = ap (λ (n : Node). n.targets) node ∙ (ap (λ (x : Option Inst). map (index_of f) (target_labels x)) ended.0 ∙ ap (λ (x : Exit). map (index_of f) (labels_by x o.last.args)) exit) in
      subst (λ (l : List ℕ). least_of e ≤ length l) (sym targets) (by_exit e exit (few o.last ended.2).least)
    where
      count : (n : ℕ) (ls : List ℕ) → n ≤ length ls → n ≤ length (map (index_of f) ls)
      count n ls le = subst (λ (l : ℕ). n ≤ l) (sym (length-map ls (index_of f))) le

      one : (args : List ℕ) → 1 ≤ length args → 1 ≤ length (labels_by Branch args)
      one [] few = few
      one (a ∷ args) few = omega arith

      two : (args : List ℕ) → 3 ≤ length args → 2 ≤ length (labels_by Conditional args)
      two [] few = absurd (omega (arith, few))
      two (a ∷ []) few = absurd (omega (arith, few))
      two (a ∷ x ∷ []) few = absurd (omega (arith, few))
      two (a ∷ x ∷ y ∷ args) few = omega arith

      by_exit : (x : Exit) → exit_of o.last.op ≡ x → (shape o.last.op).least ≤ 1 + count_of (has_type o.last.op) + count_of (has_result o.last.op) + length o.last.args → least_of x ≤ length (map (index_of f) (labels_by x o.last.args))
      by_exit Branch at least = count 1 (labels_by Branch o.last.args) (one o.last.args ((branch_step o.last.op at).1 (length o.last.args) least))
      by_exit Conditional at least = count 2 (labels_by Conditional o.last.args) (two o.last.args ((conditional_step o.last.op at).1 (length o.last.args) least))
      by_exit Switch at least = omega arith
      by_exit Leave at least = omega arith

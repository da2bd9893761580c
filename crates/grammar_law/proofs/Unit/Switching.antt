-- A reached block that ends in OpSwitch leads to the blocks of its labels.
use Rattle.std.proofs.Common.{◌≡◌, ◌<◌, ◌≤◌, ◌+◌, ℕ, true, List, [], ◌∷◌, length, map, Option, Some, None, refl, sym, ap, ◌∙◌, subst, arith}
use Rattle.std.specs.Prelude.{slice_get, option_and_then}
use Rattle.spv_ops.specs.OpGroups.{group_of}
use Rattle.spv_ops.specs.Shape.{shape, count_of}
use Rattle.spv_ops.specs.declared.Op.{Op}
use Rattle.spv_ops.specs.declared.Op.TheVariants as code
use Rattle.spv_module.specs.Inst.{has_type, has_result}
use Rattle.spv_module.specs.declared.inst.Inst.{Inst}
use Rattle.spv_module.specs.declared.inst.Block.{Block}
use Rattle.spv_module.specs.declared.inst.Function.{Function}
use Rattle.spv_index.specs.Locals.{insts_of}
use Rattle.structure_rules.specs.declared.graph.Exit.{Exit}
use Rattle.structure_rules.specs.declared.graph.Exit.TheVariants.{Switch}
use Rattle.structure_rules.specs.declared.graph.Node.{Node}
use Rattle.structure_rules.specs.Graph.{index_of, terminator, exit_of, exit_by, labels_by, target_labels, graph, nth, is_switch}
use Rattle.spv_ops.specs.Groups.{is_terminator}
use Rattle.nest_place.proofs.Outward.{reached_inside}
use Rattle.block_graph.proofs.Within.{graph_sized}
use Rattle.function_law.proofs.Nodes.{node_is}
use Rattle.plan_law.specs.InOrder.{IsAmong}
use Rattle.claim_law.specs.Blocks.{FitWords}
use Rattle.typed_law.specs.Conforms.{IsFormed}
use Rattle.claim_law.specs.Claimed.{IsIn}
use Rattle.claim_law.proofs.Claim.Listed.{in_flat, at_place}
use Rattle.claim_law.proofs.Claim.Flags.{at_inside}
use Rattle.grammar_law.specs.Switches.{IsSwitchAt}
use Rattle.grammar_law.proofs.Unit.Lists.{found_by, as_among}

pub switch_exit : (x : Exit) → is_switch x ≡ true → x ≡ Switch
switch_exit Switch on = refl
switch_exit x on = cc

switch_least : (o : Op) (n : ℕ) → is_switch (exit_of o) ≡ true → (shape o).least ≤ 1 + count_of (has_type o) + count_of (has_result o) + n → 2 ≤ n
unfolding group_of shape
switch_least code.Switch n on least = omega (arith, least)
switch_least o n on least = cc

two_more : (args : List ℕ) → 2 ≤ length args → (a b : ℕ) × (words : List ℕ) × (args ≡ a ∷ b ∷ words)
two_more [] many = absurd (omega (arith, many))
two_more (a ∷ []) many = absurd (omega (arith, many))
two_more (a ∷ b ∷ words) many = (a, b, words, refl)

pub switch_at : (f : Function) → ((i : Inst) → IsAmong i (insts_of f) → IsFormed i) → ((i : Inst) → IsIn i (insts_of f) → FitWords i.args) → (h : ℕ) → (nth (graph f) h).reached ≡ true → is_switch (nth (graph f) h).exit ≡ true → IsSwitchAt f (graph f) h
switch_at f formed fit h reached on = by_block (at_inside f.blocks h (let inside = reached_inside (graph f) h reached in let size = graph_sized f in let low : h < length f.blocks = omega (arith, inside, size) in low))
  where
    by_block : (b : Block) × (slice_get f.blocks h ≡ Some b) → IsSwitchAt f (graph f) h
    by_block b = by_last (terminator b.0) refl (ap is_switch (sym (ap (λ (n : Node). n.exit) (node_is f h b.0 b.1))) ∙ on)
      where
        by_last : (o : Option Inst) → terminator b.0 ≡ o → is_switch (exit_by o) ≡ true → IsSwitchAt f (graph f) h
        by_last None ends on = cc
        by_last (Some last) ends on =
            let there = found_by (λ (i : Inst). is_terminator i.op) b.0.insts last ends in
            let among : IsIn last (insts_of f) = in_flat (λ (x : Block). x.insts) f.blocks b.0 last (at_place f.blocks h b.0 b.1) there.0 in
            let args = two_more last.args (switch_least last.op (length last.args) on (formed last (as_among (insts_of f) last among)).least) in
            record {
              last = last;
              selector = args.0;
              default = args.1;
              words = args.2;
              last_is = ap (option_and_then terminator) b.1 ∙ ends;
              args = args.3;
              leads = ap (λ (n : Node). n.targets) (node_is f h b.0 b.1) ∙ (ap (λ (o : Option Inst). map (index_of f) (target_labels o)) ends ∙ ap (λ (x : Exit). map (index_of f) (labels_by x last.args)) (switch_exit (exit_of last.op) on));
              fit = (subst FitWords args.3 (fit last among)).1.1;
            }

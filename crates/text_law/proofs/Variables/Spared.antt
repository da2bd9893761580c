-- The spares of a planned function have names: those that the claims of the text give.
use Rattle.std.proofs.Common.{◌≡◌, ◌<◌, ◌^◌, ℕ, Bool, true, false, List, [], length, Option, Some, None, inl, inr, refl, sym, subst, arith, if◌then◌else◌}
use Rattle.std.specs.List.{range_with_len}
use Rattle.spv_module.specs.State.{ModuleState}
use Rattle.spv_module.specs.declared.inst.Function.{Function}
use Rattle.structure_rules.specs.declared.graph.Exit.{Exit as Terminator}
use Rattle.structure_rules.specs.declared.graph.Exit.TheVariants as terminator
use Rattle.structure_rules.specs.declared.graph.Node.{Node}
use Rattle.structure_rules.specs.Graph.{graph, nth, leads_to}
use Rattle.block_graph.proofs.Within.{graph_sized}
use Rattle.nest_place.proofs.Outward.{reached_inside}
use Rattle.structure_recover.specs.Follows.{target, switch_targets}
use Rattle.conformance.specs.Rules.{Options}
use Rattle.phi_copies.specs.declared.moves.Move.{Move}
use Rattle.phi_copies.specs.declared.moves.Move.TheVariants.{Set, Save, Restore}
use Rattle.phi_copies.specs.Sequence.{IsSequence}
use Rattle.name_alloc.specs.declared.claims.Key.{Key}
use Rattle.name_alloc.specs.Naming.{name_of}
use Rattle.glsl_ast.specs.Tree.{TranslationUnit}
use Rattle.function_plan.specs.Once.{once, itself}
use Rattle.function_plan.specs.Phis.{pairs, firsts}
use Rattle.function_plan.specs.Targets.{targets_in}
use Rattle.function_text.specs.Functions.{FunctionPlan, written}
use Rattle.unit_rules.specs.Unit.{IsUnitOf}
use Rattle.claim_law.specs.Claimed.{IsIn, HasName}
use Rattle.claim_law.proofs.Claim.Listed.{at_place}
use Rattle.claim_law.proofs.Claim.Flags.{at_inside}
use Rattle.claim_law.proofs.Claim.Named.{spare_named}
use Rattle.grammar_law.proofs.Unit.Lists.{of_filter}
use Rattle.grammar_law.proofs.Grammar.Moving.{edge_moves}
use Rattle.grammar_law.proofs.Grammar.PairsOf.{in_once}
use Rattle.grammar_law.proofs.Grammar.Edges.{in_targets}
use Rattle.text_law.proofs.Variables.Plans.{spare_of_move, edge_spares, to_spares, exit_spares, block_spares, spares}
use Rattle.text_law.proofs.Variables.Named.{AllKeys, all_both, all_flat}

module _ (m : ModuleState) (o : Options) (unit : TranslationUnit) (u : IsUnitOf m o unit) (p : FunctionPlan) (among : IsIn p u.plans) (graph_is : p.graph ≡ graph (written p))
    (few : (b t : ℕ) → length (pairs m.globals p.scope.form (written p) b t) < 2 ^ 32) (moves_are : (b t : ℕ) → IsSequence (firsts (pairs m.globals p.scope.form (written p) b t)) (p.moves b t)) where
  abbrev f : Function
  f = written p

  abbrev g : List Node
  g = graph f

  abbrev Named : Key → Type 0
  Named key = HasName (name_of u.claimed) key

  module _ (b : ℕ) (here : (nth g b).reached ≡ true) where
    inside : b < length f.blocks
    inside = let less = reached_inside g b here in let size = graph_sized f in omega (arith, less, size)

    module _ (t : ℕ) (leads : IsIn t (nth g b).targets) where
      aimed : IsIn t (once itself (targets_in p.graph b))
      aimed =
          subst (λ (h : List Node). IsIn t (once itself (targets_in h b))) (sym graph_is)
          (subst (λ (r : Bool). IsIn t (once itself (if r then (nth g b).targets else []))) (sym here)
          (in_once (λ n. false) (nth g b).targets t refl leads))

      move_named : (x : Move) → IsIn x (p.moves b t) → AllKeys Named (spare_of_move p b t x)
      move_named (Set v s) there = λ key none. absurd none
      move_named (Restore v k) there = λ key none. absurd none
      move_named (Save k v) there = λ key one. elim one [
        | inl same ↦
            let less = edge_moves (pairs m.globals p.scope.form f b t) (p.moves b t) (moves_are b t) (few b t) (Save k v) there in
            let block = at_inside f.blocks b inside in
            subst Named same (spare_named m o unit u p b t k block.0 among block.1 aimed less.0)
        | inr none ↦ absurd none
      ]

      edge_named : AllKeys Named (edge_spares p b t)
      edge_named = all_flat Named (spare_of_move p b t) (p.moves b t) move_named

    to_named : (k : ℕ) (q : Option ℕ) → target g b k ≡ q → AllKeys Named (to_spares p b q)
    to_named k None at = λ key none. absurd none
    to_named k (Some t) at = edge_named t (at_place (nth g b).targets k t at)

    exit_named : (e : Terminator) → AllKeys Named (exit_spares p b e)
    exit_named terminator.Branch = to_named 0 (target g b 0) refl
    exit_named terminator.Conditional = all_both Named (to_spares p b (target g b 0)) (to_spares p b (target g b 1)) (to_named 0 (target g b 0) refl) (to_named 1 (target g b 1) refl)
    exit_named terminator.Switch = all_flat Named (edge_spares p b) (switch_targets g b) (λ t there.
        edge_named t (in_targets (nth g b).targets t (of_filter (λ t. leads_to t (nth g b)) (range_with_len 0 (length g)) t there).1))
    exit_named terminator.Leave = λ key none. absurd none

  pub spares_named : AllKeys Named (spares p)
  spares_named = all_flat Named (block_spares p) (range_with_len 0 (length g)) (λ b there. by_reached b (nth g b).reached refl)
    where
      by_reached : (b : ℕ) (q : Bool) → (nth g b).reached ≡ q → AllKeys Named (if q then exit_spares p b (nth g b).exit else [])
      by_reached b true here = exit_named b here (nth g b).exit
      by_reached b false here = λ key none. absurd none

-- What the definitions of a plan say of its tree, as the law of what it declares asks.
use Rattle.std.proofs.Common.{◌≡◌, ◌==◌, ℕ, Bool, true, false, List, length, refl, sym, ap, ◌∙◌, subst}
use Rattle.std.specs.Prelude.{filter, is_some}
use Rattle.std.specs.List.{list_any, range_with_len}
use Rattle.std.proofs.lemmas.Bool.{and_from}
use Rattle.structure_rules.specs.declared.graph.Node.{Node}
use Rattle.structure_rules.specs.Graph.{graph, nth}
use Rattle.structure_rules.specs.Nesting.{first_of}
use Rattle.structure_rules.specs.Structure.{fall_links}
use Rattle.nest_place.specs.Nests.{IsSound}
use Rattle.nest_place.proofs.Each.{filter_has, has_filter}
use Rattle.structure_recover.specs.Tree.{Groups}
use Rattle.structure_recover.specs.Follows.{switch_targets, continue_block}
use Rattle.switch_ladder.specs.Flags.{needs_again, needs_leave, needs_fell}
use Rattle.region_law.specs.Leads.{Term, In, IsOrder}
use Rattle.tree_law.specs.Written.{IsWritten}
use Rattle.tree_law.proofs.SwitchOrder.{list_in, order_is}
use Rattle.text_rules.specs.Constants.{Source}
use Rattle.function_plan.specs.Phis.{phi_blocks}
use Rattle.function_text.specs.Functions.{FunctionPlan, written, blocks_of}
use Rattle.unit_rules.specs.Translation.{Naming, IsPlanOf}
use Rattle.text_law.proofs.Variables.Regions.{IsTold}
use Rattle.text_law.proofs.Variables.Plans.{IsKnown}
use Rattle.text_law.proofs.Variables.Sets.{AreSet}

-- of those that pass, the block is one just where it passes
among_is : (test : ℕ → Bool) (ts : List ℕ) (b : ℕ) → In b ts → list_any (λ u. u == b) (filter test ts) ≡ test b
among_is test ts b there = by_test (test b) refl
  where
    by_test : (q : Bool) → test b ≡ q → list_any (λ u. u == b) (filter test ts) ≡ q
    by_test true on = has_filter test ts b (list_in b ts there) on
    by_test false off = by_any (list_any (λ u. u == b) (filter test ts)) refl
      where
        by_any : (q : Bool) → list_any (λ u. u == b) (filter test ts) ≡ q → q ≡ false
        by_any false e = refl
        by_any true e = let never : true ≡ false = sym (filter_has test ts b e).1 ∙ off in cc

module _ (src : Source) (found : Naming) (p : FunctionPlan) (planned : IsPlanOf src found (written p) p) (sound : IsSound (graph (written p))) (term : ℕ → Term) (Cases : ℕ → Groups → Type 0) (is_written : IsWritten (written p) (graph (written p)) (blocks_of p) term Cases) (sets : AreSet p.scope) where
  abbrev g : List Node
  g = graph (written p)

  told : IsTold (written p) g (blocks_of p)
  told = record {
    target_is = is_written.target_is;
    again_is = λ h c here at. is_written.again h (and_from (nth g h).reached (is_some (continue_block g h)) here (ap is_some at));
    falls = first_of (fall_links g);
    order_is = λ h here on. subst (λ (ts : List ℕ). IsOrder (first_of (fall_links g)) ts (switch_targets g h)) (sym (is_written.order_is h here on)) (order_is g sound h here on);
  }

  pub known : IsKnown p
  known = record {
    tree = planned.tree;
    sound = sound;
    told = told;
    sets = sets;
    again_is = λ b there. planned.again_is b ∙ among_is (needs_again g) (range_with_len 0 (length g)) b there;
    leave_is = λ b there. planned.leave_is b ∙ among_is (needs_leave g) (range_with_len 0 (length g)) b there;
    fell_is = λ b there. planned.fell_is b ∙ among_is (needs_fell g (phi_blocks p.scope.form (written p))) (range_with_len 0 (length g)) b there;
  }

-- The tree of a planned function, its flags and the order of its groups are as its shape asks.
use Rattle.std.proofs.Common.{◌≡◌, ◌<◌, ◌≤◌, ◌+◌, ◌==◌, ◌&&◌, ◌++◌, not, ℕ, Bool, true, List, [], length, filter, Some, refl, sym, ap, ◌∙◌, subst, if◌then◌else◌, arith}
use Rattle.std.specs.Prelude.{is_some, slice_index}
use Rattle.std.specs.List.{concat, list_any}
use Rattle.std.proofs.lemmas.Bool.{and_from}
use Rattle.spv_module.specs.State.{ModuleState}
use Rattle.spv_module.specs.declared.inst.Function.{Function}
use Rattle.structure_rules.specs.declared.graph.Node.{Node}
use Rattle.structure_rules.specs.Graph.{graph, nth, is_switch}
use Rattle.nest_place.specs.Nests.{IsSound}
use Rattle.nest_place.proofs.Outward.{reached_inside}
use Rattle.structure_recover.specs.Follows.{target, continue_block, switch_targets}
use Rattle.switch_ladder.specs.Ladder.{chains_of}
use Rattle.switch_ladder.specs.Flags.{needs_again}
use Rattle.conformance.specs.Rules.{Options}
use Rattle.name_alloc.specs.declared.claims.Key.TheVariants.{Again, Leave, Fell}
use Rattle.name_alloc.specs.Naming.{name_of}
use Rattle.glsl_ast.specs.Tree.{Text, TranslationUnit}
use Rattle.text_rules.specs.Constants.{Source}
use Rattle.function_plan.specs.Orders.{order_of, is_reached_switch}
use Rattle.function_plan.specs.Targets.{target_of}
use Rattle.function_text.specs.Functions.{FunctionPlan, label_of, when, blocks_of}
use Rattle.unit_rules.specs.Translation.{Naming, IsPlanOf}
use Rattle.unit_rules.specs.Unit.{IsUnitOf}
use Rattle.list_law.proofs.Lists.{get_index}
use Rattle.region_law.specs.Leads.{In, AreApart}
use Rattle.tree_law.proofs.SwitchOrder.{order_is}
use Rattle.claim_law.specs.Blocks.{IsWhole}
use Rattle.claim_law.specs.Claimed.{IsIn}
use Rattle.claim_law.proofs.Claim.Flags.{again_key, leave_key, fell_key}
use Rattle.grammar_law.specs.Switches.{IsSwitchAt, IsReached, Chooses, Leads}
use Rattle.grammar_law.proofs.Unit.Whole.{tree-whole}
use Rattle.text_law.proofs.Naming.Tree.{among_that}
use Rattle.text_law.specs.Quiet.{AreFlags}

-- flags have the names of their keys
pub flags_keyed : (m : ModuleState) (o : Options) (unit : TranslationUnit) (u : IsUnitOf m o unit) (p : FunctionPlan) → IsIn p u.plans → AreFlags (name_of u.claimed) (blocks_of p)
flags_keyed m o unit u p among = record {
  again = λ b x is. (Again (label_of p b), refl, (again_key m o unit u p among b x is).1);
  leave = λ b x is. (Leave (label_of p b), refl, (leave_key m o unit u p among b x is).1);
  fell = λ b x is. (Fell (label_of p b), refl, (fell_key m o unit u p among b x is).1);
}

module _ (src : Source) (found : Naming) (f : Function) (plan : FunctionPlan) (planned : IsPlanOf src found f plan) (sound : IsSound (graph f)) where
  abbrev g : List Node
  g = graph f

  -- a loop with a continue block has a flag
  pub again_written : (h c : ℕ) → IsReached g h → continue_block g h ≡ Some c → (x : Text) × ((blocks_of plan).again h ≡ Some x)
  again_written h c here at =
      let on : needs_again g h ≡ true = and_from (nth g h).reached (is_some (continue_block g h)) here (ap is_some at) in
      let inside = reached_inside g h here in
      let flag : plan.again h ≡ true = planned.again_is h ∙ among_that (needs_again g) (length g) 0 h on (let low : 0 ≤ h = omega arith in low) (let high : h < 0 + length g = omega (arith, inside) in high) in
      (plan.scope.setting.key (Again (label_of plan h)), ap (λ (t : Bool). when t (plan.scope.setting.key (Again (label_of plan h)))) flag)

  -- a switch is written with each of its targets
  pub orders_whole : (h : ℕ) → IsReached g h → is_switch (nth g h).exit ≡ true → AreApart (switch_targets g h) × ((t : ℕ) → In t (switch_targets g h) → In t ((blocks_of plan).order h))
  orders_whole h here on =
      let order = order_is g sound h here on in
      let test : is_reached_switch (nth g h) ≡ true = ap (λ (r : Bool). r && is_switch (nth g h).exit) here ∙ on in
      let same : plan.order h ≡ concat (chains_of g h) ++ filter (λ t. not (list_any (λ u. u == t) (concat (chains_of g h)))) (switch_targets g h) = planned.order_is h ∙ ap (λ (t : Bool). if t then order_of g h else []) test in
      (order.all_apart, λ t there. subst (In t) (sym same) (order.in_order t there))

  aimed : (b k t : ℕ) → IsReached g b → target g b k ≡ Some t → (blocks_of plan).target b k ≡ t
  aimed b k t here at =
      ap (λ (x : List Node). target_of x b k) planned.graph_is
      ∙ (ap (λ (r : Bool). slice_index (if r then (nth g b).targets else []) k) here ∙ get_index (nth g b).targets k t at)

  -- in its tree stand reached blocks
  pub plan_whole : ((h : ℕ) → IsReached g h → is_switch (nth g h).exit ≡ true → IsSwitchAt f g h) → IsWhole (blocks_of plan) (IsReached g) (Chooses g) (Leads g) plan.region
  plan_whole switches = tree-whole f sound switches (blocks_of plan) planned.order_is aimed plan.region planned.tree

use Rattle.std.proofs.Common.{◌≡◌, ◌∙◌, List, ap, map, refl, subst}
use Rattle.spv_module.specs.declared.inst.Function.{Function}
use Rattle.structure_rules.specs.declared.graph.Node.{Node}
use Rattle.structure_rules.specs.Graph.{graph}
use Rattle.hoist_plan.specs.Kept.{form_in}
use Rattle.structure_recover.specs.Follows.{IsTree}
use Rattle.structure_recover.specs.View.{region_of}
use Rattle.function_plan.specs.Orders.{order_by}
use Rattle.function_plan.specs.Plans.{AreFlags}
use Rattle.function_plan.specs.Planned.{is_named_in, is_reached_node}
use Rattle.function_plan.proofs.Small.{small_short}
use Rattle.function_plan.proofs.plan.FunctionPlan.of.Goals as goal

pub invariant_of-result : goal.invariant_of-result
invariant_of-result g c = record { short = small_short c.args.locals c.requires.small }

pub returns : goal.returns
returns g c =
    let f : Function = c.args.locals in
    let form = form_in c.in_ok-naming.naming in
    let own : c.function-function.result.now ≡ f = c.function-function.ensures in
    let nodes_are : c.into_nodes-nodes.result.items ≡ graph f = c.into_nodes-nodes.ensures ∙ c.requires.places in
    let read : c.as_slice.result.now ≡ graph f = c.as_slice.ensures.value ∙ nodes_are in
    let flow = c.in_ok-region.ensures in
    record {
      of_module = refl;
      of_function = refl;
      graph_is = nodes_are;
      reached_is = c.in_ok-reached.ensures ∙ ap (map is_reached_node) c.requires.places;
      naming = c.in_ok-naming.ensures;
      named = λ n. c.in_ok-named.ensures n ∙ (ap (λ (g : List Node). is_named_in form g c.function-function.result.now.blocks n) read ∙ ap (λ (l : Function). is_named_in form (graph f) l.blocks n) own);
      tree = subst (λ (l : Function). IsTree l (region_of c.in_ok-region.field-0.region)) own flow.tree;
      moves = c.in_ok-moves.ensures;
      flags = subst (λ (l : Function). AreFlags l form c.in_ok-region.field-0.flags) own flow.flags;
      orders = λ h. flow.orders h ∙ ap (λ (l : Function). order_by (graph l) h) own;
    }

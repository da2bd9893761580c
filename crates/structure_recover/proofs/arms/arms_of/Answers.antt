use Rattle.std.proofs.Common.{◌∙◌, ap, subst}
use Rattle.std.specs.List.{zip}
use Rattle.structure_rules.specs.declared.graph.Node.{Node}
use Rattle.structure_recover.specs.Follows.{firsts}
use Rattle.structure_recover.specs.Arms.{Adds}
use Rattle.structure_recover.proofs.Armed.{are_arms}
use Rattle.structure_recover.proofs.arms.arms_of.Goals as goal

pub returns : goal.returns
returns c =
    let ts = c.as_slice-targets.result.now in
    let ls = firsts c.cases_of.result.now in
    let bare = c.in_ok-arms.arms.items in
    let arms = c.add_literals.new.arms.items in
    are_arms c.args.f.now c.args.places.now c.args.head c.in_ok-order.order.items ts ls c.default_target.result bare arms
    c.node.ensures.sound c.requires (c.as_slice-targets.ensures ∙ ap (λ (n : Node). n.targets) c.node.ensures.node) c.cases_of.ensures c.default_target.ensures
    c.in_ok-order.ensures.up c.in_ok-order.ensures.same (c.in_ok-arms.ensures.targets ∙ c.deref.ensures.value) c.in_ok-arms.ensures.bare
    (subst (λ xs. Adds (zip xs ls) bare arms) c.case_targets.ensures c.in_ok-add_literals.ensures)

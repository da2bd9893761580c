use Rattle.std.proofs.Common.{◌≡◌, true, sym, ◌∙◌}
use Rattle.profile_rules.specs.FlowRules.{is_target}
use Rattle.type_rules.proofs.Sources.{operand_added}
use Rattle.type_rules.proofs.edges.Adding.add_operand.Goals as goal

pub returns-in_ok-add_edge : goal.returns-in_ok-add_edge
returns-in_ok-add_edge c =
    let there : is_target c.args.op c.args.k ≡ true = sym c.is_target.ensures ∙ c.if-is_target.true in
    operand_added c.args.self.now.locals.now c.args.self.now.source c.args.label (is_target c.args.op c.args.k) c.args.lists.now.items c.add_edge.new.lists.items there c.in_ok-add_edge.ensures

use Rattle.std.proofs.Common.{◌≡◌, Some, sym, ◌∙◌}
use Rattle.spv_index.specs.Locals.{block_in}
use Rattle.type_rules.proofs.Sources.{edge_added}
use Rattle.type_rules.proofs.edges.Adding.add_edge.Goals as goal

pub returns-in_ok-add_at-in-Some : goal.returns-in_ok-add_at-in-Some
returns-in_ok-add_at-in-Some c =
    let found : block_in c.args.self.now.locals.now c.args.label ≡ Some c.in-Some.at = sym c.block.ensures ∙ c.in-Some.is in
    edge_added c.args.self.now.locals.now c.args.self.now.source c.args.label c.in-Some.at c.args.lists.now.items c.add_at.new.lists.items found c.in_ok-add_at-in-Some.ensures

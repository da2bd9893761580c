use Rattle.std.proofs.Common.{◌∙◌}
use Rattle.nest_place.proofs.Reading.{edge_read}
use Rattle.nest_place.proofs.found.Places.has_edge.Goals as goal

pub returns : goal.returns
returns c = c.leads_to.ensures ∙ edge_read c.nodes.result.now c.args.self.now c.args.from c.args.to c.index-nodes-from.result (c.nodes.ensures ∙ c.self.view_is) c.requires c.index-nodes-from.is

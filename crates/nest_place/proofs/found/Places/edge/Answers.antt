use Rattle.std.proofs.Common.{refl}
use Rattle.nest_place.proofs.OneKind.{only_kind}
use Rattle.nest_place.proofs.found.Places.edge.Goals as goal

pub returns-clause-only : goal.returns-clause-only
returns-clause-only c = only_kind c.self.inside.nest c.args.self.now c.args.from c.args.from c.args.to c.kind.result c.unwrap.result c.self.invariant.0 c.self.view_is refl c.kind.ensures c.unwrap.ensures c.requires.reached c.requires.leads

use Rattle.std.proofs.Common.{refl}
use Rattle.structure_recover.proofs.Onward.{not_enter}
use Rattle.structure_recover.proofs.edges.along.Goals as goal

pub returns-in_default : goal.returns-in_default
returns-in_default c = record {
  carries = (refl, refl, c.edge.ensures.kind, not_enter c.args.places.now c.args.from c.args.to c.edge.result c.edge.ensures.only c.in_default.not-Enter);
  later = tt;
}

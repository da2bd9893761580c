use Rattle.std.proofs.Common.{subst}
use Rattle.typed_law.specs.Words.{AreBytes}
use Rattle.cross_core.proofs.answers.read_given.Goals as goal

pub returns-clause-octets : goal.returns-clause-octets
returns-clause-octets c = subst AreBytes c.deref.ensures.value c.read_octets.ensures.octets

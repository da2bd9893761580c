use Rattle.cross_core.proofs.Given.{are_bytes}
use Rattle.cross_core.proofs.answers.read_octets.Goals as goal

pub returns-clause-octets : goal.returns-clause-octets
returns-clause-octets c = are_bytes c.args.bytes.now c.type_inv.bytes

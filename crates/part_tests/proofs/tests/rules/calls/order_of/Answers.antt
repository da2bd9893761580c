use Rattle.module_check.proofs.OfBytes.{read_is}
use Rattle.part_tests.proofs.tests.rules.calls.order_of.Goals as goal

pub check_module-requires-clause-read : goal.check_module-requires-clause-read
check_module-requires-clause-read c = read_is _ c.in_ok-module.module c.in_ok-module.ensures.read

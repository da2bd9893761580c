use Rattle.std.proofs.Common.{rules}
use Rattle.declaration_check.proofs.Listed.{checked_found}
use Rattle.declaration_check.proofs.heads.check_capabilities.Goals as goal

pub returns : goal.returns
returns c = search (rules, checked_found)

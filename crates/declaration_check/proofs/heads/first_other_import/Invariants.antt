use Rattle.std.proofs.Common.{◌≡◌, drop}
use Rattle.std.specs.List.{find}
use Rattle.profile_rules.specs.Heads.{is_other_import}
use Rattle.declaration_check.proofs.heads.first_other_import.Given as goal

abbrev pub invariant-loop-inst : goal.invariant-loop-inst
invariant-loop-inst l = find is_other_import (drop l.inst-index l.inst-items) ≡ find is_other_import l.context.heads

use Rattle.std.proofs.Common.{◌≡◌, take}
use Rattle.std.specs.List.{flat_map}
use Rattle.profile_rules.specs.TypeForm.{parts_of}
use Rattle.declaration_check.proofs.uses.all_parts.Given as goal

abbrev pub invariant-loop-inst : goal.invariant-loop-inst
invariant-loop-inst l = l.ids.items ≡ flat_map parts_of (take l.inst-index l.inst-items)

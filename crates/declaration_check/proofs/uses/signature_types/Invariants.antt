use Rattle.std.proofs.Common.{◌≡◌, take}
use Rattle.std.specs.List.{flat_map}
use Rattle.profile_rules.specs.TypeForm.{signature}
use Rattle.declaration_check.proofs.uses.signature_types.Given as goal

abbrev pub invariant-loop-function : goal.invariant-loop-function
invariant-loop-function l = l.ids.items ≡ flat_map signature (take l.function-index l.function-items)

use Rattle.std.proofs.Common.{◌≡◌, ◌++◌, take}
use Rattle.std.specs.List.{flat_map}
use Rattle.profile_rules.specs.TypeForm.{signature}
use Rattle.text_items.specs.State.{functions_at}
use Rattle.text_items.proofs.types.add_signatures.Given as goal

abbrev pub invariant-loop-function : goal.invariant-loop-function
invariant-loop-function l = l.types.items ≡ l.initial.types.items ++ flat_map signature (functions_at (take l.function-index l.functions))

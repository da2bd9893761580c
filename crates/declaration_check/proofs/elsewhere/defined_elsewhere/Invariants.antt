use Rattle.std.proofs.Common.{◌≡◌, ◌||◌, ℕ, take}
use Rattle.std.specs.List.{list_any}
use Rattle.id_map.specs.Entries.{is_in}
use Rattle.profile_rules.specs.Places.{defines}
use Rattle.declaration_check.proofs.elsewhere.defined_elsewhere.Given as goal

abbrev pub invariant-loop-function : goal.invariant-loop-function
invariant-loop-function l = (id : ℕ) → is_in l.ids id ≡ (is_in l.initial.ids id || list_any (defines id) (take l.function-index l.function-items))

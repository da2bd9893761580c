use Rattle.std.proofs.Common.{◌≡◌, ◌||◌, ℕ, take}
use Rattle.profile_rules.specs.Places.{is_among}
use Rattle.id_map.specs.Entries.{is_in}
use Rattle.declaration_check.proofs.uses.add_ids.Given as goal

abbrev pub invariant-loop-id : goal.invariant-loop-id
invariant-loop-id l = (id : ℕ) → is_in l.set id ≡ (is_in l.initial.set id || is_among (take l.id-index l.ids) id)

use Rattle.std.proofs.Common.{◌≡◌, ◌||◌, ℕ, take}
use Rattle.id_map.specs.Entries.{is_in}
use Rattle.memory_places.specs.Mentions.{mention, with_ids}
use Rattle.memory_places.proofs.mentions.add_functions.Given as goal

abbrev pub invariant-loop-function : goal.invariant-loop-function
invariant-loop-function l = (id : ℕ) → is_in l.ids id ≡ (is_in l.initial.ids id || mention (with_ids (is_in l.called) (take l.function-index l.functions)) id)

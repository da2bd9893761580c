use Rattle.std.proofs.Common.{◌≡◌, ℕ, take}
use Rattle.id_map.specs.Entries.{is_in}
use Rattle.memory_places.specs.Mentions.{is_among_ids}
use Rattle.memory_places.proofs.mentions.set_of.Given as goal

abbrev pub invariant-loop-id : goal.invariant-loop-id
invariant-loop-id l = (id : ℕ) → is_in l.set id ≡ is_among_ids (take l.id-index l.ids) id

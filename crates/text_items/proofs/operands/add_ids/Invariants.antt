use Rattle.std.proofs.Common.{◌≡◌, ◌==◌, ◌||◌, ℕ, take}
use Rattle.std.specs.List.{list_any}
use Rattle.id_map.specs.Entries.{is_in}
use Rattle.text_items.proofs.operands.add_ids.Given as goal

abbrev pub invariant-loop-word : goal.invariant-loop-word
invariant-loop-word l = (id : ℕ) → is_in l.ids id ≡ (is_in l.initial.ids id || list_any (λ word. word == id) (take l.word-index l.words))

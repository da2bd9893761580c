use Rattle.std.proofs.Common.{◌≡◌, ◌||◌, ℕ, take}
use Rattle.std.specs.List.{list_any}
use Rattle.id_map.specs.Entries.{is_in}
use Rattle.text_rules.specs.Printed.{is_length_of}
use Rattle.text_items.proofs.needed.add_lengths.Given as goal

abbrev pub invariant-loop-inst : goal.invariant-loop-inst
invariant-loop-inst l = (id : ℕ) → is_in l.needed id ≡ (is_in l.initial.needed id || list_any (is_length_of id) (take l.inst-index l.globals))

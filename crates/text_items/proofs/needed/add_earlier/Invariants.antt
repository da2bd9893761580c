use Rattle.std.proofs.Common.{◌≡◌, ℕ, drop}
use Rattle.id_map.specs.Entries.{is_in}
use Rattle.text_rules.specs.Printed.{needed_from}
use Rattle.text_items.proofs.needed.add_earlier.Given as goal

abbrev pub invariant-loop-k : goal.invariant-loop-k
invariant-loop-k l = (id : ℕ) → is_in l.needed id ≡ needed_from l.readings (is_in l.initial.needed) (drop l.k l.globals) id

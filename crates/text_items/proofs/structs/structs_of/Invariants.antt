use Rattle.std.proofs.Common.{◌≡◌, ℕ, take}
use Rattle.std.specs.List.{list_any}
use Rattle.id_map.specs.Entries.{is_in}
use Rattle.text_rules.specs.Printed.{type_has_struct}
use Rattle.text_items.specs.State.{HasThose}
use Rattle.text_items.proofs.structs.structs_of.Given as goal

abbrev pub invariant-loop-ty : goal.invariant-loop-ty
invariant-loop-ty l = record {
  found : (id : ℕ) → is_in l.found id ≡ list_any (type_has_struct l.module.globals id) (take l.ty-index l.types);
  those : HasThose l.module.globals l.seen l.found;
}

-- One of truth values, or all of them.
use Rattle.std.specs.Prelude.{Bool, true, false, List, ◌||◌, ◌&&◌}
use Rattle.std.specs.List.{list_any, list_all}
use Rattle.value_ops.specs.declared.truths.Quantity.{Quantity}
use Rattle.value_ops.specs.declared.truths.Quantity.TheVariants.{Any, All}

abbrev pub over : Quantity → List Bool → Bool
over Any = list_any (λ b. b)
over All = list_all (λ b. b)

-- of no truth values, and of one more behind those of which it is known
abbrev pub of_none : Quantity → Bool
of_none Any = false
of_none All = true

abbrev pub with_next : Quantity → Bool → Bool → Bool
with_next Any known next = known || next
with_next All known next = known && next

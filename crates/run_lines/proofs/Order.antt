-- Rows in order.
use Rattle.std.proofs.Common.{◌≡◌, false, refl}
use Rattle.std.specs.Ordering.{is_lt, ordering_then}
use Rattle.std.specs.declared.cmp.Ordering.{Ordering}
use Rattle.std.specs.declared.cmp.Ordering.TheVariants.{Less, Equal, Greater}

-- what is not less by an order and then another is not less by the first
pub first_order : (o p : Ordering) → is_lt (ordering_then o p) ≡ false → is_lt o ≡ false
first_order Less p h = h
first_order Equal p h = refl
first_order Greater p h = refl

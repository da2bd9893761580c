-- Tests joined by `or`.
use Rattle.std.proofs.Common.{◌≡◌, Bool, true, false, ◌||◌, refl}

pub or_three : (o a b c : Bool) → (((o || a) || b) || c) ≡ (o || ((a || b) || c))
or_three true a b c = refl
or_three false a b c = refl

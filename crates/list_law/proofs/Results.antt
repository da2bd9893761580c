-- What is so of any results.
use Rattle.std.proofs.Common.{Result, Ok, Err, IfOk}

-- what follows from two clauses of an answer
pub if_ok_both : {T E : Type 0} (P Q R : T → Type 0) (r : Result T E) → ((x : T) → P x → Q x → R x) → IfOk r P → IfOk r Q → IfOk r R
if_ok_both P Q R (Ok x) f p q = f x p q
if_ok_both P Q R (Err e) f p q = tt

-- Facts of results.
use Rattle.std.specs.Prelude.{Result, Ok, Err, OnOk, OnErr}

pub on_ok : {A E : Type 0} {P Q : Type 0} (r : Result A E) → OnOk r P → (P → Q) → OnOk r Q
on_ok (Ok a) h f = f h
on_ok (Err e) h f = tt

pub err_by : {A E : Type 0} {P : Type 0} (r : Result A E) → P → OnErr r P
err_by (Ok a) h = tt
err_by (Err e) h = h

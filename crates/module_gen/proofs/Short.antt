-- A row of a table whose rows are short is short.
use Rattle.std.proofs.Common.{◌≡◌, ◌<◌, ◌≤◌, ℕ, List, length, true, slice_index_or, arith}
use Rattle.std.specs.Borrow.{Bor}
use Rattle.std.specs.Prelude.{IsTrue, nat_le}
use Rattle.std.proofs.lemmas.List.Sums.{AllPass-from_list_all}
use Rattle.std.proofs.lemmas.Bool.Decides.{nat_tests}
use Rattle.spv_ops.specs.declared.Op.{Op}
use Rattle.module_gen.specs.Rows.{are_short}

pub short_at : (rows : List (Op × Bor (List ℕ))) (i : ℕ) (other : Op × Bor (List ℕ)) → IsTrue (are_short rows) → i < length rows → length (slice_index_or rows i other).1.now ≤ 65534
short_at rows i other short below =
    let test : nat_le (length (slice_index_or rows i other).1.now) 65534 ≡ true = AllPass-from_list_all (λ row. nat_le (length row.1.now) 65534) rows short i other below in
    grind (arith, nat_tests)

-- When two pairs are the same.
use Rattle.std.proofs.Common.{◌≡◌, ◌==◌, ◌&&◌, ℕ, true, sym, ◌∙◌, arith}
use Rattle.std.specs.Ordering.{is_eq}
use Rattle.std.proofs.lemmas.Bool.Decides.{nat_tests}
use Rattle.list_law.proofs.Numbers.{order_pairs}
use Rattle.type_rules.specs.Edges.{pair_cmp}

pub same_pair : (a b : ℕ × ℕ) → is_eq (pair_cmp a b) ≡ true → a ≡ b
same_pair (a, b) (c, d) same =
    let both : ((a == c) && (b == d)) ≡ true = sym (order_pairs (a, b) (c, d)) ∙ same in
    grind (arith, nat_tests, both)

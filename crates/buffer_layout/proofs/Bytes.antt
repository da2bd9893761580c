-- Bytes counted up to a cap, member by member.
use Rattle.std.proofs.Common.{◌≡◌, ◌≤◌, ◌<◌, ℕ, ◌+◌, List, refl, ap, arith, drop, length, get_or, min, max, inl, inr}
use Rattle.std.proofs.lemmas.Bool.{cases_lt}
use Rattle.spv_module.specs.declared.tree.Shape.{Shape}
use Rattle.spv_types.specs.Tree.{Trees, no_trees, tree}
use Rattle.spv_types.specs.View.{tree_of, trees_of}
use Rattle.spv_types.proofs.Heads.{rest_next, rest_end}
use Rattle.layout_rules.specs.declared.Kind.{Kind}
use Rattle.layout_rules.specs.Sizes.{aligned, alignment_of, greatest_alignment, size_of, end_from}

pub aligned_above : (n a : ℕ) → n ≤ aligned n a
unfolding aligned
aligned_above n a = omega arith

-- no alignment is greater than that of a vector of four
pub aligned_to_most : (a : ℕ) → 0 < a → a ≤ 16 → aligned a 16 ≡ 16
unfolding aligned
aligned_to_most a positive small = omega arith

-- counting up to a cap, and then to the next multiple, does not lose more
pub capped_aligned : (n a cap : ℕ) → min cap (aligned (min cap n) a) ≡ min cap (aligned n a)
capped_aligned n a cap =
    elim (cases_lt n cap) [
      | inl w ↦ let whole : min cap n ≡ n = omega (arith, w) in rw whole refl
      | inr w ↦ let cut : min cap n ≡ cap = omega (arith, w) in rw cut (omega (arith, w, aligned_above cap a, aligned_above n a))
    ]

pub end_above : (kind : Kind) (end : ℕ) (ts : Trees) → end ≤ end_from kind end ts
end_above kind end no_trees = omega arith
end_above kind end (tree t ts) = omega (arith, aligned_above end (alignment_of kind t), end_above kind (aligned end (alignment_of kind t) + size_of kind t) ts)

pub end_next : (kind : Kind) (end : ℕ) (l : List Shape) (i : ℕ) (d : Shape) → i < length l → end_from kind end (trees_of (drop i l)) ≡ end_from kind (aligned end (alignment_of kind (tree_of (get_or l i d))) + size_of kind (tree_of (get_or l i d))) (trees_of (drop (i + 1) l))
end_next kind end l i d inside = ap (end_from kind end) (rest_next l i d inside)

pub end_last : (kind : Kind) (end : ℕ) (l : List Shape) (i : ℕ) → length l ≤ i → end_from kind end (trees_of (drop i l)) ≡ end
end_last kind end l i past = ap (end_from kind end) (rest_end l i past)

pub greatest_next : (kind : Kind) (l : List Shape) (i : ℕ) (d : Shape) → i < length l → greatest_alignment kind (trees_of (drop i l)) ≡ max (alignment_of kind (tree_of (get_or l i d))) (greatest_alignment kind (trees_of (drop (i + 1) l)))
greatest_next kind l i d inside = ap (greatest_alignment kind) (rest_next l i d inside)

pub greatest_positive : (kind : Kind) (ts : Trees) → 0 < greatest_alignment kind ts
greatest_positive kind no_trees = omega arith
greatest_positive kind (tree t ts) = omega (arith, greatest_positive kind ts)

-- Tests of a struct's members, one by one.
use Rattle.std.proofs.Common.{◌≡◌, ◌<◌, ◌==◌, ◌||◌, ℕ, zero, suc, ◌+◌, Bool, true, false, List, [], ◌∷◌, refl, ap, ◌∙◌, arith, drop, take, length, get_or, min, is_none, nat_lt}
use Rattle.std.proofs.lemmas.Bool.Decides.{nat_tests}
use Rattle.spv_module.specs.declared.inst.Inst.{Inst}
use Rattle.spv_module.specs.declared.tree.Shape.{Shape}
use Rattle.spv_types.specs.Tree.{Tree}
use Rattle.spv_types.specs.View.{tree_of, trees_of}
use Rattle.spv_types.proofs.Heads.{rest_next}
use Rattle.layout_rules.specs.declared.Kind.{Kind}
use Rattle.layout_rules.specs.Sizes.{aligned, alignment_of, size_of, end_from}
use Rattle.layout_rules.specs.Parts.{part_id, any_part, any_member}
use Rattle.layout_rules.specs.Rules.{offset_of, lacks_from, is_other, others_from, is_past}
use Rattle.buffer_layout.proofs.Bytes.{capped_aligned}

-- a number below the cap is told from others that were cut at it
pub capped_test : (literal m n cap : ℕ) → literal < cap → min cap m ≡ min cap n → (literal == m) ≡ (literal == n)
capped_test literal m n cap below same = grind (arith, nat_tests)

pub capped_past : (n : ℕ) → is_past n ≡ nat_lt 4294967295 (min 4294967296 n)
capped_past n = grind (arith, nat_tests)

-- a number below the cap is compared with others that were cut at it
pub capped_below : (offset m n cap : ℕ) → offset < cap → min cap m ≡ min cap n → nat_lt offset m ≡ nat_lt offset n
capped_below offset m n cap below same = grind (arith, nat_tests)

pub past_of_capped : (m n : ℕ) → min 4294967296 m ≡ min 4294967296 n → is_past n ≡ nat_lt 4294967295 m
past_of_capped m n same = grind (arith, nat_tests)

pub lacks_next : (heads : List Inst) (id k : ℕ) (l : List Shape) (i : ℕ) (d : Shape) → i < length l → lacks_from heads id k (trees_of (drop i l)) ≡ (is_none (offset_of heads id k) || lacks_from heads id (k + 1) (trees_of (drop (i + 1) l)))
lacks_next heads id k l i d inside = ap (lacks_from heads id k) (rest_next l i d inside)

-- where the first i members end
abbrev pub end_before : Kind → List Shape → ℕ → ℕ
end_before kind l i = end_from kind 0 (trees_of (take i l))

end_more : (kind : Kind) (end : ℕ) (l : List Shape) (i : ℕ) (d : Shape) → i < length l → end_from kind end (trees_of (take (suc i) l)) ≡ aligned (end_from kind end (trees_of (take i l))) (alignment_of kind (tree_of (get_or l i d))) + size_of kind (tree_of (get_or l i d))
end_more kind end [] i d inside = absurd (omega arith)
end_more kind end (s ∷ l) zero d inside = refl
end_more kind end (s ∷ l) (suc i) d inside = end_more kind (aligned end (alignment_of kind (tree_of s)) + size_of kind (tree_of s)) l i d (omega arith)

pub end_before_next : (kind : Kind) (l : List Shape) (i : ℕ) (d : Shape) → i < length l → end_before kind l (i + 1) ≡ aligned (end_before kind l i) (alignment_of kind (tree_of (get_or l i d))) + size_of kind (tree_of (get_or l i d))
end_before_next kind l i d inside = let more : i + 1 ≡ suc i = omega arith in rw more (end_more kind 0 l i d inside)

pub others_next : (heads : List Inst) (kind : Kind) (id k end : ℕ) (l : List Shape) (i : ℕ) (d : Shape) → i < length l → others_from heads kind id k end (trees_of (drop i l)) ≡ (is_other (offset_of heads id k) (aligned end (alignment_of kind (tree_of (get_or l i d)))) || others_from heads kind id (k + 1) (aligned end (alignment_of kind (tree_of (get_or l i d))) + size_of kind (tree_of (get_or l i d))) (trees_of (drop (i + 1) l)))
others_next heads kind id k end l i d inside = ap (others_from heads kind id k end) (rest_next l i d inside)

pub end_step : (offset end cut alignment size cap : ℕ) → offset ≡ aligned cut alignment → cut ≡ min cap end → min cap (offset + min cap size) ≡ min cap (aligned end alignment + size)
end_step offset end cut alignment size cap here behind =
    let same : min cap offset ≡ min cap (aligned end alignment) = ap (min cap) (here ∙ ap (λ n. aligned n alignment) behind) ∙ capped_aligned end alignment cap in
    omega arith

pub member_next : (test : ℕ → Tree → Bool) (gs : List Inst) (id k : ℕ) (l : List Shape) (i : ℕ) (d : Shape) → i < length l → any_member test gs id k (trees_of (drop i l)) ≡ (any_part test gs (part_id gs id k) (tree_of (get_or l i d)) || any_member test gs id (k + 1) (trees_of (drop (i + 1) l)))
member_next test gs id k l i d inside = ap (any_member test gs id k) (rest_next l i d inside)

pub two_more : (a o f s r : Bool) → ((a || (o || f)) || (s || r)) ≡ (a || ((o || s) || (f || r)))
two_more true o f s r = refl
two_more false true f s r = refl
two_more false false false s r = refl
two_more false false true true r = refl
two_more false false true false r = refl

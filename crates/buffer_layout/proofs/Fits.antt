-- Where no end is past the last byte, each number of a layout fits.
use Rattle.std.proofs.Common.{◌≡◌, ◌≤◌, ◌<◌, ℕ, ◌+◌, false, List, ◌∷◌, [], ap, arith, drop, length, get_or, map, unwrap_or}
use Rattle.std.specs.Option.{option_map_or}
use Rattle.std.specs.List.{list_any}
use Rattle.std.proofs.lemmas.Bool.Decides.{nat_tests}
use Rattle.list_law.proofs.Tests.{or_left, or_right}
use Rattle.spv_module.specs.declared.tree.Length.{Length}
use Rattle.spv_module.specs.declared.tree.Shape.{Shape}
use Rattle.spv_types.specs.Tree.{Tree, array, runtime, struct, Trees}
use Rattle.spv_types.specs.View.{tree_of, trees_of}
use Rattle.spv_types.proofs.Heads.{rest_next as shapes_next, rest_end as shapes_end}
use Rattle.layout_rules.specs.declared.Kind.{Kind}
use Rattle.layout_rules.specs.Sizes.{aligned, whole_alignment, alignment_of, greatest_alignment, size_of, end_from, stride_of, stride_over, offsets_from, layout_or_zeros}
use Rattle.layout_rules.specs.Rules.{is_past, ends_past}
use Rattle.layout_rules.specs.Blocks.{Member as MemberOfBlock}
use Rattle.buffer_layout.specs.declared.members.Member.{Member}
use Rattle.buffer_layout.specs.Members.{member_of}
use Rattle.buffer_layout.specs.Plan.{is_too_large, layouts_of}
use Rattle.buffer_layout.proofs.Bytes.{aligned_above, end_above, end_next, end_last}
use Rattle.buffer_layout.proofs.Rows.{rest_next, rest_end}

not_past : (n : ℕ) → is_past n ≡ false → n ≤ 4294967295
not_past n e = grind (arith, nat_tests)

pub size_fits : (kind : Kind) (t : Tree) → ends_past kind t ≡ false → size_of kind t ≤ 4294967295
size_fits kind t e = not_past (size_of kind t) (or_left (is_past (size_of kind t)) (option_map_or is_past (stride_of kind t) false) e)

pub array_fits : (kind : Kind) (t : Tree) (l : Length) → ends_past kind (array t l) ≡ false → stride_over kind t ≤ 4294967295
array_fits kind t l e = not_past (stride_over kind t) (or_right (is_past (size_of kind (array t l))) (is_past (stride_over kind t)) e)

pub runtime_fits : (kind : Kind) (t : Tree) → ends_past kind (runtime t) ≡ false → stride_over kind t ≤ 4294967295
runtime_fits kind t e = not_past (stride_over kind t) (or_right (is_past 0) (is_past (stride_over kind t)) e)

pub ruleset stride_fits = (array_fits, runtime_fits)

pub members_fit : (kind : Kind) (id : ℕ) (ts : Trees) → ends_past kind (struct id ts) ≡ false → end_from kind 0 ts ≤ 4294967295
members_fit kind id ts e = omega (arith, size_fits kind (struct id ts) e, aligned_above (end_from kind 0 ts) (whole_alignment kind (greatest_alignment kind ts)))

-- the next member ends within
pub next_fits : (kind : Kind) (end : ℕ) (l : List Shape) (i : ℕ) (d : Shape) → i < length l → aligned end (alignment_of kind (tree_of (get_or l i d))) + size_of kind (tree_of (get_or l i d)) ≤ end_from kind end (trees_of (drop i l))
next_fits kind end l i d inside = omega (arith, end_next kind end l i d inside, end_above kind (aligned end (alignment_of kind (tree_of (get_or l i d))) + size_of kind (tree_of (get_or l i d))) (trees_of (drop (i + 1) l)))

pub offsets_next : (kind : Kind) (end : ℕ) (l : List Shape) (i : ℕ) (d : Shape) → i < length l → offsets_from kind end (trees_of (drop i l)) ≡ aligned end (alignment_of kind (tree_of (get_or l i d))) ∷ offsets_from kind (aligned end (alignment_of kind (tree_of (get_or l i d))) + size_of kind (tree_of (get_or l i d))) (trees_of (drop (i + 1) l))
offsets_next kind end l i d inside = ap (offsets_from kind end) (shapes_next l i d inside)

pub offsets_end : (kind : Kind) (end : ℕ) (l : List Shape) (i : ℕ) → length l ≤ i → offsets_from kind end (trees_of (drop i l)) ≡ []
offsets_end kind end l i past = ap (offsets_from kind end) (shapes_end l i past)

pub ruleset offset_rules = (next_fits, end_next, offsets_next, offsets_end)

pub member_fits : (kind : Kind) (l : List Member) (i : ℕ) (d : Member) → i < length l → list_any (is_too_large kind) (map member_of (drop i l)) ≡ false → is_too_large kind (member_of (get_or l i d)) ≡ false
member_fits kind l i d inside e = or_left (is_too_large kind (member_of (get_or l i d))) (list_any (is_too_large kind) (map member_of (drop (i + 1) l))) (rw (rest_next l i d inside) at e)

pub rest_fits : (kind : Kind) (l : List Member) (i : ℕ) (d : Member) → i < length l → list_any (is_too_large kind) (map member_of (drop i l)) ≡ false → list_any (is_too_large kind) (map member_of (drop (i + 1) l)) ≡ false
rest_fits kind l i d inside e = or_right (is_too_large kind (member_of (get_or l i d))) (list_any (is_too_large kind) (map member_of (drop (i + 1) l))) (rw (rest_next l i d inside) at e)

pub layouts_next : (kind : Kind) (l : List Member) (i : ℕ) (d : Member) → i < length l → layouts_of kind (map member_of (drop i l)) ≡ layout_or_zeros kind (member_of (get_or l i d)).shape ∷ layouts_of kind (map member_of (drop (i + 1) l))
layouts_next kind l i d inside = ap (layouts_of kind) (rest_next l i d inside)

pub layouts_end : (kind : Kind) (l : List Member) (i : ℕ) → length l ≤ i → layouts_of kind (map member_of (drop i l)) ≡ []
layouts_end kind l i past = ap (layouts_of kind) (rest_end l i past)

pub ruleset layout_rows = (member_fits, rest_fits, layouts_next, layouts_end)

-- the Offsets of members
abbrev pub numbers_of : List MemberOfBlock → List ℕ
numbers_of ms = map (λ (m : MemberOfBlock). unwrap_or m.offset 0) ms

pub numbers_next : (l : List Member) (i : ℕ) (d : Member) → i < length l → numbers_of (map member_of (drop i l)) ≡ unwrap_or (get_or l i d).offset 0 ∷ numbers_of (map member_of (drop (i + 1) l))
numbers_next l i d inside = ap numbers_of (rest_next l i d inside)

pub numbers_end : (l : List Member) (i : ℕ) → length l ≤ i → numbers_of (map member_of (drop i l)) ≡ []
numbers_end l i past = ap numbers_of (rest_end l i past)

pub ruleset number_rows = (numbers_next, numbers_end)

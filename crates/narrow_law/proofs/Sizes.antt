-- A part that indexes reach begins at no later byte than where the whole ends.
use Rattle.std.proofs.Common.{◌≡◌, ◌<◌, ◌≤◌, ℕ, zero, suc, ◌+◌, ◌*◌, List, [], ◌∷◌, refl, ap, ◌∙◌, arith}
use Rattle.std.proofs.Math.Nat.{mul-le-mul_right, add-mul, one-mul}
use Rattle.std.specs.Prelude.{slice_index}
use Rattle.spv_module.specs.declared.tree.Elem.{Elem}
use Rattle.spv_module.specs.declared.tree.Elem.TheVariants as elem
use Rattle.spv_module.specs.declared.tree.Length.TheVariants.{Fixed, Spec}
use Rattle.spv_types.specs.Tree.{Tree, boolean, int, uint, vector, array, runtime, struct, Trees, no_trees, tree}
use Rattle.layout_rules.specs.declared.Kind.{Kind}
use Rattle.layout_rules.specs.Sizes.{aligned, whole_alignment, alignment_of, greatest_alignment, size_of, end_from, stride_over, offsets_from}
use Rattle.glsl_semantics.specs.Places.{part_bytes, part_tree, nth_tree}
use Rattle.global_law.proofs.Path.Bytes.{bytes_in}
use Rattle.op_semantics.specs.Fits.{elem_tree}
use Rattle.narrow_law.specs.Reach.{count_of, IsIn, Reaches}

pub at_least : (n a : ℕ) → n ≤ aligned n a
unfolding aligned
at_least n a = omega arith

-- a member ends where the members end, or before
member_end : (k : Kind) (end : ℕ) (ts : Trees) (i : ℕ) → i < count_of ts → slice_index (offsets_from k end ts) i + size_of k (nth_tree ts i) ≤ end_from k end ts
member_end k end no_trees i less = absurd (never less)
  where
    never : i < 0 → ⊥
    never h = omega (arith, h)
member_end k end (tree t ts) zero less = grown k (aligned end (alignment_of k t) + size_of k t) ts
  where
    grown : (k : Kind) (n : ℕ) (us : Trees) → n ≤ end_from k n us
    grown k n no_trees = omega arith
    grown k n (tree u us) = omega (arith, at_least n (alignment_of k u), grown k (aligned n (alignment_of k u) + size_of k u) us)
member_end k end (tree t ts) (suc i) less = member_end k (aligned end (alignment_of k t) + size_of k t) ts i (omega (arith, less))

rows : (i n a : ℕ) → i < n → i * a + a ≤ n * a
rows i n a less = let more : (i + 1) * a ≡ i * a + a = add_mul_one i a in let most : (i + 1) * a ≤ n * a = mul-le-mul_right a (let h : i + 1 ≤ n = omega (arith, less) in h) in omega (arith, more, most)
  where
    add_mul_one : (i a : ℕ) → (i + 1) * a ≡ i * a + a
    add_mul_one i a = add-mul i 1 a ∙ ap (λ n. i * a + n) (one-mul a)

elem_size : (k : Kind) (e : Elem) → size_of k (elem_tree e) ≡ 4
elem_size k elem.Bool = refl
elem_size k elem.Int = refl
elem_size k elem.Uint = refl

by_part : (k : Kind) (i : ℕ) (t : Tree) (n : ℕ) → IsIn t i → n ≤ size_of k (part_tree t i) → part_bytes k t i + n ≤ size_of k t
by_part k i (vector e m) n h small = omega (arith, h, small, elem_size k e)
by_part k i (array t (Fixed m)) n h small = omega (arith, small, at_least (size_of k t) (whole_alignment k (alignment_of k t)), rows i m (stride_over k t) h)
by_part k i (array t (Spec id)) n h small = absurd h
by_part k i (runtime t) n h small = absurd h
by_part k i (struct id ts) n h small = omega (arith, small, member_end k 0 ts i h, at_least (end_from k 0 ts) (whole_alignment k (greatest_alignment k ts)))
by_part k i boolean n h small = absurd h
by_part k i int n h small = absurd h
by_part k i uint n h small = absurd h

pub within : (k : Kind) (path : List ℕ) (t : Tree) → Reaches t path → bytes_in k t path ≤ size_of k t
within k [] t r = omega arith
within k (i ∷ is) t (h, r) = by_part k i t (bytes_in k (part_tree t i) is) h (within k is (part_tree t i) r)

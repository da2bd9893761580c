-- Indexes that types allow stay inside, so a part that they reach begins below the end of the whole.
use Rattle.std.proofs.Common.{◌≡◌, ◌<◌, ◌≤◌, ◌^◌, ℕ, zero, suc, ◌+◌, ◌-◌, ◌%◌, Bool, true, false, ◌==◌, if◌then◌else◌, List, [], ◌∷◌, Option, Some, refl, ap, sym, subst, ◌∙◌, arith}
use Rattle.std.proofs.Math.Nat.{mod-le}
use Rattle.std.specs.Prelude.{is_some, nat_lt, option_and_then}
use Rattle.std.proofs.lemmas.Bool.Decides.{nat_tests}
use Rattle.std.proofs.lemmas.Bool.{and_parts}
use Rattle.std.proofs.lemmas.Option.{same_Some}
use Rattle.spv_module.specs.declared.inst.Inst.{Inst}
use Rattle.spv_module.specs.declared.tree.Length.TheVariants.{Fixed, Spec}
use Rattle.spv_types.specs.Tree as plain
use Rattle.spv_types.specs.Tree.{Tree, Trees, no_trees, tree}
use Rattle.spv_types.specs.Leaves.{IsSized}
use Rattle.spv_types.specs.Types.{type_tree}
use Rattle.op_semantics.specs.Fits.{elem_tree}
use Rattle.layout_rules.specs.declared.Kind.{Kind}
use Rattle.layout_rules.specs.declared.Kind.TheVariants.{Std430, Std140}
use Rattle.layout_rules.specs.Sizes.{aligned, whole_alignment, vector_alignment, alignment_of, greatest_alignment, size_of, stride_over}
use Rattle.module_semantics.specs.Setting.{Setting}
use Rattle.module_semantics.specs.Memory.{are_allowed, bytes_along, is_allowed, part_type}
use Rattle.glsl_semantics.specs.Shapes.{tree_of, trees_of}
use Rattle.fits_law.specs.Takes.{nth_of}
use Rattle.fits_law.specs.State.{element_shape, place_shape}
use Rattle.type_law.specs.Shaped.{AreConstants}
use Rattle.type_law.proofs.Places.{part_leads}
use Rattle.type_law.proofs.Parts.{sized_nth, sized_elem}
use Rattle.global_law.specs.Laid.{IsLaidOut}
use Rattle.global_law.specs.Parts.{StructNames, shape_in, fields_in, IsInside}
use Rattle.global_law.proofs.Path.Bytes.{bytes_in, bytes_same, stride_same}
use Rattle.global_law.proofs.Path.Parts.{sized_lengths, part_same}
use Rattle.global_law.proofs.Path.Types.{allowed_is}
use Rattle.narrow_law.specs.Reach.{count_of, IsIn, IsShort, Along, Reaches}
use Rattle.narrow_law.proofs.Sizes.{at_least, within}

-- what has a size has parts that have
part_sized : (t : Tree) (i : ℕ) (u : Tree) → IsSized t → element_shape t i ≡ Some u → IsSized u
part_sized (plain.vector e n) i u h at = subst IsSized (same_Some (elem_tree e) u at) (sized_elem e)
part_sized (plain.array t (Fixed n)) i u h at = subst IsSized (same_Some t u at) h
part_sized (plain.array t (Spec id)) i u h at = absurd h
part_sized (plain.runtime t) i u h at = absurd h
part_sized (plain.struct id ts) i u h at = sized_nth ts i u h at
part_sized plain.boolean i u h at = cc
part_sized plain.int i u h at = cc
part_sized plain.uint i u h at = cc

-- alignments are at most 16, so a stride is hardly more than a size
next_sixteen : (n : ℕ) → n ≤ 16 → aligned n 16 ≤ 16
unfolding aligned
next_sixteen n h = omega (arith, h)

whole_low : (k : Kind) (n : ℕ) → n ≤ 16 → whole_alignment k n ≤ 16
whole_low Std430 n h = h
whole_low Std140 n h = next_sixteen n h

vector_low : (n : ℕ) → vector_alignment n ≤ 16
vector_low n = by_two (n == 2)
  where
    by_two : (b : Bool) → (if b then 8 else 16) ≤ 16
    by_two true = omega arith
    by_two false = omega arith

at_most : (n a : ℕ) → a ≤ 16 → aligned n a ≤ n + 16
unfolding aligned
at_most n a h = omega (arith, h, mod-le (a - n % a) a, mod-le n a)

mutual
  alignment_low : (k : Kind) (t : Tree) → alignment_of k t ≤ 16
  alignment_low k plain.boolean = omega arith
  alignment_low k plain.int = omega arith
  alignment_low k plain.uint = omega arith
  alignment_low k (plain.vector e n) = vector_low n
  alignment_low k (plain.array t l) = whole_low k (alignment_of k t) (alignment_low k t)
  alignment_low k (plain.runtime t) = whole_low k (alignment_of k t) (alignment_low k t)
  alignment_low k (plain.struct id ts) = whole_low k (greatest_alignment k ts) (greatest_low k ts)

  greatest_low : (k : Kind) (ts : Trees) → greatest_alignment k ts ≤ 16
  greatest_low k no_trees = omega arith
  greatest_low k (tree t ts) = omega (arith, alignment_low k t, greatest_low k ts)

stride_low : (k : Kind) (t : Tree) → stride_over k t ≤ size_of k t + 16
stride_low k t = at_most (size_of k t) (whole_alignment k (alignment_of k t)) (whole_low k (alignment_of k t) (alignment_low k t))

module _ (s : Setting) (y : StructNames) (k : Kind) where
  abbrev Gs : List Inst
  Gs = s.of.globals

  abbrev S : Tree → Tree
  S t = tree_of (shape_in s y t)

  count_same : (id j : ℕ) (ts : Trees) → count_of (trees_of (fields_in s y id j ts)) ≡ count_of ts
  count_same id j no_trees = refl
  count_same id j (tree t ts) = ap (λ n. 1 + n) (count_same id (j + 1) ts)

  nth_below : (ts : Trees) (i : ℕ) (u : Tree) → nth_of ts i ≡ Some u → i < count_of ts
  nth_below no_trees i u at = cc
  nth_below (tree t ts) zero u at = omega arith
  nth_below (tree t ts) (suc i) u at = omega (arith, nth_below ts i u at)

  is_in : (t : Tree) (i : ℕ) (u : Tree) → IsSized t → element_shape t i ≡ Some u → IsInside s t i → IsIn (S t) i
  is_in (plain.vector e n) i u h at inside = inside
  is_in (plain.array t (Fixed n)) i u h at inside = inside
  is_in (plain.array t (Spec id)) i u h at inside = absurd h
  is_in (plain.runtime t) i u h at inside = absurd h
  is_in (plain.struct id ts) i u h at inside = subst (λ n. i < n) (sym (count_same id 0 ts)) (nth_below ts i u at)
  is_in plain.boolean i u h at inside = cc
  is_in plain.int i u h at inside = cc
  is_in plain.uint i u h at inside = cc

  -- indexes that types allow lead along parts
  pub allowed_along : (path : List ℕ) (ty : ℕ) (t : Tree) → AreConstants s → type_tree Gs ty ≡ Some t → are_allowed s ty path ≡ true → Along s t path
  allowed_along [] ty t right shape allowed = tt
  allowed_along (i ∷ is) ty t right shape allowed =
      let both = and_parts (is_allowed s ty i) (are_allowed s (part_type s ty i) is) allowed in
      let a = allowed_is s ty i t right shape both.0 in
      (a.part, a.there, a.inside, short t i a.low, allowed_along is (part_type s ty i) a.part right (part_leads s ty i t a.part shape a.there) both.1)
    where
      short : (t : Tree) (i : ℕ) → nat_lt i (2 ^ 31) ≡ true → IsShort t i
      short (plain.runtime t) i low = grind (arith, nat_tests, low)
      short plain.boolean i low = tt
      short plain.int i low = tt
      short plain.uint i low = tt
      short (plain.vector e n) i low = tt
      short (plain.array t l) i low = tt
      short (plain.struct id ts) i low = tt

  reaches : (path : List ℕ) (t : Tree) → IsSized t → Along s t path → Reaches (S t) path × (is_some (place_shape t path) ≡ true)
  reaches [] t h along = (tt, refl)
  reaches (i ∷ is) t h (u, at, inside, short, along) =
      let later = reaches is u (part_sized t i u h at) along in (
        (is_in t i u h at inside, subst (λ q. Reaches q is) (sym (part_same s y t u i at)) later.0),
        ap (λ (o : Option Tree). is_some (option_and_then (λ x. place_shape x is) o)) at ∙ later.1,
      )

  -- how far behind the first byte of what has a size
  pub bytes_low : (path : List ℕ) (ty : ℕ) (t : Tree) → type_tree Gs ty ≡ Some t → IsSized t → IsLaidOut s k ty t → Along s t path → bytes_along s ty path ≤ size_of k t + 16
  bytes_low path ty t shape h laid along =
      let r = reaches path t h along in
      let lengths = sized_lengths t h in
      let same : bytes_in k (S t) path ≡ bytes_along s ty path = bytes_same s y k path ty t shape lengths laid r.1 in
      let stride : stride_over k (S t) ≡ stride_over k t = stride_same s y k t lengths in
      omega (arith, same, stride, within k path (S t) r.0, at_least (size_of k (S t)) (whole_alignment k (alignment_of k (S t))), stride_low k t)

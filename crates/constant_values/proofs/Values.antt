-- The values of a list, one by one.
use Rattle.std.proofs.Common.{◌≡◌, ◌<◌, ◌≤◌, ◌+◌, ◌&&◌, ℕ, suc, true, false, List, [], ◌∷◌, refl, ap, sym, ◌∙◌, arith, add-one, drop, get_or, length}
use Rattle.std.proofs.Math.Seq.{drop-cons}
use Rattle.std.proofs.Math.ListN.{drop_of_length-le}
use Rattle.std.proofs.lemmas.Bool.{and_right}
use Rattle.spv_module.specs.declared.tree.Shape.{Shape}
use Rattle.spv_module.specs.declared.tree.Value.{Value}
use Rattle.spv_types.specs.Tree.{Tree, ValueTree, ValueTrees, value}
use Rattle.spv_types.specs.View.{tree_of, trees_of, value_of}
use Rattle.op_semantics.specs.Fits.{fits, each_fits, fits_parts, count_of}
use Rattle.value_ops.proofs.Values.{plain}

pub count_plain : (l : List Value) → count_of (plain l) ≡ length l
count_plain [] = refl
count_plain (v ∷ l) = omega (arith, count_plain l)

plain_next : (l : List Value) (i : ℕ) (d : Value) → i < length l → plain (drop i l) ≡ value (value_of (get_or l i d)) (plain (drop (i + 1) l))
plain_next l i d inside = ap plain (drop-cons l i d inside) ∙ ap (λ n. value (value_of (get_or l i d)) (plain (drop n l))) (sym (add-one i))

-- the values from a place on have this shape where that one has, and the others
pub each_next : (t : Tree) (l : List Value) (i : ℕ) (d : Value) → i < length l → each_fits t (plain (drop i l)) ≡ (fits t (value_of (get_or l i d)) && each_fits t (plain (drop (i + 1) l)))
each_next t l i d inside = ap (each_fits t) (plain_next l i d inside)

pub each_end : (t : Tree) (l : List Value) (i : ℕ) → length l ≤ i → each_fits t (plain (drop i l)) ≡ true
each_end t l i past = ap (λ vs. each_fits t (plain vs)) (drop_of_length-le l past)

pub ruleset each_rules = (each_next, each_end, count_plain)

trees_next : (l : List Shape) (i : ℕ) (d : Shape) → i < length l → (vs : ValueTrees) (v : ValueTree) → fits_parts (trees_of (drop i l)) (value v vs) ≡ (fits (tree_of (get_or l i d)) v && fits_parts (trees_of (drop (i + 1) l)) vs)
trees_next l i d inside vs v = ap (λ m. fits_parts (trees_of m) (value v vs)) (drop-cons l i d inside) ∙ ap (λ n. fits (tree_of (get_or l i d)) v && fits_parts (trees_of (drop n l)) vs) (sym (add-one i))

pub members_next : (ms : List Shape) (vs : List Value) (i : ℕ) (m : Shape) (v : Value) → i < length ms → i < length vs → fits_parts (trees_of (drop i ms)) (plain (drop i vs)) ≡ (fits (tree_of (get_or ms i m)) (value_of (get_or vs i v)) && fits_parts (trees_of (drop (i + 1) ms)) (plain (drop (i + 1) vs)))
members_next ms vs i m v h k = ap (fits_parts (trees_of (drop i ms))) (plain_next vs i v k) ∙ trees_next ms i m h (plain (drop (i + 1) vs)) (value_of (get_or vs i v))

pub members_end : (ms : List Shape) (vs : List Value) (i : ℕ) → length ms ≤ i → length ms ≡ length vs → fits_parts (trees_of (drop i ms)) (plain (drop i vs)) ≡ true
members_end ms vs i past same = let over : length vs ≤ i = omega arith in ap (λ m. fits_parts (trees_of m) (plain (drop i vs))) (drop_of_length-le ms past) ∙ ap (λ w. fits_parts (trees_of []) (plain w)) (drop_of_length-le vs over)

-- lists of other lengths do not fit
pub members_short : (ms : List Shape) (vs : List Value) → (length ms ≡ length vs → ⊥) → fits_parts (trees_of ms) (plain vs) ≡ false
members_short [] [] h = absurd (h refl)
members_short [] (v ∷ vs) h = refl
members_short (m ∷ ms) [] h = refl
members_short (m ∷ ms) (v ∷ vs) h = and_right (fits (tree_of m) (value_of v)) (fits_parts (trees_of ms) (plain vs)) (members_short ms vs (λ e. h (ap suc e)))

pub ruleset member_rules = (members_next, members_end, members_short)

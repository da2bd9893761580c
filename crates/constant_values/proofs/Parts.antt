-- A composite does not fit where a part does not.
use Rattle.std.proofs.Common.{◌≡◌, ◌<◌, ◌≤◌, ◌==◌, ◌&&◌, ℕ, zero, suc, true, false, List, [], ◌∷◌, refl, ap, sym, ◌∙◌, arith, length, get_or}
use Rattle.std.specs.Prelude.{Some, None, option_map, nat_lt, slice_get, if◌then◌else◌}
use Rattle.std.specs.Borrow.{Bor}
use Rattle.std.specs.Option.{option_map_or}
use Rattle.std.proofs.Math.ListN.{get_or-map}
use Rattle.std.proofs.lemmas.Bool.Decides.{nat_tests}
use Rattle.std.proofs.lemmas.List.{length-map}
use Rattle.std.proofs.lemmas.Option.{slice_get-get_or, slice_get_past}
use Rattle.std.proofs.lemmas.Bool.{and_right, and_left}
use Rattle.spv_module.specs.declared.tree.Length.TheVariants.{Fixed, Spec}
use Rattle.spv_module.specs.declared.tree.Shape.{Shape}
use Rattle.spv_module.specs.declared.tree.Value.{Value}
use Rattle.spv_types.specs.Tree.{Tree, boolean, int, uint, vector, array, runtime, struct, Trees, no_trees, tree, ValueTree, many, values_in}
use Rattle.spv_types.specs.View.{tree_of, trees_of, value_of}
use Rattle.op_semantics.specs.Component.{composite}
use Rattle.profile_rules.specs.Constants.{if_fits}
use Rattle.op_semantics.specs.Fits.{fits, each_fits, fits_parts, count_of, elem_tree}
use Rattle.constant_values.specs.Parts.{nth_tree, member_fits, part_fits}
use Rattle.value_ops.specs.References.{referred}

count_values : (vs : List ValueTree) → count_of (values_in vs) ≡ length vs
count_values [] = refl
count_values (v ∷ vs) = omega (arith, count_values vs)

nth_trees : (l : List Shape) (i : ℕ) → nth_tree (trees_of l) i ≡ option_map tree_of (slice_get l i)
nth_trees [] i = refl
nth_trees (s ∷ l) zero = refl
nth_trees (s ∷ l) (suc i) = nth_trees l i

pub member_at : (l : List Shape) (i : ℕ) (s : Shape) (v : ValueTree) → s ≡ get_or l i s → i < length l → member_fits (trees_of l) i v ≡ fits (tree_of s) v
member_at l i s v is inside =
    ap (λ o. option_map_or (λ t. fits t v) o false) (nth_trees l i ∙ ap (option_map tree_of) (slice_get-get_or l i s inside))
    ∙ ap (λ x. fits (tree_of x) v) (sym is)

pub member_past : (l : List Shape) (i : ℕ) (v : ValueTree) → length l ≤ i → member_fits (trees_of l) i v ≡ false
member_past l i v past = ap (λ o. option_map_or (λ t. fits t v) o false) (nth_trees l i ∙ ap (option_map tree_of) (slice_get_past l i past))

each_misfit : (t : Tree) (vs : List ValueTree) (i : ℕ) (d : ValueTree) → i < length vs → fits t (get_or vs i d) ≡ false → each_fits t (values_in vs) ≡ false
each_misfit t [] i d inside off = absurd (omega arith)
each_misfit t (v ∷ vs) zero d inside off = and_left (fits t v) (each_fits t (values_in vs)) off
each_misfit t (v ∷ vs) (suc i) d inside off = and_right (fits t v) (each_fits t (values_in vs)) (each_misfit t vs i d (omega arith) off)

other_count : (n i : ℕ) (vs : List ValueTree) → i < length vs → nat_lt i n ≡ false → (count_of (values_in vs) == n) ≡ false
other_count n i vs inside past = grind (arith, nat_tests, past, count_values vs)

-- so many values of one shape are not there where one is past their number or has another shape
row_misfit : (t : Tree) (n : ℕ) (vs : List ValueTree) (i : ℕ) (d : ValueTree) → i < length vs → (nat_lt i n && fits t (get_or vs i d)) ≡ false → ((count_of (values_in vs) == n) && each_fits t (values_in vs)) ≡ false
row_misfit t n vs i d inside off =
    (elim (nat_lt i n) as (λ b. nat_lt i n ≡ b → (b && fits t (get_or vs i d)) ≡ false → ((count_of (values_in vs) == n) && each_fits t (values_in vs)) ≡ false) [
      | true ↦ λ e h. and_right (count_of (values_in vs) == n) (each_fits t (values_in vs)) (each_misfit t vs i d inside h)
      | false ↦ λ e h. and_left (count_of (values_in vs) == n) (each_fits t (values_in vs)) (other_count n i vs inside e)
    ]) refl off

members_misfit : (ts : Trees) (vs : List ValueTree) (i : ℕ) (d : ValueTree) → i < length vs → member_fits ts i (get_or vs i d) ≡ false → fits_parts ts (values_in vs) ≡ false
members_misfit ts [] i d inside off = absurd (omega arith)
members_misfit no_trees (v ∷ vs) i d inside off = refl
members_misfit (tree t ts) (v ∷ vs) zero d inside off = and_left (fits t v) (fits_parts ts (values_in vs)) off
members_misfit (tree t ts) (v ∷ vs) (suc i) d inside off = and_right (fits t v) (fits_parts ts (values_in vs)) (members_misfit ts vs i d (omega arith) off)

pub misfit_part : (t : Tree) (vs : List ValueTree) (i : ℕ) (d : ValueTree) → i < length vs → part_fits t i (get_or vs i d) ≡ false → fits t (many (values_in vs)) ≡ false
misfit_part boolean vs i d inside off = refl
misfit_part int vs i d inside off = refl
misfit_part uint vs i d inside off = refl
misfit_part (vector e n) vs i d inside off = row_misfit (elem_tree e) n vs i d inside off
misfit_part (array t (Fixed n)) vs i d inside off = row_misfit t n vs i d inside off
misfit_part (array t (Spec id)) vs i d inside off = refl
misfit_part (runtime t) vs i d inside off = refl
misfit_part (struct id ts) vs i d inside off = members_misfit ts vs i d inside off

-- parts of which one does not fit make no value
pub misfit_reference : (t : Tree) (rs : List (Bor Value)) (i : ℕ) (r : Bor Value) → r ≡ get_or rs i r → i < length rs → part_fits t i (value_of r.now) ≡ false → if_fits t (composite (referred rs)) ≡ None
misfit_reference t rs i r is inside off =
    let at : get_or (referred rs) i (value_of r.now) ≡ value_of r.now = get_or-map (λ (x : Bor Value). value_of x.now) rs i r ∙ ap (λ (x : Bor Value). value_of x.now) (sym is) in
    let there : i < length (referred rs) = omega (arith, length-map rs (λ (x : Bor Value). value_of x.now)) in
    ap (λ b. if b then Some (composite (referred rs)) else None) (misfit_part t (referred rs) i (value_of r.now) there (ap (part_fits t i) at ∙ off))

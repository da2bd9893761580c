-- The zeros of arrays and structs, part by part.
use Rattle.std.proofs.Common.{◌≡◌, ◌<◌, ◌≤◌, ◌+◌, ◌==◌, ◌&&◌, ℕ, zero, suc, Bool, true, false, List, [], ◌∷◌, ◌++◌, refl, ap, sym, ◌∙◌, arith, add-one, map, length, get_or, drop}
use Rattle.std.specs.Prelude.{Option, Some, None, option_map, if◌then◌else◌, replicate}
use Rattle.std.proofs.Math.Seq.{drop-cons}
use Rattle.std.proofs.Math.ListN.{drop_of_length-le}
use Rattle.std.proofs.lemmas.Bool.Decides.{nat_tests}
use Rattle.std.proofs.lemmas.List.{map_push}
use Rattle.spv_module.specs.declared.tree.Elem.{Elem}
use Rattle.spv_module.specs.declared.tree.Elem.TheVariants as elem
use Rattle.spv_module.specs.declared.tree.Length.TheVariants.{Fixed}
use Rattle.spv_module.specs.declared.tree.Shape.{Shape}
use Rattle.spv_module.specs.declared.tree.Value.{Value}
use Rattle.spv_types.specs.Tree.{Tree, vector, array, struct, Trees, ValueTree, many, ValueTrees, value, values_in}
use Rattle.spv_types.specs.View.{tree_of, trees_of, value_of}
use Rattle.spv_types.specs.Leaves.{zero_of, zeros_of, zero_elem}
use Rattle.spv_types.proofs.Leaf.{front, front_push, zeros_end}
use Rattle.op_semantics.specs.Component.{composite}
use Rattle.op_semantics.specs.Fits.{fits, each_fits, fits_parts, count_of, elem_tree}
use Rattle.profile_rules.specs.Constants.{if_fits}
use Rattle.constant_values.specs.Zeros.{zero_parts, zero_members}

count_times : (n : ℕ) (v : ValueTree) → (count_of (values_in (replicate n v)) == n) ≡ true
count_times zero v = refl
count_times (suc n) v = let rest : (count_of (values_in (replicate n v)) == n) ≡ true = count_times n v in grind (arith, nat_tests, rest)

elem_fits : (e : Elem) → fits (elem_tree e) (zero_elem e) ≡ true
elem_fits elem.Bool = refl
elem_fits elem.Int = refl
elem_fits elem.Uint = refl

each_elem_fits : (e : Elem) (n : ℕ) → each_fits (elem_tree e) (values_in (replicate n (zero_elem e))) ≡ true
each_elem_fits e zero = refl
each_elem_fits e (suc n) = ap (λ b. b && each_fits (elem_tree e) (values_in (replicate n (zero_elem e)))) (elem_fits e) ∙ each_elem_fits e n

pub vector_zero : (e : Elem) (n : ℕ) → if_fits (vector e n) (zero_of (vector e n)) ≡ Some (zero_of (vector e n))
vector_zero e n =
    ap (λ b. if b && each_fits (elem_tree e) (values_in (replicate n (zero_elem e))) then Some (zero_of (vector e n)) else None) (count_times n (zero_elem e))
    ∙ ap (λ b. if b then Some (zero_of (vector e n)) else None) (each_elem_fits e n)

mapped_if : {A B : Type 0} (f : A → B) (b : Bool) (x : A) → (if b then Some (f x) else None) ≡ option_map f (if b then Some x else None)
mapped_if f true x = refl
mapped_if f false x = refl

pub array_zero : (t : Tree) (n : ℕ) → if_fits (array t (Fixed n)) (zero_of (array t (Fixed n))) ≡ option_map composite (zero_parts t n)
array_zero t n =
    ap (λ b. if b && each_fits t (values_in (replicate n (zero_of t))) then Some (zero_of (array t (Fixed n))) else None) (count_times n (zero_of t))
    ∙ mapped_if composite (each_fits t (values_in (replicate n (zero_of t)))) (replicate n (zero_of t))

pub struct_zero : (id : ℕ) (ts : Trees) → if_fits (struct id ts) (zero_of (struct id ts)) ≡ option_map many (zero_members ts)
struct_zero id ts = mapped_if many (fits_parts ts (zeros_of ts)) (zeros_of ts)

pub ruleset zero_rules = (vector_zero, array_zero, struct_zero)

-- where the zero of a part has not its shape, no number of them but 0 has
each_unfit : (t : Tree) (i n : ℕ) → i < n → fits t (zero_of t) ≡ false → each_fits t (values_in (replicate n (zero_of t))) ≡ false
each_unfit t i zero inside off = absurd (omega arith)
each_unfit t i (suc n) inside off = ap (λ b. b && each_fits t (values_in (replicate n (zero_of t)))) off

unfit_if : (b : Bool) (v : ValueTree) → (if b then Some v else None) ≡ None → b ≡ false
unfit_if true v h = cc
unfit_if false v h = refl

fit_if : (b : Bool) (v w : ValueTree) → (if b then Some v else None) ≡ Some w → (b ≡ true) × (v ≡ w)
fit_if true v w h = (refl, cc)
fit_if false v w h = cc

pub parts_stop : (t : Tree) (i n : ℕ) → i < n → if_fits t (zero_of t) ≡ None → zero_parts t n ≡ None
parts_stop t i n inside none = ap (λ b. if b then Some (replicate n (zero_of t)) else None) (each_unfit t i n inside (unfit_if (fits t (zero_of t)) (zero_of t) none))

replicate_more : (i : ℕ) (v : ValueTree) → replicate (suc i) v ≡ replicate i v ++ v ∷ []
replicate_more zero v = refl
replicate_more (suc i) v = ap (λ vs. v ∷ vs) (replicate_more i v)

parts_if : (b : Bool) (t : Tree) (i : ℕ) (vs : List ValueTree) (w : ValueTree) → b ≡ true → (if each_fits t (values_in (replicate i (zero_of t))) then Some (replicate i (zero_of t)) else None) ≡ Some vs → zero_of t ≡ w → (if b && each_fits t (values_in (replicate i (zero_of t))) then Some (replicate (suc i) (zero_of t)) else None) ≡ Some (vs ++ w ∷ [])
parts_if b t i vs w fit known is =
    ap (λ c. if c && each_fits t (values_in (replicate i (zero_of t))) then Some (replicate (suc i) (zero_of t)) else None) fit
    ∙ ap (λ l. if each_fits t (values_in (replicate i (zero_of t))) then Some l else None) (replicate_more i (zero_of t))
    ∙ mapped_if (λ l. l ++ zero_of t ∷ []) (each_fits t (values_in (replicate i (zero_of t)))) (replicate i (zero_of t))
    ∙ ap (option_map (λ l. l ++ zero_of t ∷ [])) known
    ∙ ap (λ z. Some (vs ++ z ∷ [])) is

pub parts_more : (t : Tree) (i : ℕ) (vs : List Value) (v : Value) → zero_parts t i ≡ Some (map value_of vs) → if_fits t (zero_of t) ≡ Some (value_of v) → zero_parts t (i + 1) ≡ Some (map value_of (vs ++ v ∷ []))
parts_more t i vs v known some =
    let fit : (fits t (zero_of t) ≡ true) × (zero_of t ≡ value_of v) = fit_if (fits t (zero_of t)) (zero_of t) (value_of v) some in
    ap (zero_parts t) (add-one i) ∙ parts_if (fits t (zero_of t)) t i (map value_of vs) (value_of v) fit.0 known fit.1 ∙ ap Some (sym (map_push value_of vs v))

pub ruleset part_rules = (parts_stop, parts_more)

members_cons : (s : Shape) (l : List Shape) (v : ValueTree) → if_fits (tree_of s) (zero_of (tree_of s)) ≡ Some v → zero_members (trees_of (s ∷ l)) ≡ option_map (value v) (zero_members (trees_of l))
members_cons s l v some =
    let fit : (fits (tree_of s) (zero_of (tree_of s)) ≡ true) × (zero_of (tree_of s) ≡ v) = fit_if (fits (tree_of s) (zero_of (tree_of s))) (zero_of (tree_of s)) v some in
    ap (λ b. if b && fits_parts (trees_of l) (zeros_of (trees_of l)) then Some (value (zero_of (tree_of s)) (zeros_of (trees_of l))) else None) fit.0
    ∙ mapped_if (value (zero_of (tree_of s))) (fits_parts (trees_of l) (zeros_of (trees_of l))) (zeros_of (trees_of l))
    ∙ ap (λ z. option_map (value z) (zero_members (trees_of l))) fit.1

members_none : (s : Shape) (l : List Shape) → if_fits (tree_of s) (zero_of (tree_of s)) ≡ None → zero_members (trees_of (s ∷ l)) ≡ None
members_none s l none = ap (λ b. if b && fits_parts (trees_of l) (zeros_of (trees_of l)) then Some (value (zero_of (tree_of s)) (zeros_of (trees_of l))) else None) (unfit_if (fits (tree_of s) (zero_of (tree_of s))) (zero_of (tree_of s)) none)

pushed : (vs : List Value) (v : Value) (rest : Option ValueTrees) → option_map (front vs) (option_map (value (value_of v)) rest) ≡ option_map (front (vs ++ v ∷ [])) rest
pushed vs v None = refl
pushed vs v (Some more) = ap Some (sym (front_push vs v more))

drop_at : (l : List Shape) (i : ℕ) (s : Shape) → s ≡ get_or l i s → i < length l → drop i l ≡ s ∷ drop (i + 1) l
drop_at l i s is inside = drop-cons l i s inside ∙ ap (λ x. x ∷ drop (suc i) l) (sym is) ∙ ap (λ n. s ∷ drop n l) (sym (add-one i))

-- the zeros of the members from a place on, behind those before it
pub members_next : (l : List Shape) (i : ℕ) (s : Shape) (vs : List Value) (v : Value) → s ≡ get_or l i s → i < length l → if_fits (tree_of s) (zero_of (tree_of s)) ≡ Some (value_of v) → option_map (front (vs ++ v ∷ [])) (zero_members (trees_of (drop (i + 1) l))) ≡ option_map (front vs) (zero_members (trees_of (drop i l)))
members_next l i s vs v is inside some =
    sym (ap (λ m. option_map (front vs) (zero_members (trees_of m))) (drop_at l i s is inside)
    ∙ ap (option_map (front vs)) (members_cons s (drop (i + 1) l) (value_of v) some)
    ∙ pushed vs v (zero_members (trees_of (drop (i + 1) l))))

pub members_stop : (l : List Shape) (i : ℕ) (s : Shape) (vs : List Value) → s ≡ get_or l i s → i < length l → if_fits (tree_of s) (zero_of (tree_of s)) ≡ None → option_map (front vs) (zero_members (trees_of (drop i l))) ≡ None
members_stop l i s vs is inside none =
    ap (λ m. option_map (front vs) (zero_members (trees_of m))) (drop_at l i s is inside)
    ∙ ap (option_map (front vs)) (members_none s (drop (i + 1) l) none)

pub members_end : (l : List Shape) (i : ℕ) (vs : List Value) → length l ≤ i → option_map (front vs) (zero_members (trees_of (drop i l))) ≡ Some (values_in (map value_of vs))
members_end l i vs past =
    let none : drop i l ≡ [] = drop_of_length-le l past in
    ap (λ m. option_map (front vs) (zero_members (trees_of m))) none
    ∙ ap Some (sym (ap (λ m. front vs (zeros_of (trees_of m))) none) ∙ zeros_end l i vs past)

pub ruleset member_rules = (members_next, members_stop, members_end)

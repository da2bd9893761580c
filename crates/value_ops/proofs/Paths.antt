-- Parts by their indexes.
use Rattle.std.proofs.Common.{◌≡◌, ◌<◌, ◌≤◌, ◌+◌, ℕ, Bool, true, false, List, [], ◌∷◌, refl, ap, sym, ◌∙◌, arith, add-one, map, length, drop, get_or, inl, inr}
use Rattle.std.specs.Prelude.{Option, Some, None, option_map, option_and_then, if◌then◌else◌, nat_lt, slice_get, slice_set, slice_index}
use Rattle.std.proofs.Math.Seq.{drop-cons}
use Rattle.std.proofs.Math.ListN.{drop_of_length-le, get_or-map}
use Rattle.std.proofs.lemmas.Bool.{cases_lt}
use Rattle.std.proofs.lemmas.Bool.Decides.{nat_tests}
use Rattle.std.proofs.lemmas.List.{length-map, map-set, set-get_or}
use Rattle.std.proofs.lemmas.Option.{slice_get-get_or, slice_get_past, slice_get-map}
use Rattle.spv_module.specs.declared.tree.Value.{Value}
use Rattle.spv_types.specs.Tree.{ValueTree, truth, word, many, values_in}
use Rattle.spv_types.specs.View.{value_of}
use Rattle.op_semantics.specs.Component.{listed, composite}
use Rattle.op_semantics.specs.Composite.{part_at, with_part, extracted, inserted}
use Rattle.value_ops.proofs.Lists.{listed_values}

part_of : (l : List Value) (i : ℕ) → part_at (many (values_in (map value_of l))) i ≡ option_map value_of (slice_get l i)
part_of l i = ap (λ vs. slice_get vs i) (listed_values (map value_of l)) ∙ slice_get-map value_of l i

pub nth_inside : (l : List Value) (i : ℕ) (v : Value) → v ≡ get_or l i v → i < length l → part_at (many (values_in (map value_of l))) i ≡ Some (value_of v)
nth_inside l i v is inside = part_of l i ∙ ap (option_map value_of) (slice_get-get_or l i v inside) ∙ ap (λ x. Some (value_of x)) (sym is)

pub nth_past : (l : List Value) (i : ℕ) → length l ≤ i → part_at (many (values_in (map value_of l))) i ≡ None
nth_past l i past = part_of l i ∙ ap (option_map value_of) (slice_get_past l i past)

pub ruleset index_rules = (nth_inside, nth_past)

extracted_at : (is : List ℕ) (i : ℕ) (v : ValueTree) → i < length is → extracted (drop i is) v ≡ option_and_then (extracted (drop (i + 1) is)) (part_at v (slice_index is i))
extracted_at is i v inside = ap (λ l. extracted l v) (drop-cons is i 0 inside) ∙ ap (λ n. option_and_then (extracted (drop n is)) (part_at v (slice_index is i))) (sym (add-one i))

-- the part that the indexes from a place on lead to
pub extracted_more : (is : List ℕ) (i : ℕ) (v w : ValueTree) → i < length is → Some w ≡ part_at v (slice_index is i) → extracted (drop (i + 1) is) w ≡ extracted (drop i is) v
extracted_more is i v w inside found = sym (extracted_at is i v inside ∙ ap (option_and_then (extracted (drop (i + 1) is))) (sym found))

pub extracted_none : (is : List ℕ) (i : ℕ) (v : ValueTree) → i < length is → None ≡ part_at v (slice_index is i) → extracted (drop i is) v ≡ None
extracted_none is i v inside none = extracted_at is i v inside ∙ ap (option_and_then (extracted (drop (i + 1) is))) (sym none)

pub extracted_end : (is : List ℕ) (i : ℕ) (v : ValueTree) → length is ≤ i → extracted (drop i is) v ≡ Some v
extracted_end is i v past = ap (λ l. extracted l v) (drop_of_length-le is past)

pub ruleset extracted_rules = (extracted_more, extracted_none, extracted_end)

-- by one index
and_some : (o : Option ValueTree) → option_and_then (extracted []) o ≡ o
and_some None = refl
and_some (Some v) = refl

pub single_extracted : (i : ℕ) (v : ValueTree) → extracted (i ∷ []) v ≡ part_at v i
single_extracted i v = and_some (part_at v i)

tested : (l : List ValueTree) (i : ℕ) (w : Option ValueTree) → option_and_then (λ (p : ValueTree). if nat_lt i (length l) then w else None) (slice_get l i) ≡ (if nat_lt i (length l) then w else None)
tested l i w =
    elim (cases_lt i (length l)) [
      | inl inside ↦ ap (option_and_then (λ (p : ValueTree). if nat_lt i (length l) then w else None)) (slice_get-get_or l i (word 0) inside)
      | inr past ↦
          let out : nat_lt i (length l) ≡ false = grind (arith, nat_tests, past) in
          ap (option_and_then (λ (p : ValueTree). if nat_lt i (length l) then w else None)) (slice_get_past l i past) ∙ sym (ap (λ b. if b then w else None) out)
    ]

pub single_inserted : (object : ValueTree) (i : ℕ) (v : ValueTree) → inserted object (i ∷ []) v ≡ with_part v i object
single_inserted object i (truth b) = refl
single_inserted object i (word w) = refl
single_inserted object i (many vs) = tested (listed vs) i (Some (composite (slice_set (listed vs) i object)))

pub ruleset single_rules = (single_extracted, single_inserted)

-- another part in the place of one
placed : (l : List Value) (i : ℕ) (y : Value) → i < length l → with_part (many (values_in (map value_of l))) i (value_of y) ≡ Some (many (values_in (map value_of (slice_set l i y))))
placed l i y inside =
    let there : nat_lt i (length (map value_of l)) ≡ true = grind (arith, nat_tests, inside, length-map l value_of) in
    ap (λ vs. if nat_lt i (length vs) then Some (composite (slice_set vs i (value_of y))) else None) (listed_values (map value_of l))
    ∙ ap (λ b. if b then Some (composite (slice_set (map value_of l) i (value_of y))) else None) there
    ∙ ap (λ vs. Some (composite vs)) (sym (map-set value_of l i y))

put_by : (l : List Value) (i : ℕ) (y : Value) → i < length l → (r : Bool) → option_and_then (with_part (many (values_in (map value_of l))) i) (if r then Some (value_of y) else None) ≡ (if r then Some (many (values_in (map value_of (slice_set l i y)))) else None)
put_by l i y inside true = placed l i y inside
put_by l i y inside false = refl

pub put_found : (l : List Value) (i : ℕ) (x y : Value) (r : Bool) (p : ValueTree) (is : List ℕ) → x ≡ get_or l i x → i < length l → (if r then Some (value_of y) else None) ≡ inserted p is (value_of x) → (if r then Some (many (values_in (map value_of (slice_set l i y)))) else None) ≡ inserted p (i ∷ is) (many (values_in (map value_of l)))
put_found l i x y r p is at inside done =
    let whole : ValueTree = many (values_in (map value_of l)) in
    sym (ap (option_and_then (λ part. option_and_then (with_part whole i) (inserted p is part))) (nth_inside l i x at inside)
    ∙ ap (option_and_then (with_part whole i)) (sym done)
    ∙ put_by l i y inside r)

pub put_past : (l : List Value) (i : ℕ) (p : ValueTree) (is : List ℕ) → length l ≤ i → None ≡ inserted p (i ∷ is) (many (values_in (map value_of l)))
put_past l i p is past =
    let whole : ValueTree = many (values_in (map value_of l)) in
    sym (ap (option_and_then (λ part. option_and_then (with_part whole i) (inserted p is part))) (nth_past l i past))

pub put_kept : (l : List Value) (i : ℕ) (x y : Value) → x ≡ get_or l i x → value_of y ≡ value_of x → map value_of (slice_set l i y) ≡ map value_of l
put_kept l i x y at same = map-set value_of l i y ∙ ap (slice_set (map value_of l) i) (same ∙ ap value_of at ∙ sym (get_or-map value_of l i x)) ∙ set-get_or (map value_of l) i (value_of x)

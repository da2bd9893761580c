-- What operations make of values of words is of words.
use Rattle.std.proofs.Common.{◌≡◌, ◌<◌, ◌^◌, ◌==◌, ℕ, zero, suc, Bool, true, false, not, List, [], ◌∷◌, ◌++◌, length, map, take, drop, replicate, Option, Some, None, refl, sym, subst, if◌then◌else◌, arith}
use Rattle.std.specs.Prelude.{flat_map, nat_lt, option_map, option_and_then, slice_get, slice_set, slice_index}
use Rattle.std.proofs.lemmas.Option.{same_Some}
use Rattle.spv_module.specs.declared.tree.Elem.{Elem}
use Rattle.spv_module.specs.declared.tree.Elem.TheVariants as elem
use Rattle.spv_module.specs.declared.tree.Length.TheVariants.{Fixed, Spec}
use Rattle.spv_types.specs.Tree.{Tree, boolean, int, uint, vector, array, runtime, struct, Trees, no_trees, tree, ValueTree, truth, word, many, ValueTrees, no_values, value, values_in}
use Rattle.spv_types.specs.Leaves.{leaf_count, zero_elem, zero_of, zeros_of}
use Rattle.op_semantics.specs.declared.operation.Unary.{Unary}
use Rattle.op_semantics.specs.declared.operation.Binary.{Binary}
use Rattle.op_semantics.specs.declared.operation.Comparison.{Comparison}
use Rattle.op_semantics.specs.declared.operation.Logical.{Logical}
use Rattle.op_semantics.specs.declared.operation.Clamp.{Clamp}
use Rattle.op_semantics.specs.declared.operation.Operation.{Operation}
use Rattle.op_semantics.specs.declared.operation.Operation.TheVariants as op
use Rattle.op_semantics.specs.Fits.{IsOfWords, AreOfWords}
use Rattle.op_semantics.specs.Word.{unary_word, binary_word, clamp_word, bit_field_signed, bit_field_unsigned, bit_field_insert}
use Rattle.op_semantics.specs.Component.{listed, composite, each_one, each_two, each_three, by_one, by_two, by_three, unary_scalar, binary_scalar, comparison_scalar, logical_scalar, not_scalar, clamp_scalar, chosen, field_scalar, insert_scalar, bit_field, inserted_field}
use Rattle.op_semantics.specs.Composite.{as_truth, over_truths, part_at, with_part, extracted, inserted, extracted_at, inserted_at, picked, shuffled, components, constructed, extracted_by, inserted_by}
use Rattle.op_semantics.specs.Value.{of_one, of_two, of_three, of_four, value_of_operation}
use Rattle.value_words.specs.Words.{elem_from, parts_from, value_from, values_from}
use Rattle.list_law.proofs.Options.{some_part}
use Rattle.fits_law.proofs.Literals.{extracted_along, inserted_along}
use Rattle.fits_law.proofs.Operations.{before_some}
use Rattle.typed_law.specs.Words.{AllOfWords, AreAllWords}
use Rattle.typed_law.proofs.LowWords.{unary_low, binary_low, clamp_low, unsigned_field_low, signed_field_low, insert_low}

-- what f gives of values of words is of words
abbrev Keeps : (ValueTree → Option ValueTree) → Type 0
Keeps f = (v r : ValueTree) → IsOfWords v → f v ≡ Some r → IsOfWords r

abbrev KeepsTwo : (ValueTree → ValueTree → Option ValueTree) → Type 0
KeepsTwo f = (v w r : ValueTree) → IsOfWords v → IsOfWords w → f v w ≡ Some r → IsOfWords r

abbrev KeepsThree : (ValueTree → ValueTree → ValueTree → Option ValueTree) → Type 0
KeepsThree f = (v w x r : ValueTree) → IsOfWords v → IsOfWords w → IsOfWords x → f v w x ≡ Some r → IsOfWords r

-- lists
listed_low : (vs : ValueTrees) → AreOfWords vs → AllOfWords (listed vs)
listed_low no_values h = tt
listed_low (value v vs) h = (h.0, listed_low vs h.1)

values_low : (vs : List ValueTree) → AllOfWords vs → AreOfWords (values_in vs)
values_low [] h = tt
values_low (v ∷ vs) h = (h.0, values_low vs h.1)

pub composite_low : (vs : List ValueTree) → AllOfWords vs → IsOfWords (composite vs)
composite_low vs h = values_low vs h

append_low : (vs ws : List ValueTree) → AllOfWords vs → AllOfWords ws → AllOfWords (vs ++ ws)
append_low [] ws h k = k
append_low (v ∷ vs) ws h k = (h.0, append_low vs ws h.1 k)

got_low : (vs : List ValueTree) (i : ℕ) (r : ValueTree) → AllOfWords vs → slice_get vs i ≡ Some r → IsOfWords r
got_low [] i r h e = cc
got_low (v ∷ vs) zero r h e = subst IsOfWords (same_Some v r e) h.0
got_low (v ∷ vs) (suc i) r h e = got_low vs i r h.1 e

set_low : (vs : List ValueTree) (i : ℕ) (v : ValueTree) → AllOfWords vs → IsOfWords v → AllOfWords (slice_set vs i v)
set_low [] i v h k = tt
set_low (u ∷ vs) zero v h k = (k, h.1)
set_low (u ∷ vs) (suc i) v h k = (h.0, set_low vs i v h.1 k)

some_list : (o : Option (List ValueTree)) (r : ValueTree) → ((vs : List ValueTree) → o ≡ Some vs → AllOfWords vs) → option_map composite o ≡ Some r → IsOfWords r
some_list None r h e = cc
some_list (Some vs) r h e = subst IsOfWords (same_Some (composite vs) r e) (values_low vs (h vs refl))

-- by component
each_low : (f : ValueTree → Option ValueTree) → Keeps f → (xs rs : List ValueTree) → AllOfWords xs → each_one f xs ≡ Some rs → AllOfWords rs
each_low f keeps [] rs h e = subst AllOfWords (same_Some [] rs e) tt
each_low f keeps (x ∷ xs) rs h e =
    let b = before_some (f x) (each_one f xs) rs e in
    subst AllOfWords (sym b.4) (keeps x b.0 h.0 b.2, each_low f keeps xs b.1 h.1 b.3)

each_two_low : (f : ValueTree → ValueTree → Option ValueTree) → KeepsTwo f → (xs ys rs : List ValueTree) → AllOfWords xs → AllOfWords ys → each_two f xs ys ≡ Some rs → AllOfWords rs
each_two_low f keeps [] [] rs h k e = subst AllOfWords (same_Some [] rs e) tt
each_two_low f keeps [] (y ∷ ys) rs h k e = cc
each_two_low f keeps (x ∷ xs) [] rs h k e = cc
each_two_low f keeps (x ∷ xs) (y ∷ ys) rs h k e =
    let b = before_some (f x y) (each_two f xs ys) rs e in
    subst AllOfWords (sym b.4) (keeps x y b.0 h.0 k.0 b.2, each_two_low f keeps xs ys b.1 h.1 k.1 b.3)

each_three_low : (f : ValueTree → ValueTree → ValueTree → Option ValueTree) → KeepsThree f → (xs ys zs rs : List ValueTree) → AllOfWords xs → AllOfWords ys → AllOfWords zs → each_three f xs ys zs ≡ Some rs → AllOfWords rs
each_three_low f keeps [] [] [] rs h k l e = subst AllOfWords (same_Some [] rs e) tt
each_three_low f keeps (x ∷ xs) (y ∷ ys) (z ∷ zs) rs h k l e =
    let b = before_some (f x y z) (each_three f xs ys zs) rs e in
    subst AllOfWords (sym b.4) (keeps x y z b.0 h.0 k.0 l.0 b.2, each_three_low f keeps xs ys zs b.1 h.1 k.1 l.1 b.3)
each_three_low f keeps [] [] (z ∷ zs) rs h k l e = cc
each_three_low f keeps [] (y ∷ ys) zs rs h k l e = cc
each_three_low f keeps (x ∷ xs) [] zs rs h k l e = cc
each_three_low f keeps (x ∷ xs) (y ∷ ys) [] rs h k l e = cc

one_low : (f : ValueTree → Option ValueTree) → Keeps f → Keeps (by_one f)
one_low f keeps (many xs) r h e = some_list (each_one f (listed xs)) r (λ vs at. each_low f keeps (listed xs) vs (listed_low xs h) at) e
one_low f keeps (truth b) r h e = keeps (truth b) r h e
one_low f keeps (word w) r h e = keeps (word w) r h e

two_low : (f : ValueTree → ValueTree → Option ValueTree) → KeepsTwo f → KeepsTwo (by_two f)
two_low f keeps (many xs) (many ys) r h k e = some_list (each_two f (listed xs) (listed ys)) r (λ vs at. each_two_low f keeps (listed xs) (listed ys) vs (listed_low xs h) (listed_low ys k) at) e
two_low f keeps (many xs) (truth b) r h k e = keeps (many xs) (truth b) r h k e
two_low f keeps (many xs) (word w) r h k e = keeps (many xs) (word w) r h k e
two_low f keeps (truth b) w r h k e = keeps (truth b) w r h k e
two_low f keeps (word b) w r h k e = keeps (word b) w r h k e

three_low : (f : ValueTree → ValueTree → ValueTree → Option ValueTree) → KeepsThree f → KeepsThree (by_three f)
three_low f keeps (many xs) (many ys) (many zs) r h k l e =
    some_list (each_three f (listed xs) (listed ys) (listed zs)) r (λ vs at. each_three_low f keeps (listed xs) (listed ys) (listed zs) vs (listed_low xs h) (listed_low ys k) (listed_low zs l) at) e
three_low f keeps (many xs) (many ys) (truth b) r h k l e = keeps (many xs) (many ys) (truth b) r h k l e
three_low f keeps (many xs) (many ys) (word b) r h k l e = keeps (many xs) (many ys) (word b) r h k l e
three_low f keeps (many xs) (truth b) z r h k l e = keeps (many xs) (truth b) z r h k l e
three_low f keeps (many xs) (word b) z r h k l e = keeps (many xs) (word b) z r h k l e
three_low f keeps (truth b) y z r h k l e = keeps (truth b) y z r h k l e
three_low f keeps (word b) y z r h k l e = keeps (word b) y z r h k l e

-- scalars
some_word : (o : Option ℕ) (r : ValueTree) → ((n : ℕ) → o ≡ Some n → n < 2 ^ 32) → option_map word o ≡ Some r → IsOfWords r
some_word None r h e = cc
some_word (Some n) r h e = subst IsOfWords (same_Some (word n) r e) (h n refl)

unary_scalar_low : (o : Unary) → Keeps (unary_scalar o)
unary_scalar_low o (word a) r h e = subst IsOfWords (same_Some (word (unary_word o a)) r e) (unary_low o a h)
unary_scalar_low o (truth b) r h e = cc
unary_scalar_low o (many vs) r h e = cc

binary_scalar_low : (o : Binary) → KeepsTwo (binary_scalar o)
binary_scalar_low o (word a) (word b) r h k e = some_word (binary_word o a b) r (λ n at. binary_low o a b n h k at) e
binary_scalar_low o (word a) (truth b) r h k e = cc
binary_scalar_low o (word a) (many b) r h k e = cc
binary_scalar_low o (truth a) b r h k e = cc
binary_scalar_low o (many a) b r h k e = cc

comparison_scalar_low : (o : Comparison) → KeepsTwo (comparison_scalar o)
comparison_scalar_low o (word a) (word b) r h k e = subst IsOfWords (same_Some (truth _) r e) tt
comparison_scalar_low o (word a) (truth b) r h k e = cc
comparison_scalar_low o (word a) (many b) r h k e = cc
comparison_scalar_low o (truth a) b r h k e = cc
comparison_scalar_low o (many a) b r h k e = cc

logical_scalar_low : (o : Logical) → KeepsTwo (logical_scalar o)
logical_scalar_low o (truth a) (truth b) r h k e = subst IsOfWords (same_Some (truth _) r e) tt
logical_scalar_low o (truth a) (word b) r h k e = cc
logical_scalar_low o (truth a) (many b) r h k e = cc
logical_scalar_low o (word a) b r h k e = cc
logical_scalar_low o (many a) b r h k e = cc

not_scalar_low : Keeps not_scalar
not_scalar_low (truth b) r h e = subst IsOfWords (same_Some (truth (not b)) r e) tt
not_scalar_low (word b) r h e = cc
not_scalar_low (many b) r h e = cc

clamp_scalar_low : (o : Clamp) → KeepsThree (clamp_scalar o)
clamp_scalar_low o (word a) (word b) (word c) r h k l e = subst IsOfWords (same_Some (word (clamp_word o a b c)) r e) (clamp_low o a b c h k l)
clamp_scalar_low o (word a) (word b) (truth c) r h k l e = cc
clamp_scalar_low o (word a) (word b) (many c) r h k l e = cc
clamp_scalar_low o (word a) (truth b) c r h k l e = cc
clamp_scalar_low o (word a) (many b) c r h k l e = cc
clamp_scalar_low o (truth a) b c r h k l e = cc
clamp_scalar_low o (many a) b c r h k l e = cc

chosen_low : KeepsThree chosen
chosen_low (truth true) a b r h k l e = subst IsOfWords (same_Some a r e) k
chosen_low (truth false) a b r h k l e = subst IsOfWords (same_Some b r e) l
chosen_low (word c) a b r h k l e = cc
chosen_low (many c) a b r h k l e = cc

field_scalar_low : (f : ℕ → Option ℕ) → ((a n : ℕ) → a < 2 ^ 32 → f a ≡ Some n → n < 2 ^ 32) → Keeps (field_scalar f)
field_scalar_low f keeps (word a) r h e = some_word (f a) r (λ n at. keeps a n h at) e
field_scalar_low f keeps (truth a) r h e = cc
field_scalar_low f keeps (many a) r h e = cc

field_low : (f : ℕ → ℕ → ℕ → Option ℕ) → ((offset count a n : ℕ) → a < 2 ^ 32 → f offset count a ≡ Some n → n < 2 ^ 32) → KeepsThree (bit_field f)
field_low f keeps base (word offset) (word count) r h k l e = one_low (field_scalar (f offset count)) (field_scalar_low (f offset count) (λ a n low at. keeps offset count a n low at)) base r h e
field_low f keeps base (word offset) (truth count) r h k l e = cc
field_low f keeps base (word offset) (many count) r h k l e = cc
field_low f keeps base (truth offset) count r h k l e = cc
field_low f keeps base (many offset) count r h k l e = cc

insert_scalar_low : (offset count : ℕ) → KeepsTwo (insert_scalar offset count)
insert_scalar_low offset count (word base) (word part) r h k e = some_word (bit_field_insert offset count base part) r (λ n at. insert_low offset count base part n h at) e
insert_scalar_low offset count (word base) (truth part) r h k e = cc
insert_scalar_low offset count (word base) (many part) r h k e = cc
insert_scalar_low offset count (truth base) part r h k e = cc
insert_scalar_low offset count (many base) part r h k e = cc

inserted_field_low : (base part offset count r : ValueTree) → IsOfWords base → IsOfWords part → inserted_field base part offset count ≡ Some r → IsOfWords r
inserted_field_low base part (word offset) (word count) r h k e = two_low (insert_scalar offset count) (insert_scalar_low offset count) base part r h k e
inserted_field_low base part (word offset) (truth count) r h k e = cc
inserted_field_low base part (word offset) (many count) r h k e = cc
inserted_field_low base part (truth offset) count r h k e = cc
inserted_field_low base part (many offset) count r h k e = cc

over_low : (f : List Bool → Bool) → Keeps (over_truths f)
over_low f (many vs) r h e = by_truths (each_one as_truth (listed vs)) e
  where
    by_truths : (o : Option (List Bool)) → option_map (λ bs. truth (f bs)) o ≡ Some r → IsOfWords r
    by_truths None e = cc
    by_truths (Some bs) e = subst IsOfWords (same_Some (truth (f bs)) r e) tt
over_low f (truth b) r h e = cc
over_low f (word b) r h e = cc

-- parts
part_low : (v r : ValueTree) (i : ℕ) → IsOfWords v → part_at v i ≡ Some r → IsOfWords r
part_low (many vs) r i h e = got_low (listed vs) i r (listed_low vs h) e
part_low (truth b) r i h e = cc
part_low (word b) r i h e = cc

with_part_low : (v part r : ValueTree) (i : ℕ) → IsOfWords v → IsOfWords part → with_part v i part ≡ Some r → IsOfWords r
with_part_low (many vs) part r i h k e = by_less (nat_lt i (length (listed vs))) e
  where
    by_less : (b : Bool) → (if b then Some (composite (slice_set (listed vs) i part)) else None) ≡ Some r → IsOfWords r
    by_less true e = subst IsOfWords (same_Some (composite (slice_set (listed vs) i part)) r e) (values_low (slice_set (listed vs) i part) (set_low (listed vs) i part (listed_low vs h) k))
    by_less false e = cc
with_part_low (truth b) part r i h k e = cc
with_part_low (word b) part r i h k e = cc

pub extracted_low : (js : List ℕ) → Keeps (extracted js)
extracted_low [] v r h e = subst IsOfWords (same_Some v r e) h
extracted_low (j ∷ js) v r h e = let p = some_part (extracted js) (part_at v j) r e in extracted_low js p.0 r (part_low v p.0 j h p.1) p.2

pub inserted_low : (object : ValueTree) (js : List ℕ) (v r : ValueTree) → IsOfWords object → IsOfWords v → inserted object js v ≡ Some r → IsOfWords r
inserted_low object [] v r h k e = subst IsOfWords (same_Some object r e) h
inserted_low object (j ∷ js) v r h k e =
    let p = some_part (λ part. option_and_then (with_part v j) (inserted object js part)) (part_at v j) r e in
    let q = some_part (with_part v j) (inserted object js p.0) r p.2 in
    with_part_low v q.0 r j k (inserted_low object js p.0 q.0 h (part_low v p.0 j k p.1) q.1) q.2

extracted_at_low : (v i r : ValueTree) → IsOfWords v → extracted_at v i ≡ Some r → IsOfWords r
extracted_at_low v (word i) r h e = part_low v r i h e
extracted_at_low v (truth i) r h e = cc
extracted_at_low v (many i) r h e = cc

inserted_at_low : (v object i r : ValueTree) → IsOfWords v → IsOfWords object → inserted_at v object i ≡ Some r → IsOfWords r
inserted_at_low v object (word i) r h k e = with_part_low v object r i h k e
inserted_at_low v object (truth i) r h k e = cc
inserted_at_low v object (many i) r h k e = cc

zero_elem_low : (e : Elem) → IsOfWords (zero_elem e)
zero_elem_low elem.Bool = tt
zero_elem_low elem.Int = omega arith
zero_elem_low elem.Uint = omega arith

picked_low : (zero_is : ValueTree) (vs : List ValueTree) (n : ℕ) (r : ValueTree) → IsOfWords zero_is → AllOfWords vs → picked zero_is vs n ≡ Some r → IsOfWords r
picked_low zero_is vs n r h k e = by_test (n == 4294967295) e
  where
    by_test : (b : Bool) → (if b then Some zero_is else slice_get vs n) ≡ Some r → IsOfWords r
    by_test true e = subst IsOfWords (same_Some zero_is r e) h
    by_test false e = got_low vs n r k e

picks_low : (zero_is : ValueTree) (vs : List ValueTree) (ns : List ℕ) (rs : List ValueTree) → IsOfWords zero_is → AllOfWords vs → each_one (picked zero_is vs) ns ≡ Some rs → AllOfWords rs
picks_low zero_is vs [] rs h k e = subst AllOfWords (same_Some [] rs e) tt
picks_low zero_is vs (n ∷ ns) rs h k e =
    let b = before_some (picked zero_is vs n) (each_one (picked zero_is vs) ns) rs e in
    subst AllOfWords (sym b.4) (picked_low zero_is vs n b.0 h k b.2, picks_low zero_is vs ns b.1 h k b.3)

shuffled_low : (t : Tree) (ns : List ℕ) → KeepsTwo (shuffled t ns)
shuffled_low (vector e n) ns (many xs) (many ys) r h k at =
    some_list (each_one (picked (zero_elem e) (listed xs ++ listed ys)) ns) r (λ vs found. picks_low (zero_elem e) (listed xs ++ listed ys) ns vs (zero_elem_low e) (append_low (listed xs) (listed ys) (listed_low xs h) (listed_low ys k)) found) at
shuffled_low (vector e n) ns (many xs) (truth ys) r h k at = cc
shuffled_low (vector e n) ns (many xs) (word ys) r h k at = cc
shuffled_low (vector e n) ns (truth xs) ys r h k at = cc
shuffled_low (vector e n) ns (word xs) ys r h k at = cc
shuffled_low t ns xs ys r h k at = cc

components_low : (v : ValueTree) → IsOfWords v → AllOfWords (components v)
components_low (many vs) h = listed_low vs h
components_low (truth b) h = (h, tt)
components_low (word w) h = (h, tt)

all_components_low : (vs : List ValueTree) → AllOfWords vs → AllOfWords (flat_map components vs)
all_components_low [] h = tt
all_components_low (v ∷ vs) h = append_low (components v) (flat_map components vs) (components_low v h.0) (all_components_low vs h.1)

constructed_low : (t : Tree) (vs : List ValueTree) → AllOfWords vs → IsOfWords (constructed t vs)
constructed_low (vector e n) vs h = values_low (flat_map components vs) (all_components_low vs h)
constructed_low t vs h = values_low vs h

-- zeros
replicated_low : (n : ℕ) (v : ValueTree) → IsOfWords v → AllOfWords (replicate n v)
replicated_low zero v h = tt
replicated_low (suc n) v h = (h, replicated_low n v h)

mutual
  pub zero_low : (t : Tree) → IsOfWords (zero_of t)
  zero_low boolean = tt
  zero_low int = omega arith
  zero_low uint = omega arith
  zero_low (vector e n) = values_low (replicate n (zero_elem e)) (replicated_low n (zero_elem e) (zero_elem_low e))
  zero_low (array t (Fixed n)) = values_low (replicate n (zero_of t)) (replicated_low n (zero_of t) (zero_low t))
  zero_low (array t (Spec id)) = tt
  zero_low (runtime t) = tt
  zero_low (struct id ts) = zeros_low ts

  zeros_low : (ts : Trees) → AreOfWords (zeros_of ts)
  zeros_low no_trees = tt
  zeros_low (tree t ts) = (zero_low t, zeros_low ts)

-- what is read from words
pub first_low : (ws : List ℕ) → AreAllWords ws → slice_index ws 0 < 2 ^ 32
first_low [] h = omega arith
first_low (w ∷ ws) h = h.0

pub drop_low : (n : ℕ) (ws : List ℕ) → AreAllWords ws → AreAllWords (drop n ws)
drop_low zero ws h = h
drop_low (suc n) [] h = tt
drop_low (suc n) (w ∷ ws) h = drop_low n ws h.1

elem_low : (e : Elem) (w : ℕ) → w < 2 ^ 32 → IsOfWords (elem_from e w)
elem_low elem.Bool w h = tt
elem_low elem.Int w h = h
elem_low elem.Uint w h = h

elems_low : (e : Elem) (n : ℕ) (ws : List ℕ) → AreAllWords ws → AllOfWords (map (elem_from e) (take n ws))
elems_low e zero ws h = tt
elems_low e (suc n) [] h = tt
elems_low e (suc n) (w ∷ ws) h = (elem_low e w h.0, elems_low e n ws h.1)

parts_low : (f : List ℕ → ValueTree) → ((ws : List ℕ) → AreAllWords ws → IsOfWords (f ws)) → (size n : ℕ) (ws : List ℕ) → AreAllWords ws → AllOfWords (parts_from f size n ws)
parts_low f keeps size zero ws h = tt
parts_low f keeps size (suc n) ws h = (keeps ws h, parts_low f keeps size n (drop size ws) (drop_low size ws h))

mutual
  pub read_low : (t : Tree) (ws : List ℕ) → AreAllWords ws → IsOfWords (value_from t ws)
  read_low boolean ws h = tt
  read_low int ws h = first_low ws h
  read_low uint ws h = first_low ws h
  read_low (vector e n) ws h = values_low (map (elem_from e) (take n ws)) (elems_low e n ws h)
  read_low (array t (Fixed n)) ws h = values_low (parts_from (value_from t) (leaf_count t) n ws) (parts_low (value_from t) (λ us k. read_low t us k) (leaf_count t) n ws h)
  read_low (array t (Spec id)) ws h = tt
  read_low (runtime t) ws h = tt
  read_low (struct id ts) ws h = members_low ts ws h

  members_low : (ts : Trees) (ws : List ℕ) → AreAllWords ws → AreOfWords (values_from ts ws)
  members_low no_trees ws h = tt
  members_low (tree t ts) ws h = (read_low t ws h, members_low ts (drop (leaf_count t) ws) (drop_low (leaf_count t) ws h))

-- operands by their number
one_of : (f : ValueTree → Option ValueTree) → Keeps f → (vs : List ValueTree) (r : ValueTree) → AllOfWords vs → of_one f vs ≡ Some r → IsOfWords r
one_of f keeps (a ∷ []) r h e = keeps a r h.0 e
one_of f keeps [] r h e = cc
one_of f keeps (a ∷ b ∷ vs) r h e = cc

two_of : (f : ValueTree → ValueTree → Option ValueTree) → KeepsTwo f → (vs : List ValueTree) (r : ValueTree) → AllOfWords vs → of_two f vs ≡ Some r → IsOfWords r
two_of f keeps (a ∷ b ∷ []) r h e = keeps a b r h.0 h.1.0 e
two_of f keeps [] r h e = cc
two_of f keeps (a ∷ []) r h e = cc
two_of f keeps (a ∷ b ∷ c ∷ vs) r h e = cc

three_of : (f : ValueTree → ValueTree → ValueTree → Option ValueTree) → KeepsThree f → (vs : List ValueTree) (r : ValueTree) → AllOfWords vs → of_three f vs ≡ Some r → IsOfWords r
three_of f keeps (a ∷ b ∷ c ∷ []) r h e = keeps a b c r h.0 h.1.0 h.1.1.0 e
three_of f keeps [] r h e = cc
three_of f keeps (a ∷ []) r h e = cc
three_of f keeps (a ∷ b ∷ []) r h e = cc
three_of f keeps (a ∷ b ∷ c ∷ d ∷ vs) r h e = cc

four_of : (vs : List ValueTree) (r : ValueTree) → AllOfWords vs → of_four inserted_field vs ≡ Some r → IsOfWords r
four_of (a ∷ b ∷ c ∷ d ∷ []) r h e = inserted_field_low a b c d r h.0 h.1.0 e
four_of [] r h e = cc
four_of (a ∷ []) r h e = cc
four_of (a ∷ b ∷ []) r h e = cc
four_of (a ∷ b ∷ c ∷ []) r h e = cc
four_of (a ∷ b ∷ c ∷ d ∷ x ∷ vs) r h e = cc

-- each operation
pub op_low : (o : Operation) (t : Tree) (ls : List ℕ) (vs : List ValueTree) (r : ValueTree) → AllOfWords vs → value_of_operation o t ls vs ≡ Some r → IsOfWords r
op_low (op.Unary o) t ls vs r h e = one_of (by_one (unary_scalar o)) (one_low (unary_scalar o) (unary_scalar_low o)) vs r h e
op_low (op.Binary o) t ls vs r h e = two_of (by_two (binary_scalar o)) (two_low (binary_scalar o) (binary_scalar_low o)) vs r h e
op_low (op.Comparison o) t ls vs r h e = two_of (by_two (comparison_scalar o)) (two_low (comparison_scalar o) (comparison_scalar_low o)) vs r h e
op_low (op.Logical o) t ls vs r h e = two_of (by_two (logical_scalar o)) (two_low (logical_scalar o) (logical_scalar_low o)) vs r h e
op_low op.LogicalNot t ls vs r h e = one_of (by_one not_scalar) (one_low not_scalar not_scalar_low) vs r h e
op_low (op.Clamp o) t ls vs r h e = three_of (by_three (clamp_scalar o)) (three_low (clamp_scalar o) (clamp_scalar_low o)) vs r h e
op_low op.BitFieldInsert t ls vs r h e = four_of vs r h e
op_low op.BitFieldSExtract t ls vs r h e = three_of (bit_field bit_field_signed) (field_low bit_field_signed (λ offset count a n low at. signed_field_low offset count a n low at)) vs r h e
op_low op.BitFieldUExtract t ls vs r h e = three_of (bit_field bit_field_unsigned) (field_low bit_field_unsigned (λ offset count a n low at. unsigned_field_low offset count a n low at)) vs r h e
op_low op.Any t ls vs r h e = one_of (over_truths _) (over_low _) vs r h e
op_low op.All t ls vs r h e = one_of (over_truths _) (over_low _) vs r h e
op_low op.Select t ls vs r h e = three_of (by_three chosen) (three_low chosen chosen_low) vs r h e
op_low op.Undef t ls vs r h e = subst IsOfWords (same_Some (zero_of t) r e) (zero_low t)
op_low op.Copy t ls vs r h e = one_of Some (λ v q low at. subst IsOfWords (same_Some v q at) low) vs r h e
op_low op.VectorExtractDynamic t ls vs r h e = two_of extracted_at (λ v i q low index at. extracted_at_low v i q low at) vs r h e
op_low op.VectorInsertDynamic t ls vs r h e = three_of inserted_at (λ v object i q low of_object index at. inserted_at_low v object i q low of_object at) vs r h e
op_low op.VectorShuffle t ls vs r h e = two_of (shuffled t ls) (shuffled_low t ls) vs r h e
op_low op.CompositeConstruct t ls vs r h e = subst IsOfWords (same_Some (constructed t vs) r e) (constructed_low t vs h)
op_low op.CompositeExtract t ls vs r h e = one_of (extracted_by ls) (λ v q low at. extracted_low ls v q low (extracted_along ls v q at).1) vs r h e
op_low op.CompositeInsert t ls vs r h e = two_of (λ object whole. inserted_by object ls whole) (λ object whole q low of_whole at. inserted_low object ls whole q low of_whole (inserted_along object ls whole q at).1) vs r h e

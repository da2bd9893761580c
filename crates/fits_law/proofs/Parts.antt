-- Values of a shape by their parts.
use Rattle.std.proofs.Common.{◌≡◌, ◌==◌, ◌&&◌, ℕ, zero, suc, Bool, true, false, List, [], ◌∷◌, length, replicate, Option, Some, None, refl, sym, ap, ◌∙◌, subst, arith}
use Rattle.std.specs.Prelude.{nat_lt, option_and_then, slice_get, slice_set, if◌then◌else◌}
use Rattle.std.proofs.lemmas.Bool.Decides.{nat_tests}
use Rattle.std.proofs.lemmas.Bool.{and_parts, and_from}
use Rattle.std.proofs.lemmas.List.{length-replicate}
use Rattle.spv_module.specs.declared.tree.Elem.{Elem}
use Rattle.spv_module.specs.declared.tree.Elem.TheVariants as elem
use Rattle.spv_module.specs.declared.tree.Length.TheVariants.{Fixed, Spec}
use Rattle.spv_types.specs.Tree.{Tree, boolean, int, uint, vector, array, runtime, struct, Trees, no_trees, tree, ValueTree, truth, word, many, ValueTrees, no_values, value, values_in}
use Rattle.spv_types.specs.Leaves.{zero_elem, zero_of, zeros_of, IsSized, AreSized}
use Rattle.op_semantics.specs.Component.{listed, composite}
use Rattle.op_semantics.specs.Composite.{part_at, with_part, extracted, inserted}
use Rattle.op_semantics.specs.Fits.{count_of, elem_tree, fits, each_fits, fits_parts}
use Rattle.module_semantics.specs.Operands.{as_word}
use Rattle.list_law.proofs.Options.{some_part}
use Rattle.list_law.proofs.Numbers.{same_number, number_same}
use Rattle.fits_law.specs.Takes.{Alike, AreAlike, AllAlike, nth_of, part_shape, shape_at}
use Rattle.fits_law.specs.State.{element_shape, place_shape}

-- a value that is a word, and the whole of a value
pub word_value : (o : Option ValueTree) (x : ℕ) → as_word o ≡ Some x → o ≡ Some (word x)
word_value None x e = cc
word_value (Some (word w)) x e = let same : w ≡ x = cc in ap (λ w. Some (word w)) same
word_value (Some (truth b)) x e = cc
word_value (Some (many vs)) x e = cc

pub extracted_none : (o : Option ValueTree) → option_and_then (extracted []) o ≡ o
extracted_none None = refl
extracted_none (Some v) = refl

pub listed_values : (vs : List ValueTree) → listed (values_in vs) ≡ vs
listed_values [] = refl
listed_values (v ∷ vs) = ap (λ us. v ∷ us) (listed_values vs)

pub listed_back : (vs : ValueTrees) → values_in (listed vs) ≡ vs
listed_back no_values = refl
listed_back (value v vs) = ap (value v) (listed_back vs)

pub count_listed : (vs : ValueTrees) → count_of vs ≡ length (listed vs)
count_listed no_values = refl
count_listed (value v vs) = omega (arith, count_listed vs)

-- each of a list has a shape
abbrev pub EachFits : Tree → List ValueTree → Type 0
EachFits t [] = Unit {0}
EachFits t (v ∷ vs) = (fits t v ≡ true) × EachFits t vs

pub each_of : (t : Tree) (vs : ValueTrees) → each_fits t vs ≡ true → EachFits t (listed vs)
each_of t no_values e = tt
each_of t (value v vs) e = let parts = and_parts (fits t v) (each_fits t vs) e in (parts.0, each_of t vs parts.1)

pub of_each : (t : Tree) (vs : ValueTrees) → EachFits t (listed vs) → each_fits t vs ≡ true
of_each t no_values e = refl
of_each t (value v vs) e = and_from (fits t v) (each_fits t vs) e.0 (of_each t vs e.1)

-- a vector or an array of so many parts
pub many_of : (t : Tree) (n : ℕ) (vs : ValueTrees) → ((count_of vs == n) && each_fits t vs) ≡ true → (length (listed vs) ≡ n) × EachFits t (listed vs)
many_of t n vs e = let parts = and_parts (count_of vs == n) (each_fits t vs) e in (sym (count_listed vs) ∙ same_number (count_of vs) n parts.0, each_of t vs parts.1)

pub of_many : (t : Tree) (n : ℕ) (vs : List ValueTree) → length vs ≡ n → EachFits t vs → ((count_of (values_in vs) == n) && each_fits t (values_in vs)) ≡ true
of_many t n vs count each =
    and_from (count_of (values_in vs) == n) (each_fits t (values_in vs)) (number_same (count_of (values_in vs)) n (count_listed (values_in vs) ∙ ap length (listed_values vs) ∙ count))
    (of_each t (values_in vs) (subst (EachFits t) (sym (listed_values vs)) each))

pub each_at : (t : Tree) (vs : List ValueTree) (i : ℕ) (v : ValueTree) → EachFits t vs → slice_get vs i ≡ Some v → fits t v ≡ true
each_at t [] i v each e = cc
each_at t (u ∷ vs) zero v each e = let same : u ≡ v = cc in subst (λ w. fits t w ≡ true) same each.0
each_at t (u ∷ vs) (suc i) v each e = each_at t vs i v each.1 e

pub each_set : (t : Tree) (vs : List ValueTree) (i : ℕ) (v : ValueTree) → EachFits t vs → fits t v ≡ true → EachFits t (slice_set vs i v)
each_set t [] i v each e = tt
each_set t (u ∷ vs) zero v each e = (e, each.1)
each_set t (u ∷ vs) (suc i) v each e = (each.0, each_set t vs i v each.1 e)

pub set_length : {A : Type 0} (xs : List A) (i : ℕ) (x : A) → length (slice_set xs i x) ≡ length xs
set_length [] i x = refl
set_length (y ∷ xs) zero x = refl
set_length (y ∷ xs) (suc i) x = ap (λ n. suc n) (set_length xs i x)

-- members one by one
abbrev pub MembersFit : Trees → List ValueTree → Type 0
MembersFit no_trees [] = Unit {0}
MembersFit (tree t ts) (v ∷ vs) = (fits t v ≡ true) × MembersFit ts vs
MembersFit _ _ = ⊥

pub members_of : (ts : Trees) (vs : ValueTrees) → fits_parts ts vs ≡ true → MembersFit ts (listed vs)
members_of no_trees no_values e = tt
members_of no_trees (value v vs) e = cc
members_of (tree t ts) no_values e = cc
members_of (tree t ts) (value v vs) e = let parts = and_parts (fits t v) (fits_parts ts vs) e in (parts.0, members_of ts vs parts.1)

pub of_members : (ts : Trees) (vs : List ValueTree) → MembersFit ts vs → fits_parts ts (values_in vs) ≡ true
of_members no_trees [] each = refl
of_members no_trees (v ∷ vs) each = absurd each
of_members (tree t ts) [] each = absurd each
of_members (tree t ts) (v ∷ vs) each = and_from (fits t v) (fits_parts ts (values_in vs)) each.0 (of_members ts vs each.1)

member_at : (ts : Trees) (vs : List ValueTree) (i : ℕ) (u : Tree) (v : ValueTree) → MembersFit ts vs → nth_of ts i ≡ Some u → slice_get vs i ≡ Some v → fits u v ≡ true
member_at no_trees [] i u v each at e = cc
member_at no_trees (w ∷ vs) i u v each at e = absurd each
member_at (tree t ts) [] i u v each at e = absurd each
member_at (tree t ts) (w ∷ vs) zero u v each at e = let same : w ≡ v = cc in let shape : t ≡ u = cc in subst (λ x. fits u x ≡ true) same (subst (λ x. fits x w ≡ true) shape each.0)
member_at (tree t ts) (w ∷ vs) (suc i) u v each at e = member_at ts vs i u v each.1 at e

member_set : (ts : Trees) (vs : List ValueTree) (i : ℕ) (u : Tree) (v : ValueTree) → MembersFit ts vs → nth_of ts i ≡ Some u → fits u v ≡ true → MembersFit ts (slice_set vs i v)
member_set no_trees [] i u v each at e = tt
member_set no_trees (w ∷ vs) i u v each at e = absurd each
member_set (tree t ts) [] i u v each at e = absurd each
member_set (tree t ts) (w ∷ vs) zero u v each at e = let shape : t ≡ u = cc in (subst (λ x. fits x v ≡ true) (sym shape) e, each.1)
member_set (tree t ts) (w ∷ vs) (suc i) u v each at e = (each.0, member_set ts vs i u v each.1 at e)

shape_below : (i n : ℕ) (t u : Tree) → (if nat_lt i n then Some t else None) ≡ Some u → t ≡ u
shape_below i n t u e = by_test (nat_lt i n) e
  where
    by_test : (b : Bool) → (if b then Some t else None) ≡ Some u → t ≡ u
    by_test true e = cc
    by_test false e = cc

-- the part at an index has the shape of the part
pub part_fits : (t u : Tree) (i : ℕ) (v r : ValueTree) → part_shape t i ≡ Some u → fits t v ≡ true → part_at v i ≡ Some r → fits u r ≡ true
part_fits boolean u i v r shape e at = cc
part_fits int u i v r shape e at = cc
part_fits uint u i v r shape e at = cc
part_fits (vector d n) u i (many vs) r shape e at = subst (λ x. fits x r ≡ true) (shape_below i n (elem_tree d) u shape) (each_at (elem_tree d) (listed vs) i r (many_of (elem_tree d) n vs e).1 at)
part_fits (vector d n) u i (word w) r shape e at = cc
part_fits (vector d n) u i (truth b) r shape e at = cc
part_fits (array t (Fixed n)) u i (many vs) r shape e at = subst (λ x. fits x r ≡ true) (shape_below i n t u shape) (each_at t (listed vs) i r (many_of t n vs e).1 at)
part_fits (array t (Fixed n)) u i (word w) r shape e at = cc
part_fits (array t (Fixed n)) u i (truth b) r shape e at = cc
part_fits (array t (Spec id)) u i v r shape e at = cc
part_fits (runtime t) u i v r shape e at = cc
part_fits (struct id ts) u i (many vs) r shape e at = member_at ts (listed vs) i u r (members_of ts vs e) shape at
part_fits (struct id ts) u i (word w) r shape e at = cc
part_fits (struct id ts) u i (truth b) r shape e at = cc

-- with another part of its shape the whole keeps its own
pub set_of : (vs : ValueTrees) (i : ℕ) (part r : ValueTree) → with_part (many vs) i part ≡ Some r → composite (slice_set (listed vs) i part) ≡ r
set_of vs i part r e = by_test (nat_lt i (length (listed vs))) e
  where
    by_test : (b : Bool) → (if b then Some (composite (slice_set (listed vs) i part)) else None) ≡ Some r → composite (slice_set (listed vs) i part) ≡ r
    by_test true e = cc
    by_test false e = cc

pub each_with : (t : Tree) (n : ℕ) (vs : ValueTrees) (i : ℕ) (part : ValueTree) → ((count_of vs == n) && each_fits t vs) ≡ true → fits t part ≡ true → ((count_of (values_in (slice_set (listed vs) i part)) == n) && each_fits t (values_in (slice_set (listed vs) i part))) ≡ true
each_with t n vs i part e at = let parts = many_of t n vs e in of_many t n (slice_set (listed vs) i part) (set_length (listed vs) i part ∙ parts.0) (each_set t (listed vs) i part parts.1 at)

pub with_fits : (t u : Tree) (i : ℕ) (v part r : ValueTree) → part_shape t i ≡ Some u → fits t v ≡ true → fits u part ≡ true → with_part v i part ≡ Some r → fits t r ≡ true
with_fits boolean u i v part r shape e at is = cc
with_fits int u i v part r shape e at is = cc
with_fits uint u i v part r shape e at is = cc
with_fits (vector d n) u i (many vs) part r shape e at is = subst (λ x. fits (vector d n) x ≡ true) (set_of vs i part r is) (each_with (elem_tree d) n vs i part e (subst (λ x. fits x part ≡ true) (sym (shape_below i n (elem_tree d) u shape)) at))
with_fits (vector d n) u i (word w) part r shape e at is = cc
with_fits (vector d n) u i (truth b) part r shape e at is = cc
with_fits (array t (Fixed n)) u i (many vs) part r shape e at is = subst (λ x. fits (array t (Fixed n)) x ≡ true) (set_of vs i part r is) (each_with t n vs i part e (subst (λ x. fits x part ≡ true) (sym (shape_below i n t u shape)) at))
with_fits (array t (Fixed n)) u i (word w) part r shape e at is = cc
with_fits (array t (Fixed n)) u i (truth b) part r shape e at is = cc
with_fits (array t (Spec id)) u i v part r shape e at is = cc
with_fits (runtime t) u i v part r shape e at is = cc
with_fits (struct id ts) u i (many vs) part r shape e at is =
    subst (λ x. fits (struct id ts) x ≡ true) (set_of vs i part r is) (of_members ts (slice_set (listed vs) i part) (member_set ts (listed vs) i u part (members_of ts vs e) shape at))
with_fits (struct id ts) u i (word w) part r shape e at is = cc
with_fits (struct id ts) u i (truth b) part r shape e at is = cc

-- along indexes
-- along indexes
pub extracted_fits : (is : List ℕ) (t u : Tree) (v r : ValueTree) → shape_at t is ≡ Some u → fits t v ≡ true → extracted is v ≡ Some r → fits u r ≡ true
extracted_fits [] t u v r shape e at = let same : v ≡ r = cc in let one : t ≡ u = cc in subst (λ x. fits u x ≡ true) same (subst (λ x. fits x v ≡ true) one e)
extracted_fits (i ∷ is) t u v r shape e at =
    let inner = some_part (λ x. shape_at x is) (part_shape t i) u shape in
    let part = some_part (extracted is) (part_at v i) r at in
    extracted_fits is inner.0 u part.0 r inner.2 (part_fits t inner.0 i v part.0 inner.1 e part.1) part.2

pub inserted_fits : (is : List ℕ) (t u : Tree) (object v r : ValueTree) → shape_at t is ≡ Some u → fits u object ≡ true → fits t v ≡ true → inserted object is v ≡ Some r → fits t r ≡ true
inserted_fits [] t u object v r shape o e at = let same : object ≡ r = cc in let one : t ≡ u = cc in subst (λ x. fits t x ≡ true) same (subst (λ x. fits x object ≡ true) (sym one) o)
inserted_fits (i ∷ is) t u object v r shape o e at =
    let inner = some_part (λ x. shape_at x is) (part_shape t i) u shape in
    let part = some_part (λ part. option_and_then (with_part v i) (inserted object is part)) (part_at v i) r at in
    let new = some_part (with_part v i) (inserted object is part.0) r part.2 in
    with_fits t inner.0 i v new.0 r inner.1 e (inserted_fits is inner.0 u object part.0 new.0 inner.2 o (part_fits t inner.0 i v part.0 inner.1 e part.1) new.1) new.2

-- a part that a value has is below the number of parts
part_below : (vs : List ValueTree) (i : ℕ) (r : ValueTree) → slice_get vs i ≡ Some r → nat_lt i (length vs) ≡ true
part_below [] i r at = cc
part_below (v ∷ vs) zero r at = grind (arith, nat_tests)
part_below (v ∷ vs) (suc i) r at = lower (part_below vs i r at)
  where
    lower : nat_lt i (length vs) ≡ true → nat_lt (suc i) (suc (length vs)) ≡ true
    lower e = grind (arith, nat_tests, e)

element_below : (t u : Tree) (n : ℕ) (vs : List ValueTree) (i : ℕ) (r : ValueTree) → length vs ≡ n → slice_get vs i ≡ Some r → Some t ≡ Some u → (if nat_lt i n then Some t else None) ≡ Some u
element_below t u n vs i r count at shape = ap (λ (b : Bool). if b then Some t else None) (ap (nat_lt i) (sym count) ∙ part_below vs i r at) ∙ shape

-- the same along indexes into a variable, which has a value of its shape
element_is : (t u : Tree) (i : ℕ) (v r : ValueTree) → element_shape t i ≡ Some u → fits t v ≡ true → part_at v i ≡ Some r → part_shape t i ≡ Some u
element_is boolean u i v r shape e at = cc
element_is int u i v r shape e at = cc
element_is uint u i v r shape e at = cc
element_is (vector d n) u i (many vs) r shape e at = element_below (elem_tree d) u n (listed vs) i r (many_of (elem_tree d) n vs e).0 at shape
element_is (vector d n) u i (word w) r shape e at = cc
element_is (vector d n) u i (truth b) r shape e at = cc
element_is (array t (Fixed n)) u i (many vs) r shape e at = element_below t u n (listed vs) i r (many_of t n vs e).0 at shape
element_is (array t (Fixed n)) u i (word w) r shape e at = cc
element_is (array t (Fixed n)) u i (truth b) r shape e at = cc
element_is (array t (Spec id)) u i v r shape e at = cc
element_is (runtime t) u i v r shape e at = cc
element_is (struct id ts) u i v r shape e at = shape

pub place_is : (is : List ℕ) (t u : Tree) (v r : ValueTree) → place_shape t is ≡ Some u → fits t v ≡ true → extracted is v ≡ Some r → shape_at t is ≡ Some u
place_is [] t u v r shape e at = shape
place_is (i ∷ is) t u v r shape e at =
    let inner = some_part (λ x. place_shape x is) (element_shape t i) u shape in
    let part = some_part (extracted is) (part_at v i) r at in
    let one = element_is t inner.0 i v part.0 inner.1 e part.1 in
    ap (option_and_then (λ x. shape_at x is)) one ∙ place_is is inner.0 u part.0 r inner.2 (part_fits t inner.0 i v part.0 one e part.1) part.2

pub placed_is : (is : List ℕ) (t u : Tree) (object v r : ValueTree) → place_shape t is ≡ Some u → fits t v ≡ true → inserted object is v ≡ Some r → shape_at t is ≡ Some u
placed_is [] t u object v r shape e at = shape
placed_is (i ∷ is) t u object v r shape e at =
    let inner = some_part (λ x. place_shape x is) (element_shape t i) u shape in
    let part = some_part (λ part. option_and_then (with_part v i) (inserted object is part)) (part_at v i) r at in
    let new = some_part (with_part v i) (inserted object is part.0) r part.2 in
    let one = element_is t inner.0 i v part.0 inner.1 e part.1 in
    ap (option_and_then (λ x. shape_at x is)) one ∙ placed_is is inner.0 u object part.0 new.0 inner.2 (part_fits t inner.0 i v part.0 one e part.1) new.1

-- values of alike shapes
alike_elem : (e d : Elem) (v : ValueTree) → AreAlike e d → fits (elem_tree d) v ≡ true → fits (elem_tree e) v ≡ true
alike_elem elem.Bool elem.Bool v a h = h
alike_elem elem.Int elem.Int v a h = h
alike_elem elem.Uint elem.Uint v a h = h
alike_elem elem.Int elem.Uint (word w) a h = refl
alike_elem elem.Int elem.Uint (truth b) a h = cc
alike_elem elem.Int elem.Uint (many vs) a h = cc
alike_elem elem.Uint elem.Int (word w) a h = refl
alike_elem elem.Uint elem.Int (truth b) a h = cc
alike_elem elem.Uint elem.Int (many vs) a h = cc
alike_elem elem.Bool elem.Int v a h = absurd a
alike_elem elem.Bool elem.Uint v a h = absurd a
alike_elem elem.Int elem.Bool v a h = absurd a
alike_elem elem.Uint elem.Bool v a h = absurd a

each_alike : (t u : Tree) → ((v : ValueTree) → fits u v ≡ true → fits t v ≡ true) → (vs : ValueTrees) → each_fits u vs ≡ true → each_fits t vs ≡ true
each_alike t u one no_values e = refl
each_alike t u one (value v vs) e = let parts = and_parts (fits u v) (each_fits u vs) e in and_from (fits t v) (each_fits t vs) (one v parts.0) (each_alike t u one vs parts.1)

some_alike : (t u : Tree) (n m : ℕ) → ((v : ValueTree) → fits u v ≡ true → fits t v ≡ true) → n ≡ m → (vs : ValueTrees) → ((count_of vs == m) && each_fits u vs) ≡ true → ((count_of vs == n) && each_fits t vs) ≡ true
some_alike t u n m one same vs e =
    let parts = and_parts (count_of vs == m) (each_fits u vs) e in
    and_from (count_of vs == n) (each_fits t vs) (subst (λ k. (count_of vs == k) ≡ true) (sym same) parts.0) (each_alike t u one vs parts.1)

mutual
  pub alike_fits : (t u : Tree) → Alike t u → (v : ValueTree) → fits u v ≡ true → fits t v ≡ true
  alike_fits boolean boolean a v e = e
  alike_fits int int a v e = e
  alike_fits uint uint a v e = e
  alike_fits int uint a (word w) e = refl
  alike_fits int uint a (truth b) e = cc
  alike_fits int uint a (many vs) e = cc
  alike_fits uint int a (word w) e = refl
  alike_fits uint int a (truth b) e = cc
  alike_fits uint int a (many vs) e = cc
  alike_fits (vector e n) (vector d m) a (many vs) h = some_alike (elem_tree e) (elem_tree d) n m (λ v. alike_elem e d v a.0) a.1 vs h
  alike_fits (vector e n) (vector d m) a (word w) h = cc
  alike_fits (vector e n) (vector d m) a (truth b) h = cc
  alike_fits (array t (Fixed n)) (array u (Fixed m)) a (many vs) h = some_alike t u n m (alike_fits t u a.0) a.1 vs h
  alike_fits (array t (Fixed n)) (array u (Fixed m)) a (word w) h = cc
  alike_fits (array t (Fixed n)) (array u (Fixed m)) a (truth b) h = cc
  alike_fits (struct id ts) (struct other us) a (many vs) h = all_alike ts us a vs h
  alike_fits (struct id ts) (struct other us) a (word w) h = cc
  alike_fits (struct id ts) (struct other us) a (truth b) h = cc
  alike_fits _ _ a v h = absurd a

  pub all_alike : (ts us : Trees) → AllAlike ts us → (vs : ValueTrees) → fits_parts us vs ≡ true → fits_parts ts vs ≡ true
  all_alike no_trees no_trees a vs e = e
  all_alike (tree t ts) (tree u us) a no_values e = cc
  all_alike (tree t ts) (tree u us) a (value v vs) e = let parts = and_parts (fits u v) (fits_parts us vs) e in and_from (fits t v) (fits_parts ts vs) (alike_fits t u a.0 v parts.0) (all_alike ts us a.1 vs parts.1)
  all_alike no_trees (tree u us) a vs e = absurd a
  all_alike (tree t ts) no_trees a vs e = absurd a

-- zeros
pub zero_elem_fits : (e : Elem) → fits (elem_tree e) (zero_elem e) ≡ true
zero_elem_fits elem.Bool = refl
zero_elem_fits elem.Int = refl
zero_elem_fits elem.Uint = refl

each_copy : (t : Tree) (v : ValueTree) (n : ℕ) → fits t v ≡ true → EachFits t (replicate n v)
each_copy t v zero e = tt
each_copy t v (suc n) e = (e, each_copy t v n e)

times_fits : (t : Tree) (n : ℕ) (v : ValueTree) → fits t v ≡ true → ((count_of (values_in (replicate n v)) == n) && each_fits t (values_in (replicate n v))) ≡ true
times_fits t n v e = of_many t n (replicate n v) (length-replicate n v) (each_copy t v n e)

mutual
  pub zero_fits : (t : Tree) → IsSized t → fits t (zero_of t) ≡ true
  zero_fits boolean s = refl
  zero_fits int s = refl
  zero_fits uint s = refl
  zero_fits (vector e n) s = times_fits (elem_tree e) n (zero_elem e) (zero_elem_fits e)
  zero_fits (array t (Fixed n)) s = times_fits t n (zero_of t) (zero_fits t s)
  zero_fits (array t (Spec id)) s = absurd s
  zero_fits (runtime t) s = absurd s
  zero_fits (struct id ts) s = zeros_fit ts s

  pub zeros_fit : (ts : Trees) → AreSized ts → fits_parts ts (zeros_of ts) ≡ true
  zeros_fit no_trees s = refl
  zeros_fit (tree t ts) s = and_from (fits t (zero_of t)) (fits_parts ts (zeros_of ts)) (zero_fits t s.0) (zeros_fit ts s.1)

-- The value of an operation has the shape of its result, where the operands have shapes that it takes.
use Rattle.std.proofs.Common.{◌≡◌, ◌+◌, ◌==◌, ℕ, suc, Bool, true, false, List, [], ◌∷◌, ◌++◌, length, Option, Some, None, refl, sym, ap, ◌∙◌, subst}
use Rattle.std.specs.Prelude.{option_map, flat_map, slice_get, if◌then◌else◌}
use Rattle.std.specs.List.{list_any, list_all}
use Rattle.std.proofs.lemmas.List.{length-append}
use Rattle.std.proofs.lemmas.Option.{same_Some}
use Rattle.spv_module.specs.declared.tree.Elem.{Elem}
use Rattle.spv_module.specs.declared.tree.Elem.TheVariants as elem
use Rattle.spv_module.specs.declared.tree.Length.TheVariants.{Fixed, Spec}
use Rattle.spv_types.specs.Tree.{Tree, boolean, int, uint, vector, array, runtime, struct, Trees, no_trees, tree, ValueTree, truth, word, many, ValueTrees}
use Rattle.spv_types.specs.Leaves.{zero_elem, zero_of}
use Rattle.op_semantics.specs.declared.operation.Unary.{Unary}
use Rattle.op_semantics.specs.declared.operation.Binary.{Binary}
use Rattle.op_semantics.specs.declared.operation.Comparison.{Comparison}
use Rattle.op_semantics.specs.declared.operation.Logical.{Logical}
use Rattle.op_semantics.specs.declared.operation.Clamp.{Clamp}
use Rattle.op_semantics.specs.declared.operation.Operation.{Operation}
use Rattle.op_semantics.specs.declared.operation.Operation.TheVariants as op
use Rattle.op_semantics.specs.Word.{binary_word, bit_field_signed, bit_field_unsigned, bit_field_insert}
use Rattle.op_semantics.specs.Component.{listed, composite, before, each_one, each_two, each_three, by_one, by_two, by_three, unary_scalar, binary_scalar, comparison_scalar, logical_scalar, not_scalar, clamp_scalar, chosen, field_scalar, insert_scalar, bit_field, inserted_field}
use Rattle.op_semantics.specs.Composite.{as_truth, over_truths, extracted_by, inserted_by, extracted_at, inserted_at, picked, shuffled, components, constructed}
use Rattle.op_semantics.specs.Value.{of_one, of_two, of_three, of_four, value_of_operation}
use Rattle.op_semantics.specs.Fits.{elem_tree, fits}
use Rattle.fits_law.specs.Takes.{Sort, numbers, truths, IsOfSort, Has, Alike, shape_at, Gives, GiveAll, AreOfShape, AreMembers, AreParts, IsCondition, IsShuffle, IsField, OfOne, OfTwo, OfThree, OfFour, Takes, AllFit}
use Rattle.fits_law.proofs.Literals.{extracted_along, inserted_along}
use Rattle.fits_law.proofs.Parts.{listed_values, listed_back, EachFits, many_of, of_many, each_at, MembersFit, of_members, set_of, each_with, extracted_fits, inserted_fits, alike_fits, zero_elem_fits, zero_fits}

pub before_some : {A : Type 0} (o : Option A) (q : Option (List A)) (rs : List A) → before o q ≡ Some rs → (y : A) × (ys : List A) × (o ≡ Some y) × (q ≡ Some ys) × (rs ≡ y ∷ ys)
before_some None q rs h = cc
before_some (Some y) None rs h = cc
before_some (Some y) (Some ys) rs h = (y, ys, refl, refl, let same : rs ≡ y ∷ ys = cc in same)

mapped_some : {A B : Type 0} (f : A → B) (o : Option A) (b : B) → option_map f o ≡ Some b → (a : A) × (o ≡ Some a) × (f a ≡ b)
mapped_some f None b e = cc
mapped_some f (Some a) b e = (a, refl, let same : f a ≡ b = cc in same)

-- a scalar of a sort; scalars; a scalar, or a vector of so many
abbrev Is : Sort → ValueTree → Type 0
Is numbers (word a) = Unit {0}
Is truths (truth b) = Unit {0}
Is _ _ = ⊥

abbrev AllAre : Sort → List ValueTree → Type 0
AllAre k [] = Unit {0}
AllAre k (v ∷ vs) = Is k v × AllAre k vs

abbrev Of : Sort → Option ℕ → ValueTree → Type 0
Of k None v = Is k v
Of k (Some n) (many vs) = AllAre k (listed vs) × (length (listed vs) ≡ n)
Of k (Some n) _ = ⊥

not_many : (k : Sort) (vs : ValueTrees) → Is k (many vs) → ⊥
not_many numbers vs i = i
not_many truths vs i = i

elem_is : (k : Sort) (e : Elem) (v : ValueTree) → IsOfSort k e → fits (elem_tree e) v ≡ true → Is k v
elem_is numbers elem.Int (word a) s f = tt
elem_is numbers elem.Int (truth b) s f = cc
elem_is numbers elem.Int (many vs) s f = cc
elem_is numbers elem.Uint (word a) s f = tt
elem_is numbers elem.Uint (truth b) s f = cc
elem_is numbers elem.Uint (many vs) s f = cc
elem_is numbers elem.Bool v s f = absurd s
elem_is truths elem.Bool (truth b) s f = tt
elem_is truths elem.Bool (word a) s f = cc
elem_is truths elem.Bool (many vs) s f = cc
elem_is truths elem.Int v s f = absurd s
elem_is truths elem.Uint v s f = absurd s

elem_of : (k : Sort) (e : Elem) (v : ValueTree) → IsOfSort k e → Is k v → fits (elem_tree e) v ≡ true
elem_of numbers elem.Int (word a) s i = refl
elem_of numbers elem.Int (truth b) s i = absurd i
elem_of numbers elem.Int (many vs) s i = absurd i
elem_of numbers elem.Uint (word a) s i = refl
elem_of numbers elem.Uint (truth b) s i = absurd i
elem_of numbers elem.Uint (many vs) s i = absurd i
elem_of numbers elem.Bool v s i = absurd s
elem_of truths elem.Bool (truth b) s i = refl
elem_of truths elem.Bool (word a) s i = absurd i
elem_of truths elem.Bool (many vs) s i = absurd i
elem_of truths elem.Int v s i = absurd s
elem_of truths elem.Uint v s i = absurd s

each_is : (k : Sort) (e : Elem) (vs : List ValueTree) → IsOfSort k e → EachFits (elem_tree e) vs → AllAre k vs
each_is k e [] s each = tt
each_is k e (v ∷ vs) s each = (elem_is k e v s each.0, each_is k e vs s each.1)

is_each : (k : Sort) (e : Elem) (vs : List ValueTree) → IsOfSort k e → AllAre k vs → EachFits (elem_tree e) vs
is_each k e [] s all = tt
is_each k e (v ∷ vs) s all = (elem_of k e v s all.0, is_each k e vs s all.1)

vector_of : (k : Sort) (n m : ℕ) (e : Elem) (v : ValueTree) → IsOfSort k e × (m ≡ n) → fits (vector e m) v ≡ true → Of k (Some n) v
vector_of k n m e (many vs) has f = let parts = many_of (elem_tree e) m vs f in (each_is k e (listed vs) has.0 parts.1, parts.0 ∙ has.1)
vector_of k n m e (word a) has f = cc
vector_of k n m e (truth b) has f = cc

of_vector : (k : Sort) (n m : ℕ) (e : Elem) (v : ValueTree) → IsOfSort k e × (m ≡ n) → Of k (Some n) v → fits (vector e m) v ≡ true
of_vector k n m e (many vs) has o = subst (λ us. fits (vector e m) (many us) ≡ true) (listed_back vs) (of_many (elem_tree e) m (listed vs) (o.1 ∙ sym has.1) (is_each k e (listed vs) has.0 o.0))
of_vector k n m e (word a) has o = absurd o
of_vector k n m e (truth b) has o = absurd o

-- from a shape to a sort, and back
of_sort : (k : Sort) (n : Option ℕ) (t : Tree) (v : ValueTree) → Has k n t → fits t v ≡ true → Of k n v
of_sort numbers None int v has f = elem_is numbers elem.Int v tt f
of_sort numbers None uint v has f = elem_is numbers elem.Uint v tt f
of_sort truths None boolean v has f = elem_is truths elem.Bool v tt f
of_sort numbers (Some n) (vector e m) v has f = vector_of numbers n m e v has f
of_sort truths (Some n) (vector e m) v has f = vector_of truths n m e v has f
of_sort _ _ _ v has f = absurd has

fits_sort : (k : Sort) (n : Option ℕ) (t : Tree) (v : ValueTree) → Has k n t → Of k n v → fits t v ≡ true
fits_sort numbers None int v has o = elem_of numbers elem.Int v tt o
fits_sort numbers None uint v has o = elem_of numbers elem.Uint v tt o
fits_sort truths None boolean v has o = elem_of truths elem.Bool v tt o
fits_sort numbers (Some n) (vector e m) v has o = of_vector numbers n m e v has o
fits_sort truths (Some n) (vector e m) v has o = of_vector truths n m e v has o
fits_sort _ _ _ v has o = absurd has

of_composite : (k : Sort) (n : ℕ) (vs : List ValueTree) → AllAre k vs → length vs ≡ n → Of k (Some n) (composite vs)
of_composite k n vs all count = (subst (AllAre k) (sym (listed_values vs)) all, ap length (listed_values vs) ∙ count)

-- by component, from scalars of sorts to scalars of a sort
module _ (k l : Sort) (f : ValueTree → Option ValueTree) (on : (v r : ValueTree) → Is k v → f v ≡ Some r → Is l r) where
  one_each : (vs rs : List ValueTree) → AllAre k vs → each_one f vs ≡ Some rs → AllAre l rs × (length rs ≡ length vs)
  one_each [] rs a e = let none : [] ≡ rs = cc in subst (λ q. AllAre l q × (length q ≡ 0)) none (tt, refl)
  one_each (v ∷ vs) rs a e =
      let b = before_some (f v) (each_one f vs) rs e in
      let rest = one_each vs b.1 a.1 b.3 in
      subst (λ q. AllAre l q × (length q ≡ suc (length vs))) (sym b.4) ((on v b.0 a.0 b.2, rest.0), ap (λ n. suc n) rest.1)

  one_of : (n : Option ℕ) (v r : ValueTree) → Of k n v → by_one f v ≡ Some r → Of l n r
  one_of None (word a) r o e = on (word a) r o e
  one_of None (truth b) r o e = on (truth b) r o e
  one_of None (many vs) r o e = absurd (not_many k vs o)
  one_of (Some n) (many vs) r o e =
      let c = mapped_some composite (each_one f (listed vs)) r e in
      let all = one_each (listed vs) c.0 o.0 c.1 in
      subst (Of l (Some n)) c.2 (of_composite l n c.0 all.0 (all.1 ∙ o.1))
  one_of (Some n) (word a) r o e = absurd o
  one_of (Some n) (truth b) r o e = absurd o

module _ (k l : Sort) (f : ValueTree → ValueTree → Option ValueTree) (on : (v w r : ValueTree) → Is k v → Is k w → f v w ≡ Some r → Is l r) where
  two_each : (vs ws rs : List ValueTree) → AllAre k vs → AllAre k ws → each_two f vs ws ≡ Some rs → AllAre l rs × (length rs ≡ length vs)
  two_each [] [] rs a b e = let none : [] ≡ rs = cc in subst (λ q. AllAre l q × (length q ≡ 0)) none (tt, refl)
  two_each [] (w ∷ ws) rs a b e = cc
  two_each (v ∷ vs) [] rs a b e = cc
  two_each (v ∷ vs) (w ∷ ws) rs a b e =
      let c = before_some (f v w) (each_two f vs ws) rs e in
      let rest = two_each vs ws c.1 a.1 b.1 c.3 in
      subst (λ q. AllAre l q × (length q ≡ suc (length vs))) (sym c.4) ((on v w c.0 a.0 b.0 c.2, rest.0), ap (λ n. suc n) rest.1)

  two_of : (n : Option ℕ) (v w r : ValueTree) → Of k n v → Of k n w → by_two f v w ≡ Some r → Of l n r
  two_of None (word a) w r o q e = on (word a) w r o q e
  two_of None (truth b) w r o q e = on (truth b) w r o q e
  two_of None (many vs) w r o q e = absurd (not_many k vs o)
  two_of (Some n) (many vs) (many ws) r o q e =
      let c = mapped_some composite (each_two f (listed vs) (listed ws)) r e in
      let all = two_each (listed vs) (listed ws) c.0 o.0 q.0 c.1 in
      subst (Of l (Some n)) c.2 (of_composite l n c.0 all.0 (all.1 ∙ o.1))
  two_of (Some n) (many vs) (word a) r o q e = absurd q
  two_of (Some n) (many vs) (truth b) r o q e = absurd q
  two_of (Some n) (word a) w r o q e = absurd o
  two_of (Some n) (truth b) w r o q e = absurd o

module _ (k l : Sort) (f : ValueTree → ValueTree → ValueTree → Option ValueTree) (on : (v w u r : ValueTree) → Is k v → Is k w → Is k u → f v w u ≡ Some r → Is l r) where
  three_each : (vs ws us rs : List ValueTree) → AllAre k vs → AllAre k ws → AllAre k us → each_three f vs ws us ≡ Some rs → AllAre l rs × (length rs ≡ length vs)
  three_each [] [] [] rs a b c e = let none : [] ≡ rs = cc in subst (λ q. AllAre l q × (length q ≡ 0)) none (tt, refl)
  three_each (v ∷ vs) (w ∷ ws) (u ∷ us) rs a b c e =
      let d = before_some (f v w u) (each_three f vs ws us) rs e in
      let rest = three_each vs ws us d.1 a.1 b.1 c.1 d.3 in
      subst (λ q. AllAre l q × (length q ≡ suc (length vs))) (sym d.4) ((on v w u d.0 a.0 b.0 c.0 d.2, rest.0), ap (λ n. suc n) rest.1)
  three_each [] [] (u ∷ us) rs a b c e = cc
  three_each [] (w ∷ ws) us rs a b c e = cc
  three_each (v ∷ vs) [] us rs a b c e = cc
  three_each (v ∷ vs) (w ∷ ws) [] rs a b c e = cc

  three_of : (n : Option ℕ) (v w u r : ValueTree) → Of k n v → Of k n w → Of k n u → by_three f v w u ≡ Some r → Of l n r
  three_of None (word a) w u r o q s e = on (word a) w u r o q s e
  three_of None (truth b) w u r o q s e = on (truth b) w u r o q s e
  three_of None (many vs) w u r o q s e = absurd (not_many k vs o)
  three_of (Some n) (many vs) (many ws) (many us) r o q s e =
      let c = mapped_some composite (each_three f (listed vs) (listed ws) (listed us)) r e in
      let all = three_each (listed vs) (listed ws) (listed us) c.0 o.0 q.0 s.0 c.1 in
      subst (Of l (Some n)) c.2 (of_composite l n c.0 all.0 (all.1 ∙ o.1))
  three_of (Some n) (many vs) (many ws) (word a) r o q s e = absurd s
  three_of (Some n) (many vs) (many ws) (truth b) r o q s e = absurd s
  three_of (Some n) (many vs) (word a) u r o q s e = absurd q
  three_of (Some n) (many vs) (truth b) u r o q s e = absurd q
  three_of (Some n) (word a) w u r o q s e = absurd o
  three_of (Some n) (truth b) w u r o q s e = absurd o

-- the operations on scalars
a_word : (o : Option ℕ) (r : ValueTree) → option_map word o ≡ Some r → Is numbers r
a_word o r e = let a = mapped_some word o r e in subst (Is numbers) a.2 tt

some_word : (a : ℕ) (r : ValueTree) → Some (word a) ≡ Some r → Is numbers r
some_word a r e = let same : word a ≡ r = cc in subst (Is numbers) same tt

unary_is : (o : Unary) (v r : ValueTree) → Is numbers v → unary_scalar o v ≡ Some r → Is numbers r
unary_is o (word a) r i e = some_word _ r e
unary_is o (truth b) r i e = absurd i
unary_is o (many vs) r i e = absurd i

binary_is : (o : Binary) (v w r : ValueTree) → Is numbers v → Is numbers w → binary_scalar o v w ≡ Some r → Is numbers r
binary_is o (word a) (word b) r i j e = a_word (binary_word o a b) r e
binary_is o (word a) (truth b) r i j e = absurd j
binary_is o (word a) (many ws) r i j e = absurd j
binary_is o (truth a) w r i j e = absurd i
binary_is o (many vs) w r i j e = absurd i

a_truth : (b : Bool) (r : ValueTree) → Some (truth b) ≡ Some r → Is truths r
a_truth b r e = let same : truth b ≡ r = cc in subst (Is truths) same tt

comparison_is : (o : Comparison) (v w r : ValueTree) → Is numbers v → Is numbers w → comparison_scalar o v w ≡ Some r → Is truths r
comparison_is o (word a) (word b) r i j e = a_truth _ r e
comparison_is o (word a) (truth b) r i j e = absurd j
comparison_is o (word a) (many ws) r i j e = absurd j
comparison_is o (truth a) w r i j e = absurd i
comparison_is o (many vs) w r i j e = absurd i

logical_is : (o : Logical) (v w r : ValueTree) → Is truths v → Is truths w → logical_scalar o v w ≡ Some r → Is truths r
logical_is o (truth a) (truth b) r i j e = a_truth _ r e
logical_is o (truth a) (word b) r i j e = absurd j
logical_is o (truth a) (many ws) r i j e = absurd j
logical_is o (word a) w r i j e = absurd i
logical_is o (many vs) w r i j e = absurd i

not_is : (v r : ValueTree) → Is truths v → not_scalar v ≡ Some r → Is truths r
not_is (truth a) r i e = a_truth _ r e
not_is (word a) r i e = absurd i
not_is (many vs) r i e = absurd i

clamp_is : (o : Clamp) (v w u r : ValueTree) → Is numbers v → Is numbers w → Is numbers u → clamp_scalar o v w u ≡ Some r → Is numbers r
clamp_is o (word a) (word b) (word c) r i j k e = some_word _ r e
clamp_is o (word a) (word b) (truth c) r i j k e = absurd k
clamp_is o (word a) (word b) (many us) r i j k e = absurd k
clamp_is o (word a) (truth b) u r i j k e = absurd j
clamp_is o (word a) (many ws) u r i j k e = absurd j
clamp_is o (truth a) w u r i j k e = absurd i
clamp_is o (many vs) w u r i j k e = absurd i

field_is : (f : ℕ → Option ℕ) (v r : ValueTree) → Is numbers v → field_scalar f v ≡ Some r → Is numbers r
field_is f (word a) r i e = a_word (f a) r e
field_is f (truth b) r i e = absurd i
field_is f (many vs) r i e = absurd i

insert_is : (offset count : ℕ) (v w r : ValueTree) → Is numbers v → Is numbers w → insert_scalar offset count v w ≡ Some r → Is numbers r
insert_is offset count (word a) (word b) r i j e = a_word (bit_field_insert offset count a b) r e
insert_is offset count (word a) (truth b) r i j e = absurd j
insert_is offset count (word a) (many ws) r i j e = absurd j
insert_is offset count (truth a) w r i j e = absurd i
insert_is offset count (many vs) w r i j e = absurd i

-- operands by their number
one_operand : (Q : Tree → Type 0) (f : ValueTree → Option ValueTree) (us : List Tree) (vs : List ValueTree) (r : ValueTree) → OfOne Q us → AllFit us vs → of_one f vs ≡ Some r → (a : Tree) × (v : ValueTree) × Q a × (fits a v ≡ true) × (f v ≡ Some r)
one_operand Q f (a ∷ []) (v ∷ []) r q fit e = (a, v, q, fit.0, e)
one_operand Q f (a ∷ []) [] r q fit e = absurd fit
one_operand Q f (a ∷ []) (v ∷ w ∷ vs) r q fit e = absurd fit.1
one_operand Q f [] vs r q fit e = absurd q
one_operand Q f (a ∷ b ∷ us) vs r q fit e = absurd q

two_operands : (Q : Tree → Tree → Type 0) (f : ValueTree → ValueTree → Option ValueTree) (us : List Tree) (vs : List ValueTree) (r : ValueTree) → OfTwo Q us → AllFit us vs → of_two f vs ≡ Some r
    → (a b : Tree) × (v w : ValueTree) × Q a b × (fits a v ≡ true) × (fits b w ≡ true) × (f v w ≡ Some r)
two_operands Q f (a ∷ b ∷ []) (v ∷ w ∷ []) r q fit e = (a, b, v, w, q, fit.0, fit.1.0, e)
two_operands Q f (a ∷ b ∷ []) [] r q fit e = absurd fit
two_operands Q f (a ∷ b ∷ []) (v ∷ []) r q fit e = absurd fit.1
two_operands Q f (a ∷ b ∷ []) (v ∷ w ∷ u ∷ vs) r q fit e = absurd fit.1.1
two_operands Q f [] vs r q fit e = absurd q
two_operands Q f (a ∷ []) vs r q fit e = absurd q
two_operands Q f (a ∷ b ∷ c ∷ us) vs r q fit e = absurd q

three_operands : (Q : Tree → Tree → Tree → Type 0) (f : ValueTree → ValueTree → ValueTree → Option ValueTree) (us : List Tree) (vs : List ValueTree) (r : ValueTree) → OfThree Q us → AllFit us vs → of_three f vs ≡ Some r
    → (a b c : Tree) × (v w u : ValueTree) × Q a b c × (fits a v ≡ true) × (fits b w ≡ true) × (fits c u ≡ true) × (f v w u ≡ Some r)
three_operands Q f (a ∷ b ∷ c ∷ []) (v ∷ w ∷ u ∷ []) r q fit e = (a, b, c, v, w, u, q, fit.0, fit.1.0, fit.1.1.0, e)
three_operands Q f (a ∷ b ∷ c ∷ []) [] r q fit e = absurd fit
three_operands Q f (a ∷ b ∷ c ∷ []) (v ∷ []) r q fit e = absurd fit.1
three_operands Q f (a ∷ b ∷ c ∷ []) (v ∷ w ∷ []) r q fit e = absurd fit.1.1
three_operands Q f (a ∷ b ∷ c ∷ []) (v ∷ w ∷ u ∷ x ∷ vs) r q fit e = absurd fit.1.1.1
three_operands Q f [] vs r q fit e = absurd q
three_operands Q f (a ∷ []) vs r q fit e = absurd q
three_operands Q f (a ∷ b ∷ []) vs r q fit e = absurd q
three_operands Q f (a ∷ b ∷ c ∷ d ∷ us) vs r q fit e = absurd q

four_operands : (Q : Tree → Tree → Tree → Tree → Type 0) (f : ValueTree → ValueTree → ValueTree → ValueTree → Option ValueTree) (us : List Tree) (vs : List ValueTree) (r : ValueTree) → OfFour Q us → AllFit us vs → of_four f vs ≡ Some r
    → (a b c d : Tree) × (v w u x : ValueTree) × Q a b c d × (fits a v ≡ true) × (fits b w ≡ true) × (fits c u ≡ true) × (fits d x ≡ true) × (f v w u x ≡ Some r)
four_operands Q f (a ∷ b ∷ c ∷ d ∷ []) (v ∷ w ∷ u ∷ x ∷ []) r q fit e = (a, b, c, d, v, w, u, x, q, fit.0, fit.1.0, fit.1.1.0, fit.1.1.1.0, e)
four_operands Q f (a ∷ b ∷ c ∷ d ∷ []) [] r q fit e = absurd fit
four_operands Q f (a ∷ b ∷ c ∷ d ∷ []) (v ∷ []) r q fit e = absurd fit.1
four_operands Q f (a ∷ b ∷ c ∷ d ∷ []) (v ∷ w ∷ []) r q fit e = absurd fit.1.1
four_operands Q f (a ∷ b ∷ c ∷ d ∷ []) (v ∷ w ∷ u ∷ []) r q fit e = absurd fit.1.1.1
four_operands Q f (a ∷ b ∷ c ∷ d ∷ []) (v ∷ w ∷ u ∷ x ∷ y ∷ vs) r q fit e = absurd fit.1.1.1.1
four_operands Q f [] vs r q fit e = absurd q
four_operands Q f (a ∷ []) vs r q fit e = absurd q
four_operands Q f (a ∷ b ∷ []) vs r q fit e = absurd q
four_operands Q f (a ∷ b ∷ c ∷ []) vs r q fit e = absurd q
four_operands Q f (a ∷ b ∷ c ∷ d ∷ x ∷ us) vs r q fit e = absurd q

-- a field, whose offset and count are words
field_fits : (f : ℕ → ℕ → ℕ → Option ℕ) (t base offset count : Tree) (v o c r : ValueTree) → IsField t base offset count → fits base v ≡ true → bit_field f v o c ≡ Some r → fits t r ≡ true
field_fits f t base offset count v (word o) (word c) r q fit e = fits_sort numbers q.0 t r q.1 (one_of numbers numbers (field_scalar (f o c)) (field_is (f o c)) q.0 v r (of_sort numbers q.0 base v q.2 fit) e)
field_fits f t base offset count v (word o) (truth c) r q fit e = cc
field_fits f t base offset count v (word o) (many c) r q fit e = cc
field_fits f t base offset count v (truth o) c r q fit e = cc
field_fits f t base offset count v (many o) c r q fit e = cc

inserted_fit : (n : Option ℕ) (t base part : Tree) (v w o c r : ValueTree) → Has numbers n t → Has numbers n base → Has numbers n part → fits base v ≡ true → fits part w ≡ true → inserted_field v w o c ≡ Some r → fits t r ≡ true
inserted_fit n t base part v w (word o) (word c) r ht hb hp fv fw e =
    fits_sort numbers n t r ht (two_of numbers numbers (insert_scalar o c) (insert_is o c) n v w r (of_sort numbers n base v hb fv) (of_sort numbers n part w hp fw) e)
inserted_fit n t base part v w (word o) (truth c) r ht hb hp fv fw e = cc
inserted_fit n t base part v w (word o) (many c) r ht hb hp fv fw e = cc
inserted_fit n t base part v w (truth o) c r ht hb hp fv fw e = cc
inserted_fit n t base part v w (many o) c r ht hb hp fv fw e = cc

-- a truth value over others
truths_fit : (f : List Bool → Bool) (t : Tree) (v r : ValueTree) → Has truths None t → over_truths f v ≡ Some r → fits t r ≡ true
truths_fit f t (many vs) r has e = let b = mapped_some (λ bs. truth (f bs)) (each_one as_truth (listed vs)) r e in fits_sort truths None t r has (subst (Is truths) b.2 tt)
truths_fit f t (word a) r has e = cc
truths_fit f t (truth a) r has e = cc

-- a choice
one_chosen : (t : Tree) (c v w r : ValueTree) → fits t v ≡ true → fits t w ≡ true → chosen c v w ≡ Some r → fits t r ≡ true
one_chosen t (truth true) v w r fv fw e = let same : v ≡ r = cc in subst (λ x. fits t x ≡ true) same fv
one_chosen t (truth false) v w r fv fw e = let same : w ≡ r = cc in subst (λ x. fits t x ≡ true) same fw
one_chosen t (word a) v w r fv fw e = cc
one_chosen t (many cs) v w r fv fw e = cc

each_chosen : (t : Tree) (cs vs ws rs : List ValueTree) → EachFits t vs → EachFits t ws → each_three chosen cs vs ws ≡ Some rs → EachFits t rs × (length rs ≡ length vs)
each_chosen t [] [] [] rs fv fw e = let none : [] ≡ rs = cc in subst (λ q. EachFits t q × (length q ≡ 0)) none (tt, refl)
each_chosen t (c ∷ cs) (v ∷ vs) (w ∷ ws) rs fv fw e =
    let d = before_some (chosen c v w) (each_three chosen cs vs ws) rs e in
    let rest = each_chosen t cs vs ws d.1 fv.1 fw.1 d.3 in
    subst (λ q. EachFits t q × (length q ≡ suc (length vs))) (sym d.4) ((one_chosen t c v w d.0 fv.0 fw.0 d.2, rest.0), ap (λ n. suc n) rest.1)
each_chosen t [] [] (w ∷ ws) rs fv fw e = cc
each_chosen t [] (v ∷ vs) ws rs fv fw e = cc
each_chosen t (c ∷ cs) [] ws rs fv fw e = cc
each_chosen t (c ∷ cs) (v ∷ vs) [] rs fv fw e = cc

by_vector : (e : Elem) (n : ℕ) (cs : ValueTrees) (v w r : ValueTree) → fits (vector e n) v ≡ true → fits (vector e n) w ≡ true → by_three chosen (many cs) v w ≡ Some r → fits (vector e n) r ≡ true
by_vector e n cs (many vs) (many ws) r fv fw h =
    let pv = many_of (elem_tree e) n vs fv in
    let pw = many_of (elem_tree e) n ws fw in
    let c = mapped_some composite (each_three chosen (listed cs) (listed vs) (listed ws)) r h in
    let all = each_chosen (elem_tree e) (listed cs) (listed vs) (listed ws) c.0 pv.1 pw.1 c.1 in
    subst (λ x. fits (vector e n) x ≡ true) c.2 (of_many (elem_tree e) n c.0 (all.1 ∙ pv.0) all.0)
by_vector e n cs (many vs) (word a) r fv fw h = cc
by_vector e n cs (many vs) (truth a) r fv fw h = cc
by_vector e n cs (word a) w r fv fw h = cc
by_vector e n cs (truth a) w r fv fw h = cc

choice_fits : (ct t : Tree) (c v w r : ValueTree) → IsCondition ct t → fits ct c ≡ true → fits t v ≡ true → fits t w ≡ true → by_three chosen c v w ≡ Some r → fits t r ≡ true
choice_fits boolean t (truth b) v w r is fc fv fw e = one_chosen t (truth b) v w r fv fw e
choice_fits boolean t (word a) v w r is fc fv fw e = cc
choice_fits boolean t (many cs) v w r is fc fv fw e = cc
choice_fits (vector elem.Bool n) (vector d m) (many cs) v w r is fc fv fw e = by_vector d m cs v w r fv fw e
choice_fits (vector elem.Bool n) (vector d m) (word a) v w r is fc fv fw e = cc
choice_fits (vector elem.Bool n) (vector d m) (truth a) v w r is fc fv fw e = cc
choice_fits _ _ c v w r is fc fv fw e = absurd is

-- a component at an index that is computed
at_fits : (e : Elem) (n : ℕ) (v i r : ValueTree) → fits (vector e n) v ≡ true → extracted_at v i ≡ Some r → fits (elem_tree e) r ≡ true
at_fits e n (many vs) (word i) r f h = each_at (elem_tree e) (listed vs) i r (many_of (elem_tree e) n vs f).1 h
at_fits e n (many vs) (truth i) r f h = cc
at_fits e n (many vs) (many i) r f h = cc
at_fits e n (word a) i r f h = cc
at_fits e n (truth a) i r f h = cc

set_at_fits : (e : Elem) (n : ℕ) (v c i r : ValueTree) → fits (vector e n) v ≡ true → fits (elem_tree e) c ≡ true → inserted_at v c i ≡ Some r → fits (vector e n) r ≡ true
set_at_fits e n (many vs) c (word i) r f g h = subst (λ x. fits (vector e n) x ≡ true) (set_of vs i c r h) (each_with (elem_tree e) n vs i c f g)
set_at_fits e n v c (truth i) r f g h = cc
set_at_fits e n v c (many i) r f g h = cc
set_at_fits e n (word a) c (word i) r f g h = cc
set_at_fits e n (truth a) c (word i) r f g h = cc

-- components that are picked
each_both : (t : Tree) (vs ws : List ValueTree) → EachFits t vs → EachFits t ws → EachFits t (vs ++ ws)
each_both t [] ws a b = b
each_both t (v ∷ vs) ws a b = (a.0, each_both t vs ws a.1 b)

one_picked : (e : Elem) (vs : List ValueTree) (n : ℕ) (r : ValueTree) → EachFits (elem_tree e) vs → picked (zero_elem e) vs n ≡ Some r → fits (elem_tree e) r ≡ true
one_picked e vs n r each h = by_test (n == 4294967295) h
  where
    by_test : (b : Bool) → (if b then Some (zero_elem e) else slice_get vs n) ≡ Some r → fits (elem_tree e) r ≡ true
    by_test true h = let same : zero_elem e ≡ r = cc in subst (λ x. fits (elem_tree e) x ≡ true) same (zero_elem_fits e)
    by_test false h = each_at (elem_tree e) vs n r each h

each_picked : (e : Elem) (vs : List ValueTree) (picks : List ℕ) (rs : List ValueTree) → EachFits (elem_tree e) vs → each_one (picked (zero_elem e) vs) picks ≡ Some rs → EachFits (elem_tree e) rs × (length rs ≡ length picks)
each_picked e vs [] rs each h = let none : [] ≡ rs = cc in subst (λ q. EachFits (elem_tree e) q × (length q ≡ 0)) none (tt, refl)
each_picked e vs (n ∷ picks) rs each h =
    let d = before_some (picked (zero_elem e) vs n) (each_one (picked (zero_elem e) vs) picks) rs h in
    let rest = each_picked e vs picks d.1 each d.3 in
    subst (λ q. EachFits (elem_tree e) q × (length q ≡ suc (length picks))) (sym d.4) ((one_picked e vs n d.0 each d.2, rest.0), ap (λ k. suc k) rest.1)

shuffle_fits : (t a b : Tree) (picks : List ℕ) (v w r : ValueTree) → IsShuffle t picks a b → fits a v ≡ true → fits b w ≡ true → shuffled t picks v w ≡ Some r → fits t r ≡ true
shuffle_fits (vector e n) (vector d m) (vector f k) picks (many vs) (many ws) r is fv fw h =
    let pv : EachFits (elem_tree e) (listed vs) = subst (λ x. EachFits (elem_tree x) (listed vs)) is.0 (many_of (elem_tree d) m vs fv).1 in
    let pw : EachFits (elem_tree e) (listed ws) = subst (λ x. EachFits (elem_tree x) (listed ws)) is.1 (many_of (elem_tree f) k ws fw).1 in
    let c = mapped_some composite (each_one (picked (zero_elem e) (listed vs ++ listed ws)) picks) r h in
    let all = each_picked e (listed vs ++ listed ws) picks c.0 (each_both (elem_tree e) (listed vs) (listed ws) pv pw) c.1 in
    subst (λ x. fits (vector e n) x ≡ true) c.2 (of_many (elem_tree e) n c.0 (all.1 ∙ is.2) all.0)
shuffle_fits (vector e n) (vector d m) (vector f k) picks (many vs) (word a) r is fv fw h = cc
shuffle_fits (vector e n) (vector d m) (vector f k) picks (many vs) (truth a) r is fv fw h = cc
shuffle_fits (vector e n) (vector d m) (vector f k) picks (word a) w r is fv fw h = cc
shuffle_fits (vector e n) (vector d m) (vector f k) picks (truth a) w r is fv fw h = cc
shuffle_fits _ _ _ picks v w r is fv fw h = absurd is

-- composites of their parts
one_component : (e : Elem) (v : ValueTree) → fits (elem_tree e) v ≡ true → components v ≡ v ∷ []
one_component e (word a) f = refl
one_component e (truth b) f = refl
one_component elem.Bool (many vs) f = cc
one_component elem.Int (many vs) f = cc
one_component elem.Uint (many vs) f = cc

scalar_gives : (e : Elem) (n : ℕ) (t : Tree) (v : ValueTree) → (t ≡ elem_tree e) × (n ≡ 1) → fits t v ≡ true → EachFits (elem_tree e) (components v) × (length (components v) ≡ n)
scalar_gives e n t v g f =
    let own : fits (elem_tree e) v ≡ true = subst (λ x. fits x v ≡ true) g.0 f in
    subst (λ q. EachFits (elem_tree e) q × (length q ≡ n)) (sym (one_component e v own)) ((own, tt), sym g.1)

gives_fit : (e : Elem) (n : ℕ) (t : Tree) (v : ValueTree) → Gives e n t → fits t v ≡ true → EachFits (elem_tree e) (components v) × (length (components v) ≡ n)
gives_fit e n (vector d m) (many vs) g f = let parts = many_of (elem_tree d) m vs f in (subst (λ x. EachFits (elem_tree x) (listed vs)) g.0 parts.1, parts.0 ∙ g.1)
gives_fit e n (vector d m) (word a) g f = cc
gives_fit e n (vector d m) (truth a) g f = cc
gives_fit e n boolean v g f = scalar_gives e n boolean v g f
gives_fit e n int v g f = scalar_gives e n int v g f
gives_fit e n uint v g f = scalar_gives e n uint v g f
gives_fit e n (array t l) v g f = scalar_gives e n (array t l) v g f
gives_fit e n (runtime t) v g f = scalar_gives e n (runtime t) v g f
gives_fit e n (struct id ts) v g f = scalar_gives e n (struct id ts) v g f

pub all_give : (e : Elem) (us : List Tree) (vs : List ValueTree) (n : ℕ) → GiveAll e n us → AllFit us vs → EachFits (elem_tree e) (flat_map components vs) × (length (flat_map components vs) ≡ n)
all_give e [] [] n g fit = (tt, sym g)
all_give e [] (v ∷ vs) n g fit = absurd fit
all_give e (u ∷ us) [] n g fit = absurd fit
all_give e (u ∷ us) (v ∷ vs) n g fit =
    let first = gives_fit e g.0 u v g.2 fit.0 in
    let rest = all_give e us vs g.1 g.3 fit.1 in
    let count : length (components v ++ flat_map components vs) ≡ n = length-append (components v) (flat_map components vs) ∙ ap (λ k. k + length (flat_map components vs)) first.1 ∙ ap (λ k. g.0 + k) rest.1 ∙ sym g.4 in
    (each_both (elem_tree e) (components v) (flat_map components vs) first.0 rest.0, count)

pub all_of_shape : (t : Tree) (us : List Tree) (vs : List ValueTree) → AreOfShape t us → AllFit us vs → EachFits t vs × (length vs ≡ length us)
all_of_shape t [] [] same fit = (tt, refl)
all_of_shape t [] (v ∷ vs) same fit = absurd fit
all_of_shape t (u ∷ us) [] same fit = absurd fit
all_of_shape t (u ∷ us) (v ∷ vs) same fit = let rest = all_of_shape t us vs same.1 fit.1 in ((subst (λ x. fits x v ≡ true) same.0 fit.0, rest.0), ap (λ k. suc k) rest.1)

pub all_members : (ts : Trees) (us : List Tree) (vs : List ValueTree) → AreMembers ts us → AllFit us vs → MembersFit ts vs
all_members no_trees [] [] same fit = tt
all_members no_trees [] (v ∷ vs) same fit = absurd fit
all_members (tree t ts) (u ∷ us) [] same fit = absurd fit
all_members (tree t ts) (u ∷ us) (v ∷ vs) same fit = (subst (λ x. fits x v ≡ true) same.0 fit.0, all_members ts us vs same.1 fit.1)
all_members no_trees (u ∷ us) vs same fit = absurd same
all_members (tree t ts) [] vs same fit = absurd same

parts_fit : (t : Tree) (us : List Tree) (vs : List ValueTree) → AreParts t us → AllFit us vs → fits t (constructed t vs) ≡ true
parts_fit (vector e n) us vs are fit = let all = all_give e us vs n are fit in of_many (elem_tree e) n (flat_map components vs) all.1 all.0
parts_fit (array t (Fixed n)) us vs are fit = let all = all_of_shape t us vs are.1 fit in of_many t n vs (all.1 ∙ are.0) all.0
parts_fit (array t (Spec id)) us vs are fit = absurd are
parts_fit (struct id ts) us vs are fit = of_members ts vs (all_members ts us vs are fit)
parts_fit boolean us vs are fit = absurd are
parts_fit int us vs are fit = absurd are
parts_fit uint us vs are fit = absurd are
parts_fit (runtime t) us vs are fit = absurd are

-- the value of an operation has the shape of its result
pub op_fits : (o : Operation) (t : Tree) (literals : List ℕ) (us : List Tree) (vs : List ValueTree) (r : ValueTree) → Takes o t literals us → AllFit us vs → value_of_operation o t literals vs ≡ Some r → fits t r ≡ true
op_fits (op.Unary o) t ls us vs r takes fit e =
    let p = one_operand (λ a. (n : Option ℕ) × Has numbers n t × Has numbers n a) (by_one (unary_scalar o)) us vs r takes fit e in
    let q = p.2 in
    fits_sort numbers q.0 t r q.1 (one_of numbers numbers (unary_scalar o) (unary_is o) q.0 p.1 r (of_sort numbers q.0 p.0 p.1 q.2 p.3) p.4)
op_fits (op.Binary o) t ls us vs r takes fit e =
    let p = two_operands (λ a b. (n : Option ℕ) × Has numbers n t × Has numbers n a × Has numbers n b) (by_two (binary_scalar o)) us vs r takes fit e in
    let q = p.4 in
    fits_sort numbers q.0 t r q.1 (two_of numbers numbers (binary_scalar o) (binary_is o) q.0 p.2 p.3 r (of_sort numbers q.0 p.0 p.2 q.2 p.5) (of_sort numbers q.0 p.1 p.3 q.3 p.6) p.7)
op_fits (op.Comparison o) t ls us vs r takes fit e =
    let p = two_operands (λ a b. (n : Option ℕ) × Has truths n t × Has numbers n a × Has numbers n b) (by_two (comparison_scalar o)) us vs r takes fit e in
    let q = p.4 in
    fits_sort truths q.0 t r q.1 (two_of numbers truths (comparison_scalar o) (comparison_is o) q.0 p.2 p.3 r (of_sort numbers q.0 p.0 p.2 q.2 p.5) (of_sort numbers q.0 p.1 p.3 q.3 p.6) p.7)
op_fits (op.Logical o) t ls us vs r takes fit e =
    let p = two_operands (λ a b. (n : Option ℕ) × Has truths n t × Has truths n a × Has truths n b) (by_two (logical_scalar o)) us vs r takes fit e in
    let q = p.4 in
    fits_sort truths q.0 t r q.1 (two_of truths truths (logical_scalar o) (logical_is o) q.0 p.2 p.3 r (of_sort truths q.0 p.0 p.2 q.2 p.5) (of_sort truths q.0 p.1 p.3 q.3 p.6) p.7)
op_fits op.LogicalNot t ls us vs r takes fit e =
    let p = one_operand (λ a. (n : Option ℕ) × Has truths n t × Has truths n a) (by_one not_scalar) us vs r takes fit e in
    let q = p.2 in
    fits_sort truths q.0 t r q.1 (one_of truths truths not_scalar not_is q.0 p.1 r (of_sort truths q.0 p.0 p.1 q.2 p.3) p.4)
op_fits (op.Clamp o) t ls us vs r takes fit e =
    let p = three_operands (λ a b c. (n : Option ℕ) × Has numbers n t × Has numbers n a × Has numbers n b × Has numbers n c) (by_three (clamp_scalar o)) us vs r takes fit e in
    let q = p.6 in
    fits_sort numbers q.0 t r q.1 (three_of numbers numbers (clamp_scalar o) (clamp_is o) q.0 p.3 p.4 p.5 r (of_sort numbers q.0 p.0 p.3 q.2 p.7) (of_sort numbers q.0 p.1 p.4 q.3 p.8) (of_sort numbers q.0 p.2 p.5 q.4 p.9) p.10)
op_fits op.BitFieldInsert t ls us vs r takes fit e =
    let p = four_operands (λ base part offset count. (n : Option ℕ) × Has numbers n t × Has numbers n base × Has numbers n part × Has numbers None offset × Has numbers None count) inserted_field us vs r takes fit e in
    let q = p.8 in
    inserted_fit q.0 t p.0 p.1 p.4 p.5 p.6 p.7 r q.1 q.2 q.3 p.9 p.10 p.13
op_fits op.BitFieldSExtract t ls us vs r takes fit e = let p = three_operands (IsField t) (bit_field bit_field_signed) us vs r takes fit e in field_fits bit_field_signed t p.0 p.1 p.2 p.3 p.4 p.5 r p.6 p.7 p.10
op_fits op.BitFieldUExtract t ls us vs r takes fit e = let p = three_operands (IsField t) (bit_field bit_field_unsigned) us vs r takes fit e in field_fits bit_field_unsigned t p.0 p.1 p.2 p.3 p.4 p.5 r p.6 p.7 p.10
op_fits op.Any t ls us vs r takes fit e =
    let p = one_operand (λ a. (n : ℕ) × Has truths None t × Has truths (Some n) a) (over_truths (list_any (λ b. b))) us vs r takes fit e in truths_fit (list_any (λ b. b)) t p.1 r p.2.1 p.4
op_fits op.All t ls us vs r takes fit e =
    let p = one_operand (λ a. (n : ℕ) × Has truths None t × Has truths (Some n) a) (over_truths (list_all (λ b. b))) us vs r takes fit e in truths_fit (list_all (λ b. b)) t p.1 r p.2.1 p.4
op_fits op.Select t ls us vs r takes fit e =
    let p = three_operands (λ c a b. IsCondition c t × (a ≡ t) × (b ≡ t)) (by_three chosen) us vs r takes fit e in
    choice_fits p.0 t p.3 p.4 p.5 r p.6.0 p.7 (subst (λ x. fits x p.4 ≡ true) p.6.1 p.8) (subst (λ x. fits x p.5 ≡ true) p.6.2 p.9) p.10
op_fits op.Undef t ls us vs r takes fit e = let same : zero_of t ≡ r = same_Some (zero_of t) r e in subst (λ x. fits t x ≡ true) same (zero_fits t takes)
op_fits op.Copy t ls us vs r takes fit e = let p = one_operand (Alike t) Some us vs r takes fit e in let same : p.1 ≡ r = same_Some p.1 r p.4 in subst (λ x. fits t x ≡ true) same (alike_fits t p.0 p.2 p.1 p.3)
op_fits op.VectorExtractDynamic t ls us vs r takes fit h =
    let p = two_operands (λ a i. (e : Elem) × (n : ℕ) × (a ≡ vector e n) × (t ≡ elem_tree e) × Has numbers None i) extracted_at us vs r takes fit h in
    let q = p.4 in
    subst (λ x. fits x r ≡ true) (sym q.3) (at_fits q.0 q.1 p.2 p.3 r (subst (λ x. fits x p.2 ≡ true) q.2 p.5) p.7)
op_fits op.VectorInsertDynamic t ls us vs r takes fit h =
    let p = three_operands (λ a c i. (e : Elem) × (n : ℕ) × (t ≡ vector e n) × (a ≡ t) × (c ≡ elem_tree e) × Has numbers None i) inserted_at us vs r takes fit h in
    let q = p.6 in
    subst (λ x. fits x r ≡ true) (sym q.2) (set_at_fits q.0 q.1 p.3 p.4 p.5 r (subst (λ x. fits x p.3 ≡ true) (q.3 ∙ q.2) p.7) (subst (λ x. fits x p.4 ≡ true) q.4 p.8) p.10)
op_fits op.VectorShuffle t ls us vs r takes fit e = let p = two_operands (IsShuffle t ls) (shuffled t ls) us vs r takes fit e in shuffle_fits t p.0 p.1 ls p.2 p.3 r p.4 p.5 p.6 p.7
op_fits op.CompositeConstruct t ls us vs r takes fit e = let same : constructed t vs ≡ r = same_Some (constructed t vs) r e in subst (λ x. fits t x ≡ true) same (parts_fit t us vs takes fit)
op_fits op.CompositeExtract t ls us vs r takes fit e = let p = one_operand (λ a. shape_at a ls ≡ Some t) (extracted_by ls) us vs r takes fit e in extracted_fits ls p.0 t p.1 r p.2 p.3 (extracted_along ls p.1 r p.4).1
op_fits op.CompositeInsert t ls us vs r takes fit e =
    let p = two_operands (λ object a. (a ≡ t) × (shape_at t ls ≡ Some object)) (λ object composite. inserted_by object ls composite) us vs r takes fit e in
    inserted_fits ls t p.0 p.2 p.3 r p.4.1 p.5 (subst (λ x. fits x p.3 ≡ true) p.4.0 p.6) (inserted_along p.2 ls p.3 r p.7).1

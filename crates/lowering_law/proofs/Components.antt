-- Operations that are written component by component say the value of the operation, component by component.
use Rattle.std.proofs.Common.{◌≡◌, ℕ, zero, suc, ◌<◌, ◌≤◌, ◌==◌, Bool, false, List, [], ◌∷◌, ◌++◌, length, map, take, slice_get, Option, Some, None, refl, sym, ap, ◌∙◌, subst, arith}
use Rattle.std.specs.Prelude.{option_map, option_and_then, if◌then◌else◌}
use Rattle.std.proofs.lemmas.Option.{slice_get_within}
use Rattle.spv_module.specs.declared.tree.Elem.{Elem}
use Rattle.spv_module.specs.declared.tree.Elem.TheVariants as elem
use Rattle.spv_types.specs.Tree.{Tree, ValueTree, truth, word, many, ValueTrees}
use Rattle.glsl_ast.specs.Tree.{Text, Expr, exprs_in, build}
use Rattle.op_semantics.specs.declared.operation.Unary.{Unary}
use Rattle.op_semantics.specs.declared.operation.Binary.{Binary}
use Rattle.op_semantics.specs.declared.operation.Comparison.{Comparison}
use Rattle.op_semantics.specs.declared.operation.Logical.{Logical}
use Rattle.op_semantics.specs.declared.operation.Clamp.{Clamp}
use Rattle.op_semantics.specs.declared.operation.Operation.{Operation}
use Rattle.op_semantics.specs.declared.operation.Operation.TheVariants as op
use Rattle.op_semantics.specs.Word.{binary_word, bit_field_signed, bit_field_unsigned, bit_field_insert}
use Rattle.op_semantics.specs.Component.{listed, composite, before, each_one, each_two, each_three, by_one, by_two, by_three, unary_scalar, binary_scalar, comparison_scalar, logical_scalar, not_scalar, clamp_scalar, chosen, field_scalar, insert_scalar, bit_field, inserted_field}
use Rattle.op_semantics.specs.Value.{value_of_operation}
use Rattle.int_lowering.specs.declared.basic.BasicType.{BasicType}
use Rattle.int_lowering.specs.Operand.{Operand, scalar, type_named}
use Rattle.int_lowering.specs.Lowered.{applied}
use Rattle.vec_lowering.specs.Component.{axis_name, component_of, component, each_below, by_component}
use Rattle.traces.specs.Outcomes.{Result}
use Rattle.glsl_semantics.specs.Shapes.{vector, Typed, typed, scalar as shape_of_elem, component_number}
use Rattle.glsl_semantics.specs.States.{State, component_if}
use Rattle.glsl_semantics.specs.Functions.{as_elem, scalars_of, joined, filled, vector_built, built}
use Rattle.glsl_semantics.specs.Expressions.{Program, Argument, type_of}
use Rattle.list_law.proofs.Numbers.{less_is}
use Rattle.list_law.proofs.Lists.{map_joined}
use Rattle.fits_law.proofs.Operations.{before_some}
use Rattle.fits_law.proofs.Parts.{listed_values}
use Rattle.lowering_law.specs.Says.{Says, AllSay}
use Rattle.lowering_law.specs.BuiltIns.{NoneDeclared}
use Rattle.lowering_law.specs.Stands.{GoesByComponent, Means, IsScalarOf, IsLow, AreOf, AreLow, IsVectorOf, MeansVector, MeansAny, AllMeanAny, vector_type, OnScalars}
use Rattle.lowering_law.proofs.Counts.{by_one_operand, by_two_operands, by_three_operands, by_four_operands}
use Rattle.lowering_law.proofs.Saying.{all_end, says_build}
use Rattle.lowering_law.proofs.Vectors.{filled_is}
use Rattle.lowering_law.proofs.Scalars.{numeric_of, truth_of, scalar_says}
use Rattle.lowering_law.proofs.Parts.{says_member}

of_at : (e : Elem) (vs : List ValueTree) (k : ℕ) (v : ValueTree) → AreOf e vs → slice_get vs k ≡ Some v → IsScalarOf e v
of_at e [] k v a is = cc
of_at e (u ∷ vs) zero v a is = let same : u ≡ v = cc in subst (IsScalarOf e) same a.0
of_at e (u ∷ vs) (suc k) v a is = of_at e vs k v a.1 is

low_at : (vs : List ValueTree) (k : ℕ) (v : ValueTree) → AreLow vs → slice_get vs k ≡ Some v → IsLow v
low_at [] k v a is = cc
low_at (u ∷ vs) zero v a is = let same : u ≡ v = cc in subst IsLow same a.0
low_at (u ∷ vs) (suc k) v a is = low_at vs k v a.1 is

pub take_end : {A : Type 0} (xs : List A) (m : ℕ) → m < length xs → (x : A) × (slice_get xs m ≡ Some x) × (take (suc m) xs ≡ take m xs ++ x ∷ [])
take_end [] m less = absurd (omega (arith, less))
take_end (x ∷ xs) zero less = (x, refl, refl)
take_end (x ∷ xs) (suc m) less = let r = take_end xs m (omega (arith, less)) in (r.0, r.1, ap (λ ys. x ∷ ys) r.2)

pub take_whole : {A : Type 0} (xs : List A) (m : ℕ) → length xs ≡ m → take m xs ≡ xs
take_whole [] zero e = refl
take_whole [] (suc m) e = refl
take_whole (x ∷ xs) zero e = absurd (omega (arith, e))
take_whole (x ∷ xs) (suc m) e = ap (λ ys. x ∷ ys) (take_whole xs m (omega (arith, e)))

-- what is given of each, at a place
-- what is given of each, at a place
one_at : (f : ValueTree → Option ValueTree) (vs rs : List ValueTree) (k : ℕ) (r : ValueTree) → each_one f vs ≡ Some rs → slice_get rs k ≡ Some r → (v : ValueTree) × (slice_get vs k ≡ Some v) × (f v ≡ Some r)
one_at f [] rs k r h e = let none : rs ≡ [] = cc in let never : None ≡ Some r = ap (λ ys. slice_get ys k) (sym none) ∙ e in cc
one_at f (v ∷ vs) rs k r h e = let b = before_some (f v) (each_one f vs) rs h in by_place k b.0 b.1 b.2 (ap (λ ys. slice_get ys k) (sym b.4) ∙ e) (λ m q. one_at f vs b.1 m r b.3 q)
  where
    by_place : (k : ℕ) (y : ValueTree) (ys : List ValueTree) → f v ≡ Some y → slice_get (y ∷ ys) k ≡ Some r → ((m : ℕ) → slice_get ys m ≡ Some r → (u : ValueTree) × (slice_get vs m ≡ Some u) × (f u ≡ Some r)) → (u : ValueTree) × (slice_get (v ∷ vs) k ≡ Some u) × (f u ≡ Some r)
    by_place zero y ys is e on = (v, refl, is ∙ e)
    by_place (suc k) y ys is e on = on k e

two_at : (f : ValueTree → ValueTree → Option ValueTree) (vs ws rs : List ValueTree) (k : ℕ) (r : ValueTree) → each_two f vs ws ≡ Some rs → slice_get rs k ≡ Some r
    → (v w : ValueTree) × (slice_get vs k ≡ Some v) × (slice_get ws k ≡ Some w) × (f v w ≡ Some r)
two_at f [] [] rs k r h e = let none : rs ≡ [] = cc in let never : None ≡ Some r = ap (λ ys. slice_get ys k) (sym none) ∙ e in cc
two_at f [] (w ∷ ws) rs k r h e = cc
two_at f (v ∷ vs) [] rs k r h e = cc
two_at f (v ∷ vs) (w ∷ ws) rs k r h e = let b = before_some (f v w) (each_two f vs ws) rs h in by_place k b.0 b.1 b.2 (ap (λ ys. slice_get ys k) (sym b.4) ∙ e) (λ m q. two_at f vs ws b.1 m r b.3 q)
  where
    by_place : (k : ℕ) (y : ValueTree) (ys : List ValueTree) → f v w ≡ Some y → slice_get (y ∷ ys) k ≡ Some r
        → ((m : ℕ) → slice_get ys m ≡ Some r → (u t : ValueTree) × (slice_get vs m ≡ Some u) × (slice_get ws m ≡ Some t) × (f u t ≡ Some r))
        → (u t : ValueTree) × (slice_get (v ∷ vs) k ≡ Some u) × (slice_get (w ∷ ws) k ≡ Some t) × (f u t ≡ Some r)
    by_place zero y ys is e on = (v, w, refl, refl, is ∙ e)
    by_place (suc k) y ys is e on = on k e

three_at : (f : ValueTree → ValueTree → ValueTree → Option ValueTree) (vs ws us rs : List ValueTree) (k : ℕ) (r : ValueTree) → each_three f vs ws us ≡ Some rs → slice_get rs k ≡ Some r
    → (v w u : ValueTree) × (slice_get vs k ≡ Some v) × (slice_get ws k ≡ Some w) × (slice_get us k ≡ Some u) × (f v w u ≡ Some r)
three_at f [] [] [] rs k r h e = let none : rs ≡ [] = cc in let never : None ≡ Some r = ap (λ ys. slice_get ys k) (sym none) ∙ e in cc
three_at f [] [] (u ∷ us) rs k r h e = cc
three_at f [] (w ∷ ws) us rs k r h e = cc
three_at f (v ∷ vs) [] us rs k r h e = cc
three_at f (v ∷ vs) (w ∷ ws) [] rs k r h e = cc
three_at f (v ∷ vs) (w ∷ ws) (u ∷ us) rs k r h e =
    let b = before_some (f v w u) (each_three f vs ws us) rs h in by_place k b.0 b.1 b.2 (ap (λ ys. slice_get ys k) (sym b.4) ∙ e) (λ m q. three_at f vs ws us b.1 m r b.3 q)
  where
    by_place : (k : ℕ) (y : ValueTree) (ys : List ValueTree) → f v w u ≡ Some y → slice_get (y ∷ ys) k ≡ Some r
        → ((m : ℕ) → slice_get ys m ≡ Some r → (a b c : ValueTree) × (slice_get vs m ≡ Some a) × (slice_get ws m ≡ Some b) × (slice_get us m ≡ Some c) × (f a b c ≡ Some r))
        → (a b c : ValueTree) × (slice_get (v ∷ vs) k ≡ Some a) × (slice_get (w ∷ ws) k ≡ Some b) × (slice_get (u ∷ us) k ≡ Some c) × (f a b c ≡ Some r)
    by_place zero y ys is e on = (v, w, u, refl, refl, refl, is ∙ e)
    by_place (suc k) y ys is e on = on k e

-- a vector that is made of its components
one_scalar : (e : Elem) (v : ValueTree) → IsScalarOf e v → scalars_of (typed (shape_of_elem e) v) ≡ Some (v ∷ [])
one_scalar elem.Bool (truth t) h = refl
one_scalar elem.Int (word a) h = refl
one_scalar elem.Uint (word a) h = refl
one_scalar elem.Bool (word a) h = absurd h
one_scalar elem.Bool (many vs) h = absurd h
one_scalar elem.Int (truth t) h = absurd h
one_scalar elem.Int (many vs) h = absurd h
one_scalar elem.Uint (truth t) h = absurd h
one_scalar elem.Uint (many vs) h = absurd h

as_itself : (e : Elem) (v : ValueTree) → IsScalarOf e v → as_elem e v ≡ Some v
as_itself elem.Bool (truth t) h = refl
as_itself elem.Int (word a) h = refl
as_itself elem.Uint (word a) h = refl
as_itself elem.Bool (word a) h = absurd h
as_itself elem.Bool (many vs) h = absurd h
as_itself elem.Int (truth t) h = absurd h
as_itself elem.Int (many vs) h = absurd h
as_itself elem.Uint (truth t) h = absurd h
as_itself elem.Uint (many vs) h = absurd h

each_alone : (e : Elem) (vs : List ValueTree) → AreOf e vs → each_one scalars_of (map (typed (shape_of_elem e)) vs) ≡ Some (map (λ v. v ∷ []) vs)
each_alone e [] a = refl
each_alone e (v ∷ vs) a = ap (λ o. before o (each_one scalars_of (map (typed (shape_of_elem e)) vs))) (one_scalar e v a.0) ∙ ap (before (Some (v ∷ []))) (each_alone e vs a.1)

pub each_itself : (e : Elem) (vs : List ValueTree) → AreOf e vs → each_one (as_elem e) vs ≡ Some vs
each_itself e [] a = refl
each_itself e (v ∷ vs) a = ap (λ o. before o (each_one (as_elem e) vs)) (as_itself e v a.0) ∙ ap (before (Some v)) (each_itself e vs a.1)

joined_alone : (vs : List ValueTree) → joined (map (λ v. v ∷ []) vs) ≡ vs
joined_alone [] = refl
joined_alone (v ∷ vs) = ap (λ us. v ∷ us) (joined_alone vs)

pub built_of : (e : Elem) (n : ℕ) (vs : List ValueTree) → AreOf e vs → length vs ≡ n → (n == 1) ≡ false → built (vector e n) (map (typed (shape_of_elem e)) vs) ≡ Some (typed (vector e n) (composite vs))
built_of e n vs a count more =
    ap (vector_built e n) (each_alone e vs a)
    ∙ ap (λ us. option_map (typed (vector e n)) (option_and_then (λ us. option_map composite (each_one (as_elem e) us)) (filled n us))) (joined_alone vs)
    ∙ ap (λ o. option_map (typed (vector e n)) (option_and_then (λ us. option_map composite (each_one (as_elem e) us)) o)) (filled_is n vs count more)
    ∙ ap (λ o. option_map (typed (vector e n)) (option_map composite o)) (each_itself e vs a)

axis_number : (k : ℕ) → k < 4 → component_number (axis_name k) ≡ Some k
unfolding axis_name
axis_number zero low = refl
axis_number (suc zero) low = refl
axis_number (suc (suc zero)) low = refl
axis_number (suc (suc (suc zero))) low = refl
axis_number (suc (suc (suc (suc k)))) low = absurd (omega (arith, low))

pub axis_part : (e : Elem) (n k : ℕ) → k < n → n ≤ 4 → component_if n (shape_of_elem e) (component_number (axis_name k)) ≡ Some (k, shape_of_elem e)
axis_part e n k less four =
    ap (component_if n (shape_of_elem e)) (axis_number k (omega (arith, less, four))) ∙ ap (λ b. if b then Some (k, shape_of_elem e) else None) (less_is k n less)

-- a scalar, and no composite
abbrev pub IsOne : ValueTree → Type 0
IsOne (many vs) = ⊥
IsOne _ = Unit {0}

pub not_vector : (e : Elem) (n : ℕ) (r : ValueTree) → IsOne r → IsVectorOf e n r → ⊥
not_vector e n (many vs) one is = one
not_vector e n (word a) one is = is
not_vector e n (truth t) one is = is

pub composite_some : (q : Option (List ValueTree)) (r : ValueTree) → option_map composite q ≡ Some r → (rs : List ValueTree) × (q ≡ Some rs) × (composite rs ≡ r)
composite_some None r h = cc
composite_some (Some rs) r h = (rs, refl, let same : composite rs ≡ r = cc in same)

-- operations that take scalars to scalars
abbrev pub OnOne : (ValueTree → Option ValueTree) → Type 0
OnOne f = (v r : ValueTree) → f v ≡ Some r → IsOne r

abbrev pub OnTwo : (ValueTree → ValueTree → Option ValueTree) → Type 0
OnTwo f = (v w r : ValueTree) → f v w ≡ Some r → IsOne v × IsOne w × IsOne r

abbrev OnThree : (ValueTree → ValueTree → ValueTree → Option ValueTree) → Type 0
OnThree f = (v w u r : ValueTree) → f v w u ≡ Some r → IsOne v × IsOne w × IsOne u × IsOne r

one_word : (q : Option ℕ) (r : ValueTree) → option_map word q ≡ Some r → IsOne r
one_word None r h = cc
one_word (Some n) r h = let same : word n ≡ r = cc in subst IsOne same tt

one_truth : (b : Bool) (r : ValueTree) → Some (truth b) ≡ Some r → IsOne r
one_truth b r h = let same : truth b ≡ r = cc in subst IsOne same tt

pub unary_one : (o : Unary) → OnOne (unary_scalar o)
unary_one o (word a) r h = let same = one_word (Some _) r h in same
unary_one o (truth t) r h = cc
unary_one o (many vs) r h = cc

not_one : OnOne not_scalar
not_one (truth t) r h = one_truth _ r h
not_one (word a) r h = cc
not_one (many vs) r h = cc

field_one : (f : ℕ → Option ℕ) → OnOne (field_scalar f)
field_one f (word a) r h = one_word (f a) r h
field_one f (truth t) r h = cc
field_one f (many vs) r h = cc

pub binary_two : (o : Binary) → OnTwo (binary_scalar o)
binary_two o (word a) (word b) r h = (tt, tt, one_word (binary_word o a b) r h)
binary_two o (word a) (truth t) r h = cc
binary_two o (word a) (many vs) r h = cc
binary_two o (truth t) w r h = cc
binary_two o (many vs) w r h = cc

comparison_two : (o : Comparison) → OnTwo (comparison_scalar o)
comparison_two o (word a) (word b) r h = (tt, tt, one_truth _ r h)
comparison_two o (word a) (truth t) r h = cc
comparison_two o (word a) (many vs) r h = cc
comparison_two o (truth t) w r h = cc
comparison_two o (many vs) w r h = cc

logical_two : (o : Logical) → OnTwo (logical_scalar o)
logical_two o (truth a) (truth b) r h = (tt, tt, one_truth _ r h)
logical_two o (truth a) (word b) r h = cc
logical_two o (truth a) (many vs) r h = cc
logical_two o (word a) w r h = cc
logical_two o (many vs) w r h = cc

insert_two : (i n : ℕ) → OnTwo (insert_scalar i n)
insert_two i n (word a) (word b) r h = (tt, tt, one_word (bit_field_insert i n a b) r h)
insert_two i n (word a) (truth t) r h = cc
insert_two i n (word a) (many vs) r h = cc
insert_two i n (truth t) w r h = cc
insert_two i n (many vs) w r h = cc

clamp_three : (o : Clamp) → OnThree (clamp_scalar o)
clamp_three o (word a) (word b) (word c) r h = (tt, tt, tt, one_word (Some _) r h)
clamp_three o (word a) (word b) (truth t) r h = cc
clamp_three o (word a) (word b) (many vs) r h = cc
clamp_three o (word a) (truth t) u r h = cc
clamp_three o (word a) (many vs) u r h = cc
clamp_three o (truth t) w u r h = cc
clamp_three o (many vs) w u r h = cc

pub type_is : (p : Program) (e : Elem) (n : ℕ) → type_of p (type_named (vector_type e n)) ≡ Some (vector e n)
type_is p elem.Bool n = refl
type_is p elem.Int n = refl
type_is p elem.Uint n = refl

one_of_two : (f : ValueTree → ValueTree → Option ValueTree) (v w : ValueTree) → IsOne v → by_two f v w ≡ f v w
one_of_two f (word a) w h = refl
one_of_two f (truth t) w h = refl
one_of_two f (many vs) w h = absurd h

one_of_one : (f : ValueTree → Option ValueTree) (v : ValueTree) → IsOne v → by_one f v ≡ f v
one_of_one f (word a) h = refl
one_of_one f (truth t) h = refl
one_of_one f (many vs) h = absurd h

one_of_three : (f : ValueTree → ValueTree → ValueTree → Option ValueTree) (v w u : ValueTree) → IsOne v → by_three f v w u ≡ f v w u
one_of_three f (word a) w u h = refl
one_of_three f (truth t) w u h = refl
one_of_three f (many vs) w u h = absurd h

one_field : (f : ℕ → Option ℕ) (v : ValueTree) → IsOne v → by_one (field_scalar f) v ≡ field_scalar f v
one_field f v h = one_of_one (field_scalar f) v h

one_insert : (i c : ℕ) (v w : ValueTree) → IsOne v → by_two (insert_scalar i c) v w ≡ insert_scalar i c v w
one_insert i c v w h = one_of_two (insert_scalar i c) v w h

module _ (p : Program) (none : NoneDeclared p) (calls : Text → List Argument → State → Result (Option Typed × State)) (s : State) where
  abbrev S : Expr → Typed → Type 0
  S = Says p calls s

  is_one : (x : Operand) (v : ValueTree) → Means p calls s x v → IsOne v
  is_one x (word a) m = tt
  is_one x (truth t) m = tt
  is_one x (many vs) m = absurd m

  -- a component of a vector operand
  component_means : (x : Operand) (n k : ℕ) (vs : List ValueTree) (v : ValueTree) → n ≤ 4 → MeansVector p calls s x n vs → slice_get vs k ≡ Some v → Means p calls s (component k x) v
  component_means x n k vs v four m at = subst (λ o. Means p calls s (component_of o k x) v) (sym (ap (λ (ty : BasicType). ty.size) m.of_type)) (by_value v (of_at m.elem vs k v m.fit at) (low_at vs k v m.low at) says)
    where
      says : S (Expr.member x.expr (axis_name k)) (typed (shape_of_elem m.elem) v)
      says =
          let less = slice_get_within vs k v at in
          says_member p calls s x.expr (axis_name k) (vector m.elem n) (shape_of_elem m.elem) k (composite vs) v m.says
          (axis_part m.elem n k (subst (λ q. k < q) m.count less) four) (ap (λ us. slice_get us k) (listed_values vs) ∙ at)

      by_value : (v : ValueTree) → IsScalarOf m.elem v → IsLow v → S (Expr.member x.expr (axis_name k)) (typed (shape_of_elem m.elem) v) → Means p calls s (component_of (Some n) k x) v
      by_value (word a) is low h = (record { elem = m.elem; is_numeric = numeric_of m.elem a is; of_type = ap (λ (ty : BasicType). scalar ty.elem) m.of_type; says = h; literal = λ w e. cc }, low)
      by_value (truth t) is low h =
          let bool = truth_of m.elem t is in
          (ap (λ (ty : BasicType). scalar ty.elem) m.of_type ∙ ap scalar bool, subst (λ q. S (Expr.member x.expr (axis_name k)) (typed (shape_of_elem q) (truth t))) bool h)
      by_value (many us) is low h = absurd (no_many m.elem us is)
        where
          no_many : (e : Elem) (us : ValueTrees) → IsScalarOf e (many us) → ⊥
          no_many elem.Bool us h = h
          no_many elem.Int us h = h
          no_many elem.Uint us h = h

  component_type : (x : Operand) (k : ℕ) {g : Elem} {n : ℕ} → x.ty ≡ vector_type g n → (component k x).ty ≡ scalar g
  component_type x k {g} {n} is = ap (λ (ty : BasicType). (component_of ty.size k x).ty) is ∙ ap (λ (ty : BasicType). scalar ty.elem) is

  -- a scalar operand stands beside each component
  scalar_component : (x : Operand) (v : ValueTree) (k : ℕ) → Means p calls s x v → component k x ≡ x
  scalar_component x (word a) k m = let h = m.0 in ap (λ (ty : BasicType). component_of ty.size k x) h.of_type
  scalar_component x (truth t) k m = ap (λ (ty : BasicType). component_of ty.size k x) m.0
  scalar_component x (many vs) k m = absurd m

  module _ (g : Elem) (n : ℕ) (more : (n == 1) ≡ false) (four : n ≤ 4) where
    below_say : (Q : ℕ → Expr) (rs : List ValueTree) → ((k : ℕ) (r : ValueTree) → slice_get rs k ≡ Some r → S (Q k) (typed (shape_of_elem g) r)) → (m : ℕ) → m ≤ length rs → AllSay p calls s (exprs_in (each_below m Q)) (map (typed (shape_of_elem g)) (take m rs))
    below_say Q rs each zero le = tt
    below_say Q rs each (suc m) le =
        let last = take_end rs m (omega (arith, le)) in
        subst (λ ys. AllSay p calls s (exprs_in (each_below (suc m) Q)) ys) (sym (ap (map (typed (shape_of_elem g))) last.2 ∙ map_joined (typed (shape_of_elem g)) (take m rs) (last.0 ∷ [])))
        (all_end p calls s (each_below m Q) (map (typed (shape_of_elem g)) (take m rs)) (Q m) (typed (shape_of_elem g) last.0) (below_say Q rs each m (omega (arith, le))) (each m last.0 last.1))

    -- a constructor of components says the vector of them
    pub components_say : (Q : ℕ → Expr) (rs : List ValueTree) → length rs ≡ n → AreOf g rs → ((k : ℕ) (r : ValueTree) → slice_get rs k ≡ Some r → S (Q k) (typed (shape_of_elem g) r)) → S (build (type_named (vector_type g n)) (exprs_in (each_below n Q))) (typed (vector g n) (composite rs))
    components_say Q rs count fit each =
        says_build p calls s (type_named (vector_type g n)) (vector g n) (exprs_in (each_below n Q)) (map (typed (shape_of_elem g)) rs) (typed (vector g n) (composite rs)) (type_is p g n)
        (subst (λ ys. AllSay p calls s (exprs_in (each_below n Q)) (map (typed (shape_of_elem g)) ys)) (take_whole rs n count) (below_say Q rs each n (omega (arith, count))))
        (built_of g n rs fit count more)

    abbrev Gives : Expr → ValueTree → Type 0
    Gives e r = IsVectorOf g n r → S e (typed (vector g n) r)

    -- what is given of the components, and so of the whole
    of_parts : (Q : ℕ → Expr) (q : Option (List ValueTree)) (r : ValueTree) → option_map composite q ≡ Some r → ((rs : List ValueTree) → q ≡ Some rs → AreOf g rs → (k : ℕ) (c : ValueTree) → slice_get rs k ≡ Some c → S (Q k) (typed (shape_of_elem g) c))
        → Gives (build (type_named (vector_type g n)) (exprs_in (each_below n Q))) r
    of_parts Q q r h each is =
        let c = composite_some q r h in
        let whole : IsVectorOf g n (composite c.0) = subst (IsVectorOf g n) (sym c.2) is in
        let fit : AreOf g c.0 = subst (AreOf g) (listed_values c.0) whole.0 in
        let count : length c.0 ≡ n = ap length (sym (listed_values c.0)) ∙ whole.1 in
        subst (λ q. S (build (type_named (vector_type g n)) (exprs_in (each_below n Q))) (typed (vector g n) q)) c.2 (components_say Q c.0 count fit (each c.0 c.1 fit))

    module _ (o : Operation) (t : Tree) (l : List ℕ) where
      abbrev C : List Operand → ℕ → Expr
      C xs k = applied o (scalar g) (map (component k) xs)

      one_vector : (f : ValueTree → Option ValueTree) → OnOne f → ((v : ValueTree) → IsOne v → value_of_operation o t l (v ∷ []) ≡ f v) → ((xs : List Operand) → OnScalars o g xs) → (x : Operand) (v r : ValueTree) → MeansAny p calls s n x v → by_one f v ≡ Some r → Gives (by_component o g n (x ∷ [])) r
      one_vector f onto same on x (many vs) r m h = of_parts (C (x ∷ [])) (each_one f (listed vs)) r h (λ rs is fit k c at.
          let q = one_at f (listed vs) rs k c is at in
          let mx = component_means x n k (listed vs) q.0 four m q.1 in
          scalar_says p none calls s g o t l (component k x ∷ []) (q.0 ∷ []) c (on _) (mx, tt) (same q.0 (is_one (component k x) q.0 mx) ∙ q.2) (of_at g rs k c fit at))
      one_vector f onto same on x (word a) r m h = λ is. absurd (not_vector g n r (onto (word a) r h) is)
      one_vector f onto same on x (truth b) r m h = λ is. absurd (not_vector g n r (onto (truth b) r h) is)

      two_vectors : (f : ValueTree → ValueTree → Option ValueTree) → OnTwo f → ((v w : ValueTree) → IsOne v → IsOne w → value_of_operation o t l (v ∷ w ∷ []) ≡ f v w) → ((xs : List Operand) → OnScalars o g xs) → (x y : Operand) (v w r : ValueTree) → MeansAny p calls s n x v → MeansAny p calls s n y w → by_two f v w ≡ Some r → Gives (by_component o g n (x ∷ y ∷ [])) r
      two_vectors f onto same on x y (many vs) (many ws) r mx my h = of_parts (C (x ∷ y ∷ [])) (each_two f (listed vs) (listed ws)) r h (λ rs is fit k c at.
          let q = two_at f (listed vs) (listed ws) rs k c is at in
          let cx = component_means x n k (listed vs) q.0 four mx q.2 in
          let cy = component_means y n k (listed ws) q.1 four my q.3 in
          scalar_says p none calls s g o t l (component k x ∷ component k y ∷ []) (q.0 ∷ q.1 ∷ []) c (on _) (cx, (cy, tt)) (same q.0 q.1 (is_one (component k x) q.0 cx) (is_one (component k y) q.1 cy) ∙ q.4) (of_at g rs k c fit at))
      two_vectors f onto same on x y (many vs) (word b) r mx my h = absurd (onto (many vs) (word b) r h).0
      two_vectors f onto same on x y (many vs) (truth b) r mx my h = absurd (onto (many vs) (truth b) r h).0
      two_vectors f onto same on x y (word a) w r mx my h = λ is. absurd (not_vector g n r (onto (word a) w r h).2 is)
      two_vectors f onto same on x y (truth a) w r mx my h = λ is. absurd (not_vector g n r (onto (truth a) w r h).2 is)

      three_vectors : (f : ValueTree → ValueTree → ValueTree → Option ValueTree) → OnThree f → ((v w u : ValueTree) → IsOne v → IsOne w → IsOne u → value_of_operation o t l (v ∷ w ∷ u ∷ []) ≡ f v w u) → ((xs : List Operand) → OnScalars o g xs) → (x y z : Operand) (v w u r : ValueTree)
          → MeansAny p calls s n x v → MeansAny p calls s n y w → MeansAny p calls s n z u → by_three f v w u ≡ Some r → Gives (by_component o g n (x ∷ y ∷ z ∷ [])) r
      three_vectors f onto same on x y z (many vs) (many ws) (many us) r mx my mz h = of_parts (C (x ∷ y ∷ z ∷ [])) (each_three f (listed vs) (listed ws) (listed us)) r h (λ rs is fit k c at.
          let q = three_at f (listed vs) (listed ws) (listed us) rs k c is at in
          let cx = component_means x n k (listed vs) q.0 four mx q.3 in
          let cy = component_means y n k (listed ws) q.1 four my q.4 in
          let cz = component_means z n k (listed us) q.2 four mz q.5 in
          scalar_says p none calls s g o t l (component k x ∷ component k y ∷ component k z ∷ []) (q.0 ∷ q.1 ∷ q.2 ∷ []) c (on _) (cx, (cy, (cz, tt))) (same q.0 q.1 q.2 (is_one (component k x) q.0 cx) (is_one (component k y) q.1 cy) (is_one (component k z) q.2 cz) ∙ q.6) (of_at g rs k c fit at))
      three_vectors f onto same on x y z (many vs) (many ws) (word b) r mx my mz h = absurd (onto (many vs) (many ws) (word b) r h).0
      three_vectors f onto same on x y z (many vs) (many ws) (truth b) r mx my mz h = absurd (onto (many vs) (many ws) (truth b) r h).0
      three_vectors f onto same on x y z (many vs) (word b) u r mx my mz h = absurd (onto (many vs) (word b) u r h).0
      three_vectors f onto same on x y z (many vs) (truth b) u r mx my mz h = absurd (onto (many vs) (truth b) u r h).0
      three_vectors f onto same on x y z (word a) w u r mx my mz h = λ is. absurd (not_vector g n r (onto (word a) w u r h).3 is)
      three_vectors f onto same on x y z (truth a) w u r mx my mz h = λ is. absurd (not_vector g n r (onto (truth a) w u r h).3 is)

      -- a field of each component, by one offset and one count
      field_vector : (f : ℕ → ℕ → ℕ → Option ℕ) → ((v w u : ValueTree) → value_of_operation o t l (v ∷ w ∷ u ∷ []) ≡ bit_field f v w u) → ((xs : List Operand) → OnScalars o g xs) → (x y z : Operand) (v : ValueTree) (i c : ℕ) (r : ValueTree)
          → MeansAny p calls s n x v → Means p calls s y (word i) → Means p calls s z (word c) → by_one (field_scalar (f i c)) v ≡ Some r → Gives (by_component o g n (x ∷ y ∷ z ∷ [])) r
      field_vector f same on x y z (many vs) i c r mx my mz h = of_parts (C (x ∷ y ∷ z ∷ [])) (each_one (field_scalar (f i c)) (listed vs)) r h (λ rs is fit k d at.
          let q = one_at (field_scalar (f i c)) (listed vs) rs k d is at in
          let cx = component_means x n k (listed vs) q.0 four mx q.1 in
          subst (λ ys. S (applied o (scalar g) (component k x ∷ ys)) (typed (shape_of_elem g) d)) (sym (ap (λ a. a ∷ component k z ∷ []) (scalar_component y (word i) k my) ∙ ap (λ a. y ∷ a ∷ []) (scalar_component z (word c) k mz)))
          (scalar_says p none calls s g o t l (component k x ∷ y ∷ z ∷ []) (q.0 ∷ word i ∷ word c ∷ []) d (on _) (cx, (my, (mz, tt))) (same q.0 (word i) (word c) ∙ (one_field (f i c) q.0 (is_one (component k x) q.0 cx) ∙ q.2)) (of_at g rs k d fit at)))
      field_vector f same on x y z (word a) i c r mx my mz h = λ is. absurd (not_vector g n r (field_one (f i c) (word a) r h) is)
      field_vector f same on x y z (truth a) i c r mx my mz h = λ is. absurd (not_vector g n r (field_one (f i c) (truth a) r h) is)

      insert_vectors : ((v w u q : ValueTree) → value_of_operation o t l (v ∷ w ∷ u ∷ q ∷ []) ≡ inserted_field v w u q) → ((xs : List Operand) → OnScalars o g xs) → (x y z a : Operand) (v w : ValueTree) (i c : ℕ) (r : ValueTree)
          → MeansAny p calls s n x v → MeansAny p calls s n y w → Means p calls s z (word i) → Means p calls s a (word c) → by_two (insert_scalar i c) v w ≡ Some r → Gives (by_component o g n (x ∷ y ∷ z ∷ a ∷ [])) r
      insert_vectors same on x y z a (many vs) (many ws) i c r mx my mz ma h = of_parts (C (x ∷ y ∷ z ∷ a ∷ [])) (each_two (insert_scalar i c) (listed vs) (listed ws)) r h (λ rs is fit k d at.
          let q = two_at (insert_scalar i c) (listed vs) (listed ws) rs k d is at in
          let cx = component_means x n k (listed vs) q.0 four mx q.2 in
          let cy = component_means y n k (listed ws) q.1 four my q.3 in
          subst (λ ys. S (applied o (scalar g) (component k x ∷ component k y ∷ ys)) (typed (shape_of_elem g) d)) (sym (ap (λ b. b ∷ component k a ∷ []) (scalar_component z (word i) k mz) ∙ ap (λ b. z ∷ b ∷ []) (scalar_component a (word c) k ma)))
          (scalar_says p none calls s g o t l (component k x ∷ component k y ∷ z ∷ a ∷ []) (q.0 ∷ q.1 ∷ word i ∷ word c ∷ []) d (on _) (cx, (cy, (mz, (ma, tt)))) (same q.0 q.1 (word i) (word c) ∙ (one_insert i c q.0 q.1 (is_one (component k x) q.0 cx) ∙ q.4)) (of_at g rs k d fit at)))
      insert_vectors same on x y z a (many vs) (word b) i c r mx my mz ma h = absurd (insert_two i c (many vs) (word b) r h).0
      insert_vectors same on x y z a (many vs) (truth b) i c r mx my mz ma h = absurd (insert_two i c (many vs) (truth b) r h).0
      insert_vectors same on x y z a (word b) w i c r mx my mz ma h = λ is. absurd (not_vector g n r (insert_two i c (word b) w r h).2 is)
      insert_vectors same on x y z a (truth b) w i c r mx my mz ma h = λ is. absurd (not_vector g n r (insert_two i c (truth b) w r h).2 is)

    abbrev M : Operand → ValueTree → Type 0
    M = MeansAny p calls s n

    of_field : (o : Operation) (t : Tree) (l : List ℕ) (f : ℕ → ℕ → ℕ → Option ℕ) → ((v w u : ValueTree) → value_of_operation o t l (v ∷ w ∷ u ∷ []) ≡ bit_field f v w u) → ((xs : List Operand) → OnScalars o g xs) → (x y z : Operand) (v w u r : ValueTree)
        → M x v → M y w → M z u → bit_field f v w u ≡ Some r → Gives (by_component o g n (x ∷ y ∷ z ∷ [])) r
    of_field o t l f same on x y z v (word i) (word c) r mx my mz h = field_vector o t l f same on x y z v i c r mx my mz h
    of_field o t l f same on x y z v (word i) (truth b) r mx my mz h = cc
    of_field o t l f same on x y z v (word i) (many us) r mx my mz h = cc
    of_field o t l f same on x y z v (truth b) u r mx my mz h = cc
    of_field o t l f same on x y z v (many ws) u r mx my mz h = cc

    of_insert : (t : Tree) (l : List ℕ) (x y z a : Operand) (v w u q r : ValueTree) → M x v → M y w → M z u → M a q → inserted_field v w u q ≡ Some r → Gives (by_component op.BitFieldInsert g n (x ∷ y ∷ z ∷ a ∷ [])) r
    of_insert t l x y z a v w (word i) (word c) r mx my mz ma h = insert_vectors op.BitFieldInsert t l (λ v w u q. refl) (λ xs. tt) x y z a v w i c r mx my mz ma h
    of_insert t l x y z a v w (word i) (truth b) r mx my mz ma h = cc
    of_insert t l x y z a v w (word i) (many us) r mx my mz ma h = cc
    of_insert t l x y z a v w (truth b) q r mx my mz ma h = cc
    of_insert t l x y z a v w (many us) q r mx my mz ma h = cc

    -- a choice by component: each by its own condition
    of_select : (t : Tree) (l : List ℕ) (x y z : Operand) (v w u r : ValueTree) → M x v → M y w → M z u → by_three chosen v w u ≡ Some r → GoesByComponent op.Select g n (x ∷ y ∷ z ∷ []) → Gives (by_component op.Select g n (x ∷ y ∷ z ∷ [])) r
    of_select t l x y z (many vs) (many ws) (many us) r mx my mz h goes = of_parts (C op.Select t l (x ∷ y ∷ z ∷ [])) (each_three chosen (listed vs) (listed ws) (listed us)) r h (λ rs is fit k c at.
        let q = three_at chosen (listed vs) (listed ws) (listed us) rs k c is at in
        let cx = component_means x n k (listed vs) q.0 four mx q.3 in
        let cy = component_means y n k (listed ws) q.1 four my q.4 in
        let cz = component_means z n k (listed us) q.2 four mz q.5 in
        scalar_says p none calls s g op.Select t l (component k x ∷ component k y ∷ component k z ∷ []) (q.0 ∷ q.1 ∷ q.2 ∷ []) c (component_type y k goes.1, component_type z k goes.2) (cx, (cy, (cz, tt))) (one_of_three chosen q.0 q.1 q.2 (is_one (component k x) q.0 cx) ∙ q.6) (of_at g rs k c fit at))
    of_select t l x y z (many vs) (many ws) (word b) r mx my mz h goes = cc
    of_select t l x y z (many vs) (many ws) (truth b) r mx my mz h goes = cc
    of_select t l x y z (many vs) (word b) u r mx my mz h goes = cc
    of_select t l x y z (many vs) (truth b) u r mx my mz h goes = cc
    of_select t l x y z (word a) w u r mx my mz h goes = cc
    of_select t l x y z (truth a) w u r mx my mz h goes = let clash : None ≡ Some n = sym (ap (λ (ty : BasicType). ty.size) mx.0) ∙ goes.0 in cc

    -- the operations that are written by component where their results are vectors; of a choice the condition is one too
    pub by_component_says : (o : Operation) (t : Tree) (l : List ℕ) (xs : List Operand) (vs : List ValueTree) (r : ValueTree) → GoesByComponent o g n xs → AllMeanAny p calls s n xs vs → value_of_operation o t l vs ≡ Some r → Gives (by_component o g n xs) r
    by_component_says (op.Unary o) t l xs vs r goes m h = by_one_operand M (by_one (unary_scalar o)) xs vs r (λ xs. Gives (by_component (op.Unary o) g n xs) r)
        (λ x v mx h. one_vector (op.Unary o) t l (unary_scalar o) (unary_one o) (λ v one. one_of_one (unary_scalar o) v one) (λ xs. tt) x v r mx h) m h
    by_component_says (op.Binary o) t l xs vs r goes m h = by_two_operands M (by_two (binary_scalar o)) xs vs r (λ xs. Gives (by_component (op.Binary o) g n xs) r)
        (λ x y v w mx my h. two_vectors (op.Binary o) t l (binary_scalar o) (binary_two o) (λ v w one two. one_of_two (binary_scalar o) v w one) (λ xs. tt) x y v w r mx my h) m h
    by_component_says (op.Comparison o) t l xs vs r goes m h = by_two_operands M (by_two (comparison_scalar o)) xs vs r (λ xs. Gives (by_component (op.Comparison o) g n xs) r)
        (λ x y v w mx my h. two_vectors (op.Comparison o) t l (comparison_scalar o) (comparison_two o) (λ v w one two. one_of_two (comparison_scalar o) v w one) (λ xs. tt) x y v w r mx my h) m h
    by_component_says (op.Logical o) t l xs vs r goes m h = by_two_operands M (by_two (logical_scalar o)) xs vs r (λ xs. Gives (by_component (op.Logical o) g n xs) r)
        (λ x y v w mx my h. two_vectors (op.Logical o) t l (logical_scalar o) (logical_two o) (λ v w one two. one_of_two (logical_scalar o) v w one) (λ xs. tt) x y v w r mx my h) m h
    by_component_says op.LogicalNot t l xs vs r goes m h = by_one_operand M (by_one not_scalar) xs vs r (λ xs. Gives (by_component op.LogicalNot g n xs) r)
        (λ x v mx h. one_vector op.LogicalNot t l not_scalar not_one (λ v one. one_of_one not_scalar v one) (λ xs. tt) x v r mx h) m h
    by_component_says (op.Clamp o) t l xs vs r goes m h = by_three_operands M (by_three (clamp_scalar o)) xs vs r (λ xs. Gives (by_component (op.Clamp o) g n xs) r)
        (λ x y z v w u mx my mz h. three_vectors (op.Clamp o) t l (clamp_scalar o) (clamp_three o) (λ v w u one two three. one_of_three (clamp_scalar o) v w u one) (λ xs. tt) x y z v w u r mx my mz h) m h
    by_component_says op.BitFieldInsert t l xs vs r goes m h = by_four_operands M inserted_field xs vs r (λ xs. Gives (by_component op.BitFieldInsert g n xs) r)
        (λ x y z a v w u q mx my mz ma h. of_insert t l x y z a v w u q r mx my mz ma h) m h
    by_component_says op.BitFieldSExtract t l xs vs r goes m h = by_three_operands M (bit_field bit_field_signed) xs vs r (λ xs. Gives (by_component op.BitFieldSExtract g n xs) r)
        (λ x y z v w u mx my mz h. of_field op.BitFieldSExtract t l bit_field_signed (λ v w u. refl) (λ xs. tt) x y z v w u r mx my mz h) m h
    by_component_says op.BitFieldUExtract t l xs vs r goes m h = by_three_operands M (bit_field bit_field_unsigned) xs vs r (λ xs. Gives (by_component op.BitFieldUExtract g n xs) r)
        (λ x y z v w u mx my mz h. of_field op.BitFieldUExtract t l bit_field_unsigned (λ v w u. refl) (λ xs. tt) x y z v w u r mx my mz h) m h
    by_component_says op.Select t l xs vs r goes m h = by_three_operands M (by_three chosen) xs vs r (λ xs. GoesByComponent op.Select g n xs → Gives (by_component op.Select g n xs) r)
        (λ x y z v w u mx my mz h goes. of_select t l x y z v w u r mx my mz h goes) m h goes
    by_component_says op.Copy t l xs vs r goes m h = absurd goes
    by_component_says op.Any t l xs vs r goes m h = absurd goes
    by_component_says op.All t l xs vs r goes m h = absurd goes
    by_component_says op.Undef t l xs vs r goes m h = absurd goes
    by_component_says op.VectorExtractDynamic t l xs vs r goes m h = absurd goes
    by_component_says op.VectorInsertDynamic t l xs vs r goes m h = absurd goes
    by_component_says op.VectorShuffle t l xs vs r goes m h = absurd goes
    by_component_says op.CompositeConstruct t l xs vs r goes m h = absurd goes
    by_component_says op.CompositeExtract t l xs vs r goes m h = absurd goes
    by_component_says op.CompositeInsert t l xs vs r goes m h = absurd goes

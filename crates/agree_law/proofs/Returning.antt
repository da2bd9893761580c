-- Behind a call its caller's state agrees again: what was lent has the values that the call left, and all else is as before.
use Rattle.std.proofs.Common.{◌≡◌, ◌≢◌, ◌⊎◌, ℕ, Bool, true, false, List, [], ◌∷◌, Option, Some, None, inl, inr, refl, sym, ap, ◌∙◌, subst}
use Rattle.std.proofs.lemmas.Bool.Decides.{eqb_tells}
use Rattle.spv_types.specs.Tree.{ValueTree, word}
use Rattle.traces.specs.Outcomes.{Result, got, with_before, then_get, or_stuck}
use Rattle.module_semantics.specs.State.{Held, value, pointer, Conf}
use Rattle.module_semantics.specs.Operands.{as_value}
use Rattle.glsl_ast.specs.Tree.{Text, Param, param}
use Rattle.glsl_semantics.specs.Shapes.{Typed, typed, same_shape}
use Rattle.glsl_semantics.specs.States.{Variable, Frame, State, found, found_in, has_in, put_in, Thing, store}
use Rattle.glsl_semantics.specs.Expressions.{Argument}
use Rattle.glsl_semantics.specs.Run.{copied_out, returned}
use Rattle.region_law.proofs.Flags.{in_found, other_put}
use Rattle.agree_law.specs.Own.{Own}
use Rattle.agree_law.specs.Agree.{Naming, is_named, AreApart, variable_with, IfPointer, IsFar, target_value, Agree, AgreeIn}
use Rattle.agree_law.specs.Outs.{Outs, IsOut, NotOut, AreOnce, AreLent, puts, AreOuts}
use Rattle.agree_law.proofs.Owned.{own_found, own_put, own_put_other, none_put}
use Rattle.agree_law.proofs.Braces.{outer_named, local_named, variable_named, lent_named}
use Rattle.agree_law.proofs.Changes.{is_not}
use Rattle.agree_law.proofs.Evaluating.{store_is}

find_out : (n : ℕ) (os : Outs) → ((v : ValueTree) × IsOut n v os) ⊎ NotOut n os
find_out n [] = inr tt
find_out n (o ∷ os) = elim (eqb_tells n o.0) [
  | inl w ↦ inl (o.1, inl (w.1, refl))
  | inr w ↦ elim (find_out n os) [
    | inl v ↦ inl (v.0, inr v.1)
    | inr out ↦ inr (w.1, out)
  ]
]

-- what is left and what is not are apart
out_differs : (k n : ℕ) (v : ValueTree) (os : Outs) → NotOut k os → IsOut n v os → k ≢ n
out_differs k n v [] none out is = absurd out
out_differs k n v (o ∷ os) none (inl same) is = none.0 (is ∙ same.0)
out_differs k n v (o ∷ os) none (inr out) is = out_differs k n v os none.1 out is

module _ (m : Naming) (apart : AreApart m) where
  lent_is : (k : ℕ) → (m.is_variable k ≡ true) ⊎ (m.is_lent k ≡ true) → is_named m k ≡ true
  lent_is k (inl is) = variable_named m k is
  lent_is k (inr is) = lent_named m k is

  -- what is lent has no variable of another kind
  not_outer : (k : ℕ) → (m.is_variable k ≡ true) ⊎ (m.is_lent k ≡ true) → m.is_outer k ≡ false
  not_outer k (inl is) = (apart.variables k is).0
  not_outer k (inr is) = (apart.lents k is).0

  not_local : (k : ℕ) → (m.is_variable k ≡ true) ⊎ (m.is_lent k ≡ true) → m.is_local k ≡ false
  not_local k (inl is) = (apart.variables k is).1
  not_local k (inr is) = (apart.lents k is).1

  -- a name of which none of these is
  abbrev IsNone : Text → Outs → Type 0
  IsNone x [] = Unit {0}
  IsNone x (o ∷ os) = (m.name o.0 ≢ x) × IsNone x os

  own_kept : (os : Outs) (fs : List Frame) (x : Text) (u : Variable) → IsNone x os → Own fs x u → Own (puts m os fs) x u
  own_kept [] fs x u none h = h
  own_kept (o ∷ os) fs x u none h = own_kept os (put_in fs (m.name o.0) o.1) x u none.1 (own_put_other fs x (m.name o.0) u o.1 none.0 h)

  hidden_kept : (os : Outs) (fs : List Frame) (x : Text) → has_in fs x ≡ false → has_in (puts m os fs) x ≡ false
  hidden_kept [] fs x h = h
  hidden_kept (o ∷ os) fs x h = hidden_kept os (put_in fs (m.name o.0) o.1) x (none_put fs x (m.name o.0) o.1 h)

  found_kept : (os : Outs) (fs : List Frame) (x : Text) → IsNone x os → found_in (puts m os fs) x ≡ found_in fs x
  found_kept [] fs x none = refl
  found_kept (o ∷ os) fs x none = found_kept os (put_in fs (m.name o.0) o.1) x none.1 ∙ other_put fs (m.name o.0) x o.1 none.0

  none_of : (n : ℕ) (os : Outs) → is_named m n ≡ true → AreLent m os → NotOut n os → IsNone (m.name n) os
  none_of n [] named lent out = tt
  none_of n (o ∷ os) named lent out = (λ same. out.0 (sym (apart.names o.0 n (lent_is o.0 lent.0) named same)), none_of n os named lent.1 out.1)

  -- a value that was left
  own_left : (os : Outs) (fs : List Frame) (n : ℕ) (v : ValueTree) (u : Variable) → is_named m n ≡ true → AreOnce os → AreLent m os → IsOut n v os → Own fs (m.name n) u → Own (puts m os fs) (m.name n) (record u { value = Some v })
  own_left [] fs n v u named once lent out h = absurd out
  own_left (o ∷ os) fs n v u named once lent (inl same) h =
      subst (λ j. Own (puts m os (put_in fs (m.name j) o.1)) (m.name n) (record u { value = Some v })) same.0
      (subst (λ w. Own (puts m os (put_in fs (m.name n) w)) (m.name n) (record u { value = Some v })) same.1
      (own_kept os (put_in fs (m.name n) v) (m.name n) (record u { value = Some v }) (none_of n os named lent.1 (subst (λ j. NotOut j os) (sym same.0) once.0)) (own_put fs (m.name n) u v h)))
  own_left (o ∷ os) fs n v u named once lent (inr out) h = own_left os (put_in fs (m.name o.0) o.1) n v u named once.1 lent.1 out (own_put_other fs (m.name n) (m.name o.0) u o.1 (λ same. out_differs o.0 n v os once.0 out (apart.names o.0 n (lent_is o.0 lent.0) named same)) h)

  -- the kinds of names that are not lent
  none_kind : (kind : ℕ → Bool) (n : ℕ) (os : Outs) → AreLent m os → kind n ≡ true → is_named m n ≡ true → ((k : ℕ) → (m.is_variable k ≡ true) ⊎ (m.is_lent k ≡ true) → kind k ≡ false) → IsNone (m.name n) os
  none_kind kind n [] lent is named off = tt
  none_kind kind n (o ∷ os) lent is named off = (λ same. is_not kind n o.0 is (off o.0 lent.0) (sym (apart.names o.0 n (lent_is o.0 lent.0) named same)), none_kind kind n os lent.1 is named off)

  none_index : (q j : ℕ) (os : Outs) → AreLent m os → m.is_kept q j ≡ true → IsNone (m.index_name q j) os
  none_index q j [] lent is = tt
  none_index q j (o ∷ os) lent is = (apart.both o.0 q j (lent_is o.0 lent.0) is, none_index q j os lent.1 is)

  none_outside : (y : Text) (os : Outs) → AreLent m os → m.is_outside y ≡ true → IsNone y os
  none_outside y [] lent is = tt
  none_outside y (o ∷ os) lent is = ((apart.outside y is).0 o.0 (lent_is o.0 lent.0), none_outside y os lent.1 is)

  -- what has been left where the caller goes on: variables and pointer parameters that were lent have these values, and all else of its own is as before
  pub record IsLeft (c d : Conf) (os : Outs) : Type 0 where
    pub ids : (n : ℕ) → d.top.ids n ≡ c.top.ids n
    pub once : AreOnce os
    pub lent : AreLent m os
    pub variables : (n : ℕ) → m.is_variable n ≡ true → ((v : ValueTree) → IsOut n v os → d.top.variables n ≡ Some v) × (NotOut n os → d.top.variables n ≡ c.top.variables n)
    pub lents : (n : ℕ) → m.is_lent n ≡ true → ((v : ValueTree) → IsOut n v os → IfPointer (c.top.ids n) (λ r path. Some v ≡ target_value d r path)) × (NotOut n os → IfPointer (c.top.ids n) (λ r path. target_value c r path ≡ target_value d r path))

  pub returns_in : (done : ℕ → Bool) (c d : Conf) (z : State) (os : Outs) (g : Frame) → IsLeft c d os → ((n : ℕ) → m.is_private n ≡ true → found g (m.name n) ≡ Some (variable_with (m.shape n) (d.privates n))) → ((y : Text) → m.is_outside y ≡ true → found g y ≡ None)
      → AgreeIn m done c z → AgreeIn m done d (record z { frames = puts m os z.frames; globals = g })
  returns_in done c d z os g left privates outside a = record {
    all = record {
      outer = λ n e. subst (λ (h : Option Held). Own (puts m os z.frames) (m.name n) (variable_with (m.shape n) (as_value h))) (sym (left.ids n)) (own_kept os z.frames (m.name n) _ (none_kind m.is_outer n os left.lent e (outer_named m n e) not_outer) (a.all.outer n e));
      variables = λ n e. elim (find_out n os) [
        | inl v ↦ subst (λ (o : Option ValueTree). Own (puts m os z.frames) (m.name n) (variable_with (m.shape n) o)) (sym ((left.variables n e).0 v.0 v.1)) (own_left os z.frames n v.0 _ (variable_named m n e) left.once left.lent v.1 (a.all.variables n e))
        | inr out ↦ subst (λ (o : Option ValueTree). Own (puts m os z.frames) (m.name n) (variable_with (m.shape n) o)) (sym ((left.variables n e).1 out)) (own_kept os z.frames (m.name n) _ (none_of n os (variable_named m n e) left.lent out) (a.all.variables n e))
      ];
      lents = λ n e. elim (find_out n os) [
        | inl v ↦ let l = a.all.lents n e in (Some v.0, own_left os z.frames n v.0 _ (lent_named m n e) left.once left.lent v.1 l.1, subst (λ (h : Option Held). IfPointer h (λ r path. IsFar r × (Some v.0 ≡ target_value d r path))) (sym (left.ids n)) (both (c.top.ids n) l.0 (Some v.0) l.2 ((left.lents n e).0 v.0 v.1)))
        | inr out ↦ let l = a.all.lents n e in (l.0, own_kept os z.frames (m.name n) _ (none_of n os (lent_named m n e) left.lent out) l.1, subst (λ (h : Option Held). IfPointer h (λ r path. IsFar r × (l.0 ≡ target_value d r path))) (sym (left.ids n)) (still (c.top.ids n) l.0 l.2 ((left.lents n e).1 out)))
      ];
      privates = λ n e. (privates n e, hidden_kept os z.frames (m.name n) (a.all.privates n e).1);
      kept = λ q j e. let i = a.all.kept q j e in (i.0, own_kept os z.frames (m.index_name q j) _ (none_index q j os left.lent e) i.1, subst (λ (h : Option Held). IfPointer h (λ r path. i.0 ≡ Some (word (m.index_in q j path)))) (sym (left.ids q)) i.2);
      outside = λ y e. (hidden_kept os z.frames y (a.all.outside y e).0, outside y e);
    };
    local = λ n e l. found_kept os z.frames (m.name n) (none_kind m.is_local n os left.lent l (local_named m n l) not_local) ∙ a.local n e l ∙ ap (λ (h : Option Held). Some (variable_with (m.shape n) (as_value h))) (sym (left.ids n));
  }
    where
      both : (h : Option Held) (o q : Option ValueTree) → IfPointer h (λ r path. IsFar r × (o ≡ target_value c r path)) → IfPointer h (λ r path. q ≡ target_value d r path) → IfPointer h (λ r path. IsFar r × (q ≡ target_value d r path))
      both None o q l e = tt
      both (Some (value u)) o q l e = tt
      both (Some (pointer r path)) o q l e = (l.0, e)

      still : (h : Option Held) (o : Option ValueTree) → IfPointer h (λ r path. IsFar r × (o ≡ target_value c r path)) → IfPointer h (λ r path. target_value c r path ≡ target_value d r path) → IfPointer h (λ r path. IsFar r × (o ≡ target_value d r path))
      still None o l e = tt
      still (Some (value u)) o l e = tt
      still (Some (pointer r path)) o l e = (l.0, l.1 ∙ e)

  -- all these names are there
  abbrev pub AreThere : Outs → List Frame → Type 0
  AreThere [] fs = Unit {0}
  AreThere (o ∷ os) fs = ((u : Variable) × Own fs (m.name o.0) u) × AreThere os fs

  there_still : (os : Outs) (fs : List Frame) (k : ℕ) (v : ValueTree) → NotOut k os → (m.is_variable k ≡ true) ⊎ (m.is_lent k ≡ true) → AreLent m os → AreThere os fs → AreThere os (put_in fs (m.name k) v)
  there_still [] fs k v out is lent there = tt
  there_still (o ∷ os) fs k v out is lent there =
      ((there.0.0, own_put_other fs (m.name o.0) (m.name k) there.0.0 v (λ same. out.0 (apart.names k o.0 (lent_is k is) (lent_is o.0 lent.0) same)) there.0.1), there_still os fs k v out.1 is lent.1 there.1)

  all_there : (os : Outs) (c : Conf) (z : State) → AreLent m os → Agree m c z → AreThere os z.frames
  all_there [] c z lent a = tt
  all_there (o ∷ os) c z lent a = (by_kind lent.0, all_there os c z lent.1 a)
    where
      by_kind : (m.is_variable o.0 ≡ true) ⊎ (m.is_lent o.0 ≡ true) → (u : Variable) × Own z.frames (m.name o.0) u
      by_kind (inl is) = (variable_with (m.shape o.0) (c.top.variables o.0), a.variables o.0 is)
      by_kind (inr is) = let l = a.lents o.0 is in (variable_with (m.shape o.0) l.0, l.1)

  -- the values of `inout` parameters go back to their arguments, from left to right
  outs_run : (fs : List Frame) (ps : List Param) (as' : List Argument) (os : Outs) (y : State) → AreOuts m fs ps as' os → ((k : ℕ) (v : ValueTree) → IsOut k v os → same_shape (m.shape k) (m.shape k) ≡ true) → AreOnce os → AreLent m os → AreThere os y.frames
      → copied_out fs ps as' y ≡ got [] (record y { frames = puts m os y.frames })
  outs_run fs [] [] [] y are same once lent there = refl
  outs_run fs [] [] (o ∷ os) y are same once lent there = absurd are
  outs_run fs [] (a ∷ as') os y are same once lent there = absurd are
  outs_run fs (param true t w ∷ ps) [] os y are same once lent there = absurd are
  outs_run fs (param true t w ∷ ps) (a ∷ as') [] y are same once lent there = absurd are
  outs_run fs (param true t w ∷ ps) (a ∷ as') (o ∷ os) y are same once lent there =
      let next : State = record y { frames = put_in y.frames (m.name o.0) o.1 } in
      ap (λ (q : Option Typed). or_stuck q (λ v. then_get (store a.0 v y) (λ y. copied_out fs ps as' y))) are.0
      ∙ ap (λ (q : Thing). then_get (store q (typed (m.shape o.0) o.1) y) (λ y. copied_out fs ps as' y)) are.1.1
      ∙ ap (λ (q : Result State). then_get q (λ y. copied_out fs ps as' y)) (store_is (m.name o.0) (m.shape o.0) are.1.0 o.1 y (same o.0 o.1 (inl (refl, refl))) (in_found y.frames (m.name o.0) _ (own_found y.frames (m.name o.0) _ there.0.1)))
      ∙ ap (with_before []) (outs_run fs ps as' os next are.2 (λ k v is. same k v (inr is)) once.1 lent.1 (there_still os y.frames o.0 o.1 once.0 lent.0 lent.1 there.1))
  outs_run fs (param false t w ∷ ps) [] os y are same once lent there = absurd are
  outs_run fs (param false t w ∷ ps) (a ∷ as') os y are same once lent there = outs_run fs ps as' os y are same once lent there

  -- So the text is behind the call where the caller's braces have what was left.
  pub returned_is : (c : Conf) (z y : State) (ps : List Param) (as' : List Argument) (os : Outs) (r : Option Typed) → AreOuts m y.frames ps as' os → ((k : ℕ) (v : ValueTree) → IsOut k v os → same_shape (m.shape k) (m.shape k) ≡ true) → AreOnce os → AreLent m os → Agree m c z
      → returned z ps as' (r, y) ≡ got [] (r, record y { frames = puts m os z.frames })
  returned_is c z y ps as' os r are same once lent a = ap (λ (q : Result State). then_get q (λ s. got [] (r, s))) (outs_run y.frames ps as' os (record y { frames = z.frames }) are same once lent (all_there os c z lent a))

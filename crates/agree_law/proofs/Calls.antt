-- Calls keep an agreement: where a function begins, where it stores through a pointer parameter, and where its caller goes on.
use Rattle.std.proofs.Common.{◌≡◌, ◌≢◌, ℕ, true, false, List, [], ◌∷◌, Option, Some, None, inl, inr, sym, ap, ◌∙◌, subst}
use Rattle.std.proofs.lemmas.Bool.Decides.{eqb_tells}
use Rattle.spv_types.specs.Tree.{ValueTree, word}
use Rattle.module_semantics.specs.State.{Held, value, pointer, Conf}
use Rattle.module_semantics.specs.Operands.{as_value}
use Rattle.glsl_ast.specs.Tree.{Text}
use Rattle.glsl_semantics.specs.States.{Frame, State, found, has_in, put_in}
use Rattle.agree_law.specs.Own.{Own}
use Rattle.agree_law.specs.Agree.{Naming, is_named, AreApart, variable_with, value_of, IfPointer, IsFar, target_value, Agree}
use Rattle.agree_law.proofs.Owned.{own_put, own_put_other, none_put}
use Rattle.agree_law.proofs.Braces.{outer_named, variable_named, lent_named}
use Rattle.agree_law.proofs.Changes.{is_not, if_alike}

-- A call begins in braces of its own: its parameters have the values of the arguments, and all else that it names there what the module has at its first moment.
pub begins : (m : Naming) (c : Conf) (s : State) (f : Frame) → s.frames ≡ f ∷ []
    → ((n : ℕ) → m.is_outer n ≡ true → found f (m.name n) ≡ Some (variable_with (m.shape n) (value_of c n)))
    → ((n : ℕ) → m.is_variable n ≡ true → found f (m.name n) ≡ Some (variable_with (m.shape n) (c.top.variables n)))
    → ((n : ℕ) → m.is_lent n ≡ true → (o : Option ValueTree) × (found f (m.name n) ≡ Some (variable_with (m.shape n) o)) × IfPointer (c.top.ids n) (λ r path. IsFar r × (o ≡ target_value c r path)))
    → ((n : ℕ) → m.is_private n ≡ true → (found s.globals (m.name n) ≡ Some (variable_with (m.shape n) (c.privates n))) × (has_in (f ∷ []) (m.name n) ≡ false))
    → ((q k : ℕ) → m.is_kept q k ≡ true → (o : Option ValueTree) × (found f (m.index_name q k) ≡ Some (variable_with (m.index_shape q k) o)) × (c.top.ids q ≡ None))
    → ((y : Text) → m.is_outside y ≡ true → (has_in (f ∷ []) y ≡ false) × (found s.globals y ≡ None)) → Agree m c s
begins m c s f one outer variables lents privates kept outside = record {
  outer = λ n e. subst (λ fs. Own fs (m.name n) (variable_with (m.shape n) (value_of c n))) (sym one) (outer n e);
  variables = λ n e. subst (λ fs. Own fs (m.name n) (variable_with (m.shape n) (c.top.variables n))) (sym one) (variables n e);
  lents = λ n e. let l = lents n e in (l.0, subst (λ fs. Own fs (m.name n) (variable_with (m.shape n) l.0)) (sym one) l.1, l.2);
  privates = λ n e. let p = privates n e in (p.0, ap (λ fs. has_in fs (m.name n)) one ∙ p.1);
  kept = λ q k e. let i = kept q k e in (i.0, subst (λ fs. Own fs (m.index_name q k) (variable_with (m.index_shape q k) i.0)) (sym one) i.1, subst (λ h. IfPointer h (λ r path. i.0 ≡ Some (word (m.index_in q k path)))) (sym i.2) tt);
  outside = λ y e. let o = outside y e in (ap (λ fs. has_in fs y) one ∙ o.0, o.1);
}

module _ (m : Naming) (apart : AreApart m) (c : Conf) (s : State) where
  -- A store through a pointer parameter changes the variable of a call below, or one of the module that the function does not name; and what no other parameter leads to.
  pub writes : (n : ℕ) (v : ValueTree) (d : Conf) → m.is_lent n ≡ true → ((k : ℕ) → d.top.ids k ≡ c.top.ids k) → ((k : ℕ) → m.is_variable k ≡ true → d.top.variables k ≡ c.top.variables k) → ((k : ℕ) → m.is_private k ≡ true → d.privates k ≡ c.privates k)
      → IfPointer (c.top.ids n) (λ r path. target_value d r path ≡ Some v) → ((k : ℕ) → m.is_lent k ≡ true → k ≢ n → IfPointer (c.top.ids k) (λ r path. target_value d r path ≡ target_value c r path))
      → Agree m c s → Agree m d (record s { frames = put_in s.frames (m.name n) v })
  writes n v d is ids variables privates here others a = record {
    outer = λ k e. subst (λ o. Own fs (m.name k) (variable_with (m.shape k) o)) (sym (value_alike k)) (own_put_other s.frames (m.name k) (m.name n) _ v (differs k (outer_named m k e) (is_not m.is_outer k n e (apart.lents n is).0)) (a.outer k e));
    variables = λ k e. subst (λ o. Own fs (m.name k) (variable_with (m.shape k) o)) (sym (variables k e)) (own_put_other s.frames (m.name k) (m.name n) _ v (differs k (variable_named m k e) (λ same. is_not m.is_lent n k is (apart.variables k e).2 (sym same))) (a.variables k e));
    lents = λ k e. elim (eqb_tells k n) [
      | inl w ↦ own_lent k e w.1
      | inr w ↦ let l = a.lents k e in (l.0, own_put_other s.frames (m.name k) (m.name n) _ v (differs k (lent_named m k e) w.1) l.1, both (c.top.ids k) (d.top.ids k) l.0 (sym (ids k)) l.2 (others k e w.1))
    ];
    privates = λ k e. let p = a.privates k e in (p.0 ∙ ap (λ o. Some (variable_with (m.shape k) o)) (sym (privates k e)), none_put s.frames (m.name k) (m.name n) v p.1);
    kept = λ q k e. let i = a.kept q k e in (i.0, own_put_other s.frames (m.index_name q k) (m.name n) _ v (apart.both n q k (lent_named m n is) e) i.1, if_alike (c.top.ids q) (d.top.ids q) _ _ (sym (ids q)) (λ r path h. h) i.2);
    outside = λ y e. let o = a.outside y e in (none_put s.frames y (m.name n) v o.0, o.1);
  }
    where
      fs : List Frame
      fs = put_in s.frames (m.name n) v

      value_alike : (k : ℕ) → value_of d k ≡ value_of c k
      value_alike k = ap as_value (ids k)

      differs : (k : ℕ) → is_named m k ≡ true → k ≢ n → m.name n ≢ m.name k
      differs k named other same = other (sym (apart.names n k (lent_named m n is) named same))

      both : (h g : Option Held) (o : Option ValueTree) → h ≡ g → IfPointer h (λ r path. IsFar r × (o ≡ target_value c r path)) → IfPointer h (λ r path. target_value d r path ≡ target_value c r path) → IfPointer g (λ r path. IsFar r × (o ≡ target_value d r path))
      both h g o same p q = subst (λ z. IfPointer z (λ r path. IsFar r × (o ≡ target_value d r path))) same (by_held h p q)
        where
          by_held : (h : Option Held) → IfPointer h (λ r path. IsFar r × (o ≡ target_value c r path)) → IfPointer h (λ r path. target_value d r path ≡ target_value c r path) → IfPointer h (λ r path. IsFar r × (o ≡ target_value d r path))
          by_held None p q = tt
          by_held (Some (value u)) p q = tt
          by_held (Some (pointer r path)) p q = (p.0, p.1 ∙ sym q)

      now : (h g : Option Held) (o : Option ValueTree) → h ≡ g → IfPointer h (λ r path. IsFar r × (o ≡ target_value c r path)) → IfPointer h (λ r path. target_value d r path ≡ Some v) → IfPointer g (λ r path. IsFar r × (Some v ≡ target_value d r path))
      now h g o same p q = subst (λ z. IfPointer z (λ r path. IsFar r × (Some v ≡ target_value d r path))) same (by_held h p q)
        where
          by_held : (h : Option Held) → IfPointer h (λ r path. IsFar r × (o ≡ target_value c r path)) → IfPointer h (λ r path. target_value d r path ≡ Some v) → IfPointer h (λ r path. IsFar r × (Some v ≡ target_value d r path))
          by_held None p q = tt
          by_held (Some (value u)) p q = tt
          by_held (Some (pointer r path)) p q = (p.0, sym q)

      own_lent : (k : ℕ) → m.is_lent k ≡ true → k ≡ n → (o : Option ValueTree) × Own fs (m.name k) (variable_with (m.shape k) o) × IfPointer (d.top.ids k) (λ r path. IsFar r × (o ≡ target_value d r path))
      own_lent k e same =
          let l = a.lents k e in
          (Some v, subst (λ z. Own (put_in s.frames (m.name z) v) (m.name k) (variable_with (m.shape k) (Some v))) same (own_put s.frames (m.name k) _ v l.1), now (c.top.ids k) (d.top.ids k) l.0 (sym (ids k)) l.2 (subst (λ z. IfPointer (c.top.ids z) (λ r path. target_value d r path ≡ Some v)) (sym same) here))

  -- Behind a call its caller has its own braces again, and the Private variables as the call left them; what was lent is then copied back, as stores do it.
  pub goes_on : (q : ℕ → Option ValueTree) (g : Frame) → ((n : ℕ) → m.is_private n ≡ true → found g (m.name n) ≡ Some (variable_with (m.shape n) (q n))) → ((k : ℕ) → m.is_lent k ≡ true → IfPointer (c.top.ids k) (λ r path. target_value (record c { privates = q }) r path ≡ target_value c r path))
      → ((y : Text) → m.is_outside y ≡ true → found g y ≡ None) → Agree m c s → Agree m (record c { privates = q }) (record s { globals = g })
  goes_on q g now alike hidden a = record {
    outer = a.outer;
    variables = a.variables;
    lents = λ k e. let l = a.lents k e in (l.0, l.1, far (c.top.ids k) l.0 l.2 (alike k e));
    privates = λ k e. (now k e, (a.privates k e).1);
    kept = a.kept;
    outside = λ y e. ((a.outside y e).0, hidden y e);
  }
    where
      far : (h : Option Held) (o : Option ValueTree) → IfPointer h (λ r path. IsFar r × (o ≡ target_value c r path)) → IfPointer h (λ r path. target_value (record c { privates = q }) r path ≡ target_value c r path) → IfPointer h (λ r path. IsFar r × (o ≡ target_value (record c { privates = q }) r path))
      far None o p e = tt
      far (Some (value u)) o p e = tt
      far (Some (pointer r path)) o p e = (p.0, p.1 ∙ sym e)

-- The changes that single instructions make on both sides keep an agreement.
use Rattle.std.proofs.Common.{◌≡◌, ◌≢◌, ◌==◌, ℕ, Bool, true, false, List, Option, Some, None, ◌⊎◌, inl, inr, refl, sym, ap, ◌∙◌, subst}
use Rattle.std.proofs.lemmas.Bool.Decides.{eqb_tells}
use Rattle.spv_module.specs.declared.inst.Inst.{Inst}
use Rattle.spv_types.specs.Tree.{ValueTree, word}
use Rattle.module_semantics.specs.State.{Root, global, own, lent, Held, value, pointer, Conf, put, with_top}
use Rattle.module_semantics.specs.Operands.{as_value}
use Rattle.glsl_ast.specs.Tree.{Text}
use Rattle.glsl_semantics.specs.States.{Variable, State, found, put_first, put_in, declared}
use Rattle.region_law.proofs.Flags.{found_put_first, other_put_first}
use Rattle.agree_law.specs.Own.{Own}
use Rattle.agree_law.specs.Agree.{Naming, is_named, AreApart, variable_with, value_of, IfPointer, IsFar, target_value, Agree}
use Rattle.agree_law.proofs.Owned.{own_put, own_put_other, own_declared, none_put, none_declared}
use Rattle.agree_law.proofs.Braces.{outer_named, local_named, variable_named, lent_named, private_named}

pub put_same : {A : Type 0} (f : ℕ → Option A) (n : ℕ) (a : A) → put f n a n ≡ Some a
put_same {A} f n a =
    let on : (n == n) ≡ true = elim (eqb_tells n n) [ inl w ↦ w.0 | inr w ↦ absurd (w.1 refl) ] in
    ap (λ (b : Bool). elim b as (λ b. Option A) [ true ↦ Some a | false ↦ f n ]) on

pub put_other : {A : Type 0} (f : ℕ → Option A) (n k : ℕ) (a : A) → k ≢ n → put f n a k ≡ f k
put_other {A} f n k a apart =
    let off : (k == n) ≡ false = elim (eqb_tells k n) [ inl w ↦ absurd (apart w.1) | inr w ↦ w.0 ] in
    ap (λ (b : Bool). elim b as (λ b. Option A) [ true ↦ Some a | false ↦ f k ]) off

-- an id with a value, behind an instruction
abbrev pub with_id : Conf → List Inst → (ℕ → Option Held) → Conf
with_id c rest ids = with_top c (record c.top { rest = rest; ids = ids })

abbrev pub with_put : Conf → List Inst → ℕ → ValueTree → Conf
with_put c rest n v = with_id c rest (put c.top.ids n (value v))

pub is_not : (f : ℕ → Bool) (a b : ℕ) → f a ≡ true → f b ≡ false → a ≢ b
is_not f a b on off same = let never : true ≡ false = sym on ∙ (ap f same ∙ off) in cc

same_target : (c : Conf) (rest : List Inst) (ids : ℕ → Option Held) (r : Root) (path : List ℕ) → target_value (with_id c rest ids) r path ≡ target_value c r path
same_target c rest ids (global id) path = refl
same_target c rest ids (own id) path = refl
same_target c rest ids (lent depth id) path = refl

-- what is asked of a pointer, of what is there
pub if_alike : (o q : Option Held) (P Q : Root → List ℕ → Type 0) → o ≡ q → ((r : Root) (path : List ℕ) → P r path → Q r path) → IfPointer o P → IfPointer q Q
if_alike o None P Q same more is = tt
if_alike o (Some (value v)) P Q same more is = tt
if_alike o (Some (pointer r path)) P Q same more is = more r path (subst (λ h. IfPointer h P) same is)

no_pointer : (o : Option Held) (v : ValueTree) (Q : Root → List ℕ → Type 0) → o ≡ Some (value v) → IfPointer o Q
no_pointer o v Q same = subst (λ h. IfPointer h Q) (sym same) tt

module _ (m : Naming) (apart : AreApart m) (c : Conf) (s : State) (rest : List Inst) where
  -- what pointer parameters stand for, where another id gets a value
  far_alike : (n k : ℕ) (v : ValueTree) (o : Option ValueTree) → k ≢ n → IfPointer (c.top.ids k) (λ r path. IsFar r × (o ≡ target_value c r path)) → IfPointer ((with_put c rest n v).top.ids k) (λ r path. IsFar r × (o ≡ target_value (with_put c rest n v) r path))
  far_alike n k v o other is =
      if_alike (c.top.ids k) ((with_put c rest n v).top.ids k) _ _ (sym (put_other c.top.ids n k (value v) other))
      (λ r path h. (h.0, h.1 ∙ sym (same_target c rest (put c.top.ids n (value v)) r path))) is

  -- and the kept indexes of chains
  index_alike : (n q k : ℕ) (v : ValueTree) (o : Option ValueTree) → IfPointer (c.top.ids q) (λ r path. o ≡ Some (word (m.index_in q k path))) → IfPointer ((with_put c rest n v).top.ids q) (λ r path. o ≡ Some (word (m.index_in q k path)))
  index_alike n q k v o is = elim (eqb_tells q n) [
    | inl w ↦ no_pointer ((with_put c rest n v).top.ids q) v _ (ap (put c.top.ids n (value v)) w.1 ∙ put_same c.top.ids n (value v))
    | inr w ↦ if_alike (c.top.ids q) ((with_put c rest n v).top.ids q) _ _ (sym (put_other c.top.ids n q (value v) w.1)) (λ r path h. h) is
  ]

  pub value_same : (n : ℕ) (v : ValueTree) → value_of (with_put c rest n v) n ≡ Some v
  value_same n v = ap as_value (put_same c.top.ids n (value v))

  pub value_other : (n k : ℕ) (v : ValueTree) → k ≢ n → value_of (with_put c rest n v) k ≡ value_of c k
  value_other n k v other = ap as_value (put_other c.top.ids n k (value v) other)

  -- a value with a variable at the top of the function is assigned
  pub assigns : (n : ℕ) (v : ValueTree) → m.is_outer n ≡ true → Agree m c s → Agree m (with_put c rest n v) (record s { frames = put_in s.frames (m.name n) v })
  assigns n v is a = record {
    outer = λ k e. elim (eqb_tells k n) [
      | inl w ↦ subst (λ o. Own (put_in s.frames (m.name n) v) (m.name k) (variable_with (m.shape k) o)) (sym (ap (value_of (with_put c rest n v)) w.1 ∙ value_same n v)) (here k w.1 e)
      | inr w ↦ subst (λ o. Own (put_in s.frames (m.name n) v) (m.name k) (variable_with (m.shape k) o)) (sym (value_other n k v w.1)) (own_put_other s.frames (m.name k) (m.name n) _ v (differs k (outer_named m k e) w.1) (a.outer k e))
    ];
    variables = λ k e. own_put_other s.frames (m.name k) (m.name n) _ v (differs k (variable_named m k e) (λ same. is_not m.is_outer n k is (apart.variables k e).0 (sym same))) (a.variables k e);
    lents = λ k e.
        let l = a.lents k e in
        let other : k ≢ n = λ same. is_not m.is_outer n k is (apart.lents k e).0 (sym same) in
        (l.0, own_put_other s.frames (m.name k) (m.name n) _ v (differs k (lent_named m k e) other) l.1, far_alike n k v l.0 other l.2);
    privates = λ k e. let p = a.privates k e in (p.0, none_put s.frames (m.name k) (m.name n) v p.1);
    kept = λ q k e. let i = a.kept q k e in (i.0, own_put_other s.frames (m.index_name q k) (m.name n) _ v (apart.both n q k (outer_named m n is) e) i.1, index_alike n q k v i.0 i.2);
    outside = λ y e. let o = a.outside y e in (none_put s.frames y (m.name n) v o.0, o.1);
  }
    where
      differs : (k : ℕ) → is_named m k ≡ true → k ≢ n → m.name n ≢ m.name k
      differs k named other same = other (sym (apart.names n k (outer_named m n is) named same))

      here : (k : ℕ) → k ≡ n → m.is_outer k ≡ true → Own (put_in s.frames (m.name n) v) (m.name k) (variable_with (m.shape k) (Some v))
      here k same e = subst (λ q. Own (put_in s.frames (m.name q) v) (m.name k) (variable_with (m.shape k) (Some v))) same (own_put s.frames (m.name k) _ v (a.outer k e))

  -- one with a variable in its block is declared
  pub declares_value : (n : ℕ) (v : ValueTree) → m.is_local n ≡ true → Agree m c s → Agree m (with_put c rest n v) (record s { frames = declared s.frames (m.name n) (variable_with (m.shape n) (Some v)) })
  declares_value n v is a = record {
    outer = λ k e.
        let other : k ≢ n = is_local_not k (apart.once k e) in
        subst (λ o. Own (declared s.frames (m.name n) u) (m.name k) (variable_with (m.shape k) o)) (sym (value_other n k v other)) (own_declared s.frames (m.name k) (m.name n) _ u (differs k (outer_named m k e) other) (a.outer k e));
    variables = λ k e. own_declared s.frames (m.name k) (m.name n) _ u (differs k (variable_named m k e) (is_local_not k (apart.variables k e).1)) (a.variables k e);
    lents = λ k e.
        let l = a.lents k e in
        let other : k ≢ n = is_local_not k (apart.lents k e).1 in
        (l.0, own_declared s.frames (m.name k) (m.name n) _ u (differs k (lent_named m k e) other) l.1, far_alike n k v l.0 other l.2);
    privates = λ k e. let p = a.privates k e in (p.0, none_declared s.frames (m.name k) (m.name n) u (differs k (private_named m k e) (is_local_not k (apart.privates k e).1)) p.1);
    kept = λ q k e. let i = a.kept q k e in (i.0, own_declared s.frames (m.index_name q k) (m.name n) _ u (apart.both n q k (local_named m n is) e) i.1, index_alike n q k v i.0 i.2);
    outside = λ y e. let o = a.outside y e in (none_declared s.frames y (m.name n) u ((apart.outside y e).0 n (local_named m n is)) o.0, o.1);
  }
    where
      u : Variable
      u = variable_with (m.shape n) (Some v)

      is_local_not : (k : ℕ) → m.is_local k ≡ false → k ≢ n
      is_local_not k off same = is_not m.is_local n k is off (sym same)

      differs : (k : ℕ) → is_named m k ≡ true → k ≢ n → m.name n ≢ m.name k
      differs k named other same = other (sym (apart.names n k (local_named m n is) named same))

  -- one that stands in other expressions, or is gone, changes nothing in the text
  pub forwards : (n : ℕ) (v : ValueTree) → m.is_outer n ≡ false → m.is_lent n ≡ false → Agree m c s → Agree m (with_put c rest n v) s
  forwards n v outer far a = record {
    outer = λ k e. subst (λ o. Own s.frames (m.name k) (variable_with (m.shape k) o)) (sym (value_other n k v (is_not m.is_outer k n e outer))) (a.outer k e);
    variables = a.variables;
    lents = λ k e. let l = a.lents k e in (l.0, l.1, far_alike n k v l.0 (is_not m.is_lent k n e far) l.2);
    privates = a.privates;
    kept = λ q k e. let i = a.kept q k e in (i.0, i.1, index_alike n q k v i.0 i.2);
    outside = a.outside;
  }

  -- a Function variable is stored to
  pub stores : (n : ℕ) (v : ValueTree) → m.is_variable n ≡ true → Agree m c s → Agree m (with_top c (record c.top { rest = rest; variables = put c.top.variables n v })) (record s { frames = put_in s.frames (m.name n) v })
  stores n v is a = record {
    outer = λ k e. own_put_other s.frames (m.name k) (m.name n) _ v (differs k (outer_named m k e) (is_not m.is_outer k n e (apart.variables n is).0)) (a.outer k e);
    variables = λ k e. elim (eqb_tells k n) [
      | inl w ↦ subst (λ o. Own (put_in s.frames (m.name n) v) (m.name k) (variable_with (m.shape k) o)) (sym (ap (put c.top.variables n v) w.1 ∙ put_same c.top.variables n v)) (here k w.1 e)
      | inr w ↦ subst (λ o. Own (put_in s.frames (m.name n) v) (m.name k) (variable_with (m.shape k) o)) (sym (put_other c.top.variables n k v w.1)) (own_put_other s.frames (m.name k) (m.name n) _ v (differs k (variable_named m k e) w.1) (a.variables k e))
    ];
    lents = λ k e.
        let l = a.lents k e in
        (l.0, own_put_other s.frames (m.name k) (m.name n) _ v (differs k (lent_named m k e) (is_not m.is_lent k n e (apart.variables n is).2)) l.1, if_alike (c.top.ids k) (c.top.ids k) _ _ refl (λ r path h. (h.0, h.1 ∙ far_target r path h.0)) l.2);
    privates = λ k e. let p = a.privates k e in (p.0, none_put s.frames (m.name k) (m.name n) v p.1);
    kept = λ q k e. let i = a.kept q k e in (i.0, own_put_other s.frames (m.index_name q k) (m.name n) _ v (apart.both n q k (variable_named m n is) e) i.1, i.2);
    outside = λ y e. let o = a.outside y e in (none_put s.frames y (m.name n) v o.0, o.1);
  }
    where
      differs : (k : ℕ) → is_named m k ≡ true → k ≢ n → m.name n ≢ m.name k
      differs k named other same = other (sym (apart.names n k (variable_named m n is) named same))

      here : (k : ℕ) → k ≡ n → m.is_variable k ≡ true → Own (put_in s.frames (m.name n) v) (m.name k) (variable_with (m.shape k) (Some v))
      here k same e = subst (λ q. Own (put_in s.frames (m.name q) v) (m.name k) (variable_with (m.shape k) (Some v))) same (own_put s.frames (m.name k) _ v (a.variables k e))

      far_target : (r : Root) (path : List ℕ) → IsFar r → target_value c r path ≡ target_value (with_top c (record c.top { rest = rest; variables = put c.top.variables n v })) r path
      far_target (global id) path far = refl
      far_target (own id) path far = absurd far
      far_target (lent depth id) path far = refl

  -- a Private variable is stored to, to which no pointer parameter leads
  pub stores_private : (n : ℕ) (v : ValueTree) (d : Conf) → m.is_private n ≡ true → d.top.ids ≡ c.top.ids → d.top.variables ≡ c.top.variables → d.privates ≡ put c.privates n v
      → ((k : ℕ) → m.is_lent k ≡ true → IfPointer (c.top.ids k) (λ r path. target_value d r path ≡ target_value c r path)) → Agree m c s → Agree m d (record s { globals = put_first s.globals (m.name n) v })
  stores_private n v d is ids variables privates others a = record {
    outer = λ k e. subst (λ (q : ℕ → Option Held). Own s.frames (m.name k) (variable_with (m.shape k) (as_value (q k)))) (sym ids) (a.outer k e);
    variables = λ k e. subst (λ (q : ℕ → Option ValueTree). Own s.frames (m.name k) (variable_with (m.shape k) (q k))) (sym variables) (a.variables k e);
    lents = λ k e. let l = a.lents k e in (l.0, l.1, subst (λ (q : ℕ → Option Held). IfPointer (q k) (λ r path. IsFar r × (l.0 ≡ target_value d r path))) (sym ids) (both (c.top.ids k) l.0 l.2 (others k e)));
    privates = λ k e. (
      (elim (eqb_tells k n) [
        | inl w ↦ own_private k e w.1
        | inr w ↦ other_put_first s.globals (m.name n) (m.name k) v (λ same. w.1 (sym (apart.names n k (private_named m n is) (private_named m k e) same))) ∙ (a.privates k e).0 ∙ ap (λ (o : Option ValueTree). Some (variable_with (m.shape k) o)) (sym (ap (λ (q : ℕ → Option ValueTree). q k) privates ∙ put_other c.privates n k v w.1))
      ]),
      (a.privates k e).1,
    );
    kept = λ q k e. let i = a.kept q k e in (i.0, i.1, subst (λ (o : ℕ → Option Held). IfPointer (o q) (λ r path. i.0 ≡ Some (word (m.index_in q k path)))) (sym ids) i.2);
    outside = λ y e. let o = a.outside y e in (o.0, other_put_first s.globals (m.name n) y v ((apart.outside y e).0 n (private_named m n is)) ∙ o.1);
  }
    where
      both : (h : Option Held) (o : Option ValueTree) → IfPointer h (λ r path. IsFar r × (o ≡ target_value c r path)) → IfPointer h (λ r path. target_value d r path ≡ target_value c r path) → IfPointer h (λ r path. IsFar r × (o ≡ target_value d r path))
      both None o l q = tt
      both (Some (value u)) o l q = tt
      both (Some (pointer r path)) o l q = (l.0, l.1 ∙ sym q)

      own_private : (k : ℕ) → m.is_private k ≡ true → k ≡ n → found (put_first s.globals (m.name n) v) (m.name k) ≡ Some (variable_with (m.shape k) (d.privates k))
      own_private k e same =
          subst (λ j. found (put_first s.globals (m.name j) v) (m.name k) ≡ Some (variable_with (m.shape k) (d.privates k))) same
          (found_put_first s.globals (m.name k) (variable_with (m.shape k) (c.privates k)) v (a.privates k e).0 ∙ ap (λ (o : Option ValueTree). Some (variable_with (m.shape k) o)) (sym (ap (λ (q : ℕ → Option ValueTree). q k) privates ∙ ap (put c.privates n v) same ∙ put_same c.privates n v)))

  -- A chain is set: first it leads nowhere, and neither do those based on it; then its indexes are kept one by one; then it leads where they say.
  pub forgets : (ids : ℕ → Option Held) → ((k : ℕ) → (ids k ≡ c.top.ids k) ⊎ ((ids k ≡ None) × (m.is_outer k ≡ false))) → Agree m c s → Agree m (with_id c rest ids) s
  forgets ids less a = record {
    outer = λ k e. elim (less k) [
      | inl same ↦ subst (λ o. Own s.frames (m.name k) (variable_with (m.shape k) o)) (ap as_value (sym same)) (a.outer k e)
      | inr none ↦ (let never : true ≡ false = sym e ∙ none.1 in cc)
    ];
    variables = a.variables;
    lents = λ k e. let l = a.lents k e in (
      l.0,
      l.1,
      elim (less k) [
        | inl same ↦ if_alike (c.top.ids k) (ids k) _ _ (sym same) (λ r path h. (h.0, h.1 ∙ sym (same_target c rest ids r path))) l.2
        | inr none ↦ subst (λ h. IfPointer h (λ r path. IsFar r × (l.0 ≡ target_value (with_id c rest ids) r path))) (sym none.0) tt
      ],
    );
    privates = a.privates;
    kept = λ q k e. let i = a.kept q k e in (
      i.0,
      i.1,
      elim (less q) [
        | inl same ↦ if_alike (c.top.ids q) (ids q) _ _ (sym same) (λ r path h. h) i.2
        | inr none ↦ subst (λ h. IfPointer h (λ r path. i.0 ≡ Some (word (m.index_in q k path)))) (sym none.0) tt
      ],
    );
    outside = a.outside;
  }

  pub keeps_index : (q k i : ℕ) → m.is_kept q k ≡ true → c.top.ids q ≡ None → Agree m c s → Agree m c (record s { frames = put_in s.frames (m.index_name q k) (word i) })
  keeps_index q k i is none a = record {
    outer = λ n e. own_put_other s.frames (m.name n) x _ (word i) (differs n (outer_named m n e)) (a.outer n e);
    variables = λ n e. own_put_other s.frames (m.name n) x _ (word i) (differs n (variable_named m n e)) (a.variables n e);
    lents = λ n e. let l = a.lents n e in (l.0, own_put_other s.frames (m.name n) x _ (word i) (differs n (lent_named m n e)) l.1, l.2);
    privates = λ n e. let p = a.privates n e in (p.0, none_put s.frames (m.name n) x (word i) p.1);
    kept = λ r l e. elim (eqb_tells r q) [
      | inl w ↦ own_index r l e w.1
      | inr w ↦ let old = a.kept r l e in (old.0, own_put_other s.frames (m.index_name r l) x _ (word i) (λ same. w.1 (sym (apart.indexes q k r l is e same).0)) old.1, old.2)
    ];
    outside = λ y e. let o = a.outside y e in (none_put s.frames y x (word i) o.0, o.1);
  }
    where
      x : Text
      x = m.index_name q k

      differs : (n : ℕ) → is_named m n ≡ true → x ≢ m.name n
      differs n named same = apart.both n q k named is (sym same)

      nowhere : (r : ℕ) → r ≡ q → (P : Root → List ℕ → Type 0) → IfPointer (c.top.ids r) P
      nowhere r same P = subst (λ h. IfPointer h P) (sym (ap c.top.ids same ∙ none)) tt

      own_index : (r l : ℕ) → m.is_kept r l ≡ true → r ≡ q → (o : Option ValueTree) × Own (put_in s.frames x (word i)) (m.index_name r l) (variable_with (m.index_shape r l) o) × IfPointer (c.top.ids r) (λ _ path. o ≡ Some (word (m.index_in r l path)))
      own_index r l e same = elim (eqb_tells l k) [
        | inl w ↦
            let old = a.kept r l e in
            let name : m.index_name r l ≡ x = ap (λ n. m.index_name n l) same ∙ ap (m.index_name q) w.1 in
            (Some (word i), subst (λ y. Own (put_in s.frames y (word i)) (m.index_name r l) (variable_with (m.index_shape r l) (Some (word i)))) name (own_put s.frames (m.index_name r l) _ (word i) old.1), nowhere r same _)
        | inr w ↦
            let old = a.kept r l e in
            (old.0, own_put_other s.frames (m.index_name r l) x _ (word i) (λ y. w.1 (sym (apart.indexes q k r l is e y).1)) old.1, nowhere r same _)
      ]

  pub leads : (q : ℕ) (r : Root) (path : List ℕ) → m.is_outer q ≡ false → m.is_lent q ≡ false → ((k : ℕ) → m.is_kept q k ≡ true → Own s.frames (m.index_name q k) (variable_with (m.index_shape q k) (Some (word (m.index_in q k path)))))
      → Agree m c s → Agree m (with_id c rest (put c.top.ids q (pointer r path))) s
  leads q r path outer far own_indexes a = record {
    outer = λ k e. subst (λ o. Own s.frames (m.name k) (variable_with (m.shape k) o)) (ap as_value (sym (put_other c.top.ids q k (pointer r path) (is_not m.is_outer k q e outer)))) (a.outer k e);
    variables = a.variables;
    lents = λ k e. let l = a.lents k e in
        (l.0, l.1, if_alike (c.top.ids k) (put c.top.ids q (pointer r path) k) _ _ (sym (put_other c.top.ids q k (pointer r path) (is_not m.is_lent k q e far))) (λ z y h. (h.0, h.1 ∙ sym (same_target c rest (put c.top.ids q (pointer r path)) z y))) l.2);
    privates = a.privates;
    kept = λ n k e. elim (eqb_tells n q) [
      | inl w ↦ here n k e w.1
      | inr w ↦ let i = a.kept n k e in (i.0, i.1, if_alike (c.top.ids n) (put c.top.ids q (pointer r path) n) _ _ (sym (put_other c.top.ids q n (pointer r path) w.1)) (λ z y h. h) i.2)
    ];
    outside = a.outside;
  }
    where
      here : (n k : ℕ) → m.is_kept n k ≡ true → n ≡ q → (o : Option ValueTree) × Own s.frames (m.index_name n k) (variable_with (m.index_shape n k) o) × IfPointer (put c.top.ids q (pointer r path) n) (λ _ y. o ≡ Some (word (m.index_in n k y)))
      here n k e same =
          let at : put c.top.ids q (pointer r path) n ≡ Some (pointer r path) = ap (put c.top.ids q (pointer r path)) same ∙ put_same c.top.ids q (pointer r path) in
          (Some (word (m.index_in n k path)), subst (λ z. Own s.frames (m.index_name z k) (variable_with (m.index_shape z k) (Some (word (m.index_in z k path))))) (sym same) (own_indexes k (subst (λ z. m.is_kept z k ≡ true) same e)), subst (λ h. IfPointer h (λ _ y. Some (word (m.index_in n k path)) ≡ Some (word (m.index_in n k y)))) (sym at) refl)

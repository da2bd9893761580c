-- The variables of braces.
use Rattle.std.proofs.Common.{◌≡◌, ◌≢◌, Bool, true, false, List, [], ◌∷◌, drop, bytes_eq, Option, Some, None, refl, sym, ap, ◌∙◌, subst}
use Rattle.std.proofs.lemmas.Slice.Eq.{bytes_eq-Decides}
use Rattle.std.proofs.lemmas.Bool.{false_from_ne_true}
use Rattle.spv_types.specs.Tree.{ValueTree}
use Rattle.glsl_ast.specs.Tree.{Text}
use Rattle.glsl_semantics.specs.States.{Variable, Frame, State, found, has, or_outer, found_in, has_in, put_first, put_in, declared, popped}
pub use Rattle.list_law.proofs.Lists.{same_bytes as own_text}

pub same_text : (x y : Text) → bytes_eq x y ≡ true → x ≡ y
same_text x y e = (bytes_eq-Decides x y).0 e

pub other_text : (x y : Text) → x ≢ y → bytes_eq x y ≡ false
other_text x y ne = false_from_ne_true (bytes_eq x y) (λ e. ne (same_text x y e))

-- the innermost braces have the name
abbrev pub top_has : List Frame → Text → Bool
top_has [] x = false
top_has (f ∷ fs) x = has f x

pub none_found : (f : Frame) (x : Text) → has f x ≡ false → found f x ≡ None
none_found [] x e = refl
none_found (b ∷ bs) x e = by_test (bytes_eq b.0 x) (none_found bs x) e
  where
    by_test : (t : Bool) → (has bs x ≡ false → found bs x ≡ None) → elim t [ true ↦ true | false ↦ has bs x ] ≡ false → elim t as (λ q. Option Variable) [ true ↦ Some b.1 | false ↦ found bs x ] ≡ None
    by_test true ih e = cc
    by_test false ih e = ih e

pub found_popped : (s : State) (x : Text) → top_has s.frames x ≡ false → found_in (popped s).frames x ≡ found_in s.frames x
found_popped s x e = by_list s.frames e
  where
    by_list : (fs : List Frame) → top_has fs x ≡ false → found_in (drop 1 fs) x ≡ found_in fs x
    by_list [] e = refl
    by_list (f ∷ fs) e = sym (ap (λ o. or_outer o (found_in fs x)) (none_found f x e))

pub found_declared : (fs : List Frame) (x : Text) (v : Variable) → found_in (declared fs x v) x ≡ Some v
found_declared [] x v = rw (own_text x, found) refl
found_declared (f ∷ fs) x v = rw (own_text x, found) refl

pub other_declared : (fs : List Frame) (x y : Text) (v : Variable) → x ≢ y → found_in (declared fs x v) y ≡ found_in fs y
other_declared [] x y v ne = rw (other_text x y ne, found) refl
other_declared (f ∷ fs) x y v ne = rw (other_text x y ne, found) refl

pub top_declared : (fs : List Frame) (x y : Text) (v : Variable) → x ≢ y → top_has (declared fs x v) y ≡ top_has fs y
top_declared [] x y v ne = rw (other_text x y ne, has) refl
top_declared (f ∷ fs) x y v ne = rw (other_text x y ne, has) refl

pub found_put_first : (f : Frame) (x : Text) (o : Variable) (v : ValueTree) → found f x ≡ Some o → found (put_first f x v) x ≡ Some (record o { value = Some v })
found_put_first [] x o v e = cc
found_put_first (b ∷ bs) x o v e = by_test (bytes_eq b.0 x) refl (found_put_first bs x o v) e
  where
    by_test : (t : Bool) → bytes_eq b.0 x ≡ t → (found bs x ≡ Some o → found (put_first bs x v) x ≡ Some (record o { value = Some v })) → elim t as (λ q. Option Variable) [ true ↦ Some b.1 | false ↦ found bs x ] ≡ Some o → found (elim t as (λ q. Frame) [ true ↦ (b.0, record b.1 { value = Some v }) ∷ bs | false ↦ b ∷ put_first bs x v ]) x ≡ Some (record o { value = Some v })
    by_test true is ih e = let same : b.1 ≡ o = cc in rw (is, found) (ap (λ (y : Variable). Some (record y { value = Some v })) same)
    by_test false is ih e = rw (is, found) (ih e)

pub other_put_first : (f : Frame) (x y : Text) (v : ValueTree) → x ≢ y → found (put_first f x v) y ≡ found f y
other_put_first [] x y v ne = refl
other_put_first (b ∷ bs) x y v ne = by_test (bytes_eq b.0 x) refl (other_put_first bs x y v ne)
  where
    by_test : (t : Bool) → bytes_eq b.0 x ≡ t → found (put_first bs x v) y ≡ found bs y → found (elim t as (λ q. Frame) [ true ↦ (b.0, record b.1 { value = Some v }) ∷ bs | false ↦ b ∷ put_first bs x v ]) y ≡ found (b ∷ bs) y
    by_test true is ih = let no : bytes_eq b.0 y ≡ false = other_text b.0 y (λ e. ne (sym (same_text b.0 x is) ∙ e)) in rw (no, found) refl
    by_test false is ih = ap (λ o. elim (bytes_eq b.0 y) as (λ q. Option Variable) [ true ↦ Some b.1 | false ↦ o ]) ih

pub same_has_first : (f : Frame) (x y : Text) (v : ValueTree) → has (put_first f x v) y ≡ has f y
same_has_first [] x y v = refl
same_has_first (b ∷ bs) x y v = by_test (bytes_eq b.0 x) (same_has_first bs x y v)
  where
    by_test : (t : Bool) → has (put_first bs x v) y ≡ has bs y → has (elim t as (λ q. Frame) [ true ↦ (b.0, record b.1 { value = Some v }) ∷ bs | false ↦ b ∷ put_first bs x v ]) y ≡ has (b ∷ bs) y
    by_test true ih = refl
    by_test false ih = ap (λ o. elim (bytes_eq b.0 y) [ true ↦ true | false ↦ o ]) ih

found_first : (f : Frame) (fs : List Frame) (x : Text) (o : Variable) → has f x ≡ true → or_outer (found f x) (found_in fs x) ≡ Some o → found f x ≡ Some o
found_first [] fs x o h e = cc
found_first (b ∷ bs) fs x o h e = by_test (bytes_eq b.0 x) (found_first bs fs x o) h e
  where
    by_test : (t : Bool) → (has bs x ≡ true → or_outer (found bs x) (found_in fs x) ≡ Some o → found bs x ≡ Some o) → elim t [ true ↦ true | false ↦ has bs x ] ≡ true → or_outer (elim t as (λ q. Option Variable) [ true ↦ Some b.1 | false ↦ found bs x ]) (found_in fs x) ≡ Some o → elim t as (λ q. Option Variable) [ true ↦ Some b.1 | false ↦ found bs x ] ≡ Some o
    by_test true ih h e = e
    by_test false ih h e = ih h e

pub found_put : (fs : List Frame) (x : Text) (o : Variable) (v : ValueTree) → found_in fs x ≡ Some o → found_in (put_in fs x v) x ≡ Some (record o { value = Some v })
found_put [] x o v e = cc
found_put (f ∷ fs) x o v e = by_test (has f x) refl (found_put fs x o v) e
  where
    by_test : (t : Bool) → has f x ≡ t → (found_in fs x ≡ Some o → found_in (put_in fs x v) x ≡ Some (record o { value = Some v })) → or_outer (found f x) (found_in fs x) ≡ Some o → found_in (elim t as (λ q. List Frame) [ true ↦ put_first f x v ∷ fs | false ↦ f ∷ put_in fs x v ]) x ≡ Some (record o { value = Some v })
    by_test true is ih e = ap (λ q. or_outer q (found_in fs x)) (found_put_first f x o v (found_first f fs x o is e))
    by_test false is ih e = let no = none_found f x is in rw no (ih (subst (λ q. or_outer q (found_in fs x) ≡ Some o) no e))

-- a name that is found is in some braces
pub in_found : (fs : List Frame) (x : Text) (o : Variable) → found_in fs x ≡ Some o → has_in fs x ≡ true
in_found [] x o e = cc
in_found (f ∷ fs) x o e = by_test (has f x) refl (in_found fs x o)
  where
    by_test : (t : Bool) → has f x ≡ t → (found_in fs x ≡ Some o → has_in fs x ≡ true) → elim t [ true ↦ true | false ↦ has_in fs x ] ≡ true
    by_test true is ih = refl
    by_test false is ih = ih (subst (λ q. or_outer q (found_in fs x) ≡ Some o) (none_found f x is) e)

pub other_put : (fs : List Frame) (x y : Text) (v : ValueTree) → x ≢ y → found_in (put_in fs x v) y ≡ found_in fs y
other_put [] x y v ne = refl
other_put (f ∷ fs) x y v ne = by_test (has f x) (other_put fs x y v ne)
  where
    by_test : (t : Bool) → found_in (put_in fs x v) y ≡ found_in fs y → found_in (elim t as (λ q. List Frame) [ true ↦ put_first f x v ∷ fs | false ↦ f ∷ put_in fs x v ]) y ≡ found_in (f ∷ fs) y
    by_test true ih = ap (λ q. or_outer q (found_in fs y)) (other_put_first f x y v ne)
    by_test false ih = ap (λ q. or_outer (found f y) q) ih

pub top_put : (fs : List Frame) (x y : Text) (v : ValueTree) → top_has (put_in fs x v) y ≡ top_has fs y
top_put [] x y v = refl
top_put (f ∷ fs) x y v = by_test (has f x)
  where
    by_test : (t : Bool) → top_has (elim t as (λ q. List Frame) [ true ↦ put_first f x v ∷ fs | false ↦ f ∷ put_in fs x v ]) y ≡ has f y
    by_test true = same_has_first f x y v
    by_test false = refl

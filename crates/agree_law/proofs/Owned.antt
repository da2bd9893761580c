-- What braces, declarations and assignments do to a variable that stands in the function's own braces.
use Rattle.std.proofs.Common.{◌≡◌, ◌≢◌, Bool, true, false, List, [], ◌∷◌, bytes_eq, Option, Some, refl, ap, ◌∙◌}
use Rattle.spv_types.specs.Tree.{ValueTree}
use Rattle.glsl_ast.specs.Tree.{Text}
use Rattle.glsl_semantics.specs.States.{Variable, Frame, found, has, found_in, has_in, put_first, put_in, declared}
use Rattle.region_law.proofs.Flags.{other_text, none_found, found_put_first, other_put_first, same_has_first}
use Rattle.agree_law.specs.Own.{Own}

pub own_found : (fs : List Frame) (x : Text) (v : Variable) → Own fs x v → found_in fs x ≡ Some v
own_found [] x v h = absurd h
own_found (f ∷ []) x v h = rw h refl
own_found (f ∷ g ∷ fs) x v h = rw (none_found f x h.0, found_in) (own_found (g ∷ fs) x v h.1)

pub own_push : (fs : List Frame) (x : Text) (v : Variable) → Own fs x v → Own ([] ∷ fs) x v
own_push [] x v h = absurd h
own_push (f ∷ fs) x v h = (refl, h)

pub own_pop : (f g : Frame) (fs : List Frame) (x : Text) (v : Variable) → Own (f ∷ g ∷ fs) x v → Own (g ∷ fs) x v
own_pop f g fs x v h = h.1

pub own_declared : (fs : List Frame) (x y : Text) (v u : Variable) → y ≢ x → Own fs x v → Own (declared fs y u) x v
own_declared [] x y v u ne h = absurd h
own_declared (f ∷ []) x y v u ne h = rw (other_text y x ne, found) h
own_declared (f ∷ g ∷ fs) x y v u ne h = (rw (other_text y x ne, has) h.0, h.1)

pub own_put_other : (fs : List Frame) (x y : Text) (v : Variable) (u : ValueTree) → y ≢ x → Own fs x v → Own (put_in fs y u) x v
own_put_other [] x y v u ne h = absurd h
own_put_other (f ∷ []) x y v u ne h = by_test (has f y)
  where
    by_test : (t : Bool) → Own (elim t as (λ q. List Frame) [ true ↦ put_first f y u ∷ [] | false ↦ f ∷ [] ]) x v
    by_test true = other_put_first f y x u ne ∙ h
    by_test false = h
own_put_other (f ∷ g ∷ fs) x y v u ne h = by_test (has f y) (own_put_other (g ∷ fs) x y v u ne h.1)
  where
    behind : (l : List Frame) → Own l x v → has f x ≡ false → Own (f ∷ l) x v
    behind [] o e = absurd o
    behind (k ∷ l) o e = (e, o)

    by_test : (t : Bool) → Own (put_in (g ∷ fs) y u) x v → Own (elim t as (λ q. List Frame) [ true ↦ put_first f y u ∷ g ∷ fs | false ↦ f ∷ put_in (g ∷ fs) y u ]) x v
    by_test true ih = (same_has_first f y x u ∙ h.0, h.1)
    by_test false ih = behind (put_in (g ∷ fs) y u) ih h.0

has_found : (f : Frame) (x : Text) (v : Variable) → found f x ≡ Some v → has f x ≡ true
has_found [] x v e = cc
has_found (b ∷ bs) x v e = by_test (bytes_eq b.0 x) (has_found bs x v) e
  where
    by_test : (t : Bool) → (found bs x ≡ Some v → has bs x ≡ true) → elim t as (λ q. Option Variable) [ true ↦ Some b.1 | false ↦ found bs x ] ≡ Some v → elim t [ true ↦ true | false ↦ has bs x ] ≡ true
    by_test true ih e = refl
    by_test false ih e = ih e

pub own_put : (fs : List Frame) (x : Text) (v : Variable) (u : ValueTree) → Own fs x v → Own (put_in fs x u) x (record v { value = Some u })
own_put [] x v u h = absurd h
own_put (f ∷ []) x v u h = rw (has_found f x v h, put_in) (found_put_first f x v u h)
own_put (f ∷ g ∷ fs) x v u h = rw (h.0, put_in) (behind (put_in (g ∷ fs) x u) (own_put (g ∷ fs) x v u h.1))
  where
    behind : (l : List Frame) → Own l x (record v { value = Some u }) → Own (f ∷ l) x (record v { value = Some u })
    behind [] o = absurd o
    behind (k ∷ l) o = (h.0, o)

-- a name that no braces have
pub none_declared : (fs : List Frame) (x y : Text) (u : Variable) → y ≢ x → has_in fs x ≡ false → has_in (declared fs y u) x ≡ false
none_declared [] x y u ne h = rw (other_text y x ne, has, has_in) refl
none_declared (f ∷ fs) x y u ne h = rw (other_text y x ne, has, has_in) h

pub none_put : (fs : List Frame) (x y : Text) (u : ValueTree) → has_in fs x ≡ false → has_in (put_in fs y u) x ≡ false
none_put [] x y u h = refl
none_put (f ∷ fs) x y u h = by_test (has f y) (has f x) refl h (none_put fs x y u)
  where
    by_test : (t b : Bool) → has f x ≡ b → elim b as (λ q. Bool) [ true ↦ true | false ↦ has_in fs x ] ≡ false → (has_in fs x ≡ false → has_in (put_in fs y u) x ≡ false) → has_in (elim t as (λ q. List Frame) [ true ↦ put_first f y u ∷ fs | false ↦ f ∷ put_in fs y u ]) x ≡ false
    by_test t true is h ih = cc
    by_test true false is h ih = ap (λ q. elim q as (λ q. Bool) [ true ↦ true | false ↦ has_in fs x ]) (same_has_first f y x u ∙ is) ∙ h
    by_test false false is h ih = ap (λ q. elim q as (λ q. Bool) [ true ↦ true | false ↦ has_in (put_in fs y u) x ]) is ∙ ih h

pub none_pop : (f : Frame) (fs : List Frame) (x : Text) → has_in (f ∷ fs) x ≡ false → has_in fs x ≡ false
none_pop f fs x h = by_test (has f x) h
  where
    by_test : (t : Bool) → elim t as (λ q. Bool) [ true ↦ true | false ↦ has_in fs x ] ≡ false → has_in fs x ≡ false
    by_test true h = cc
    by_test false h = h

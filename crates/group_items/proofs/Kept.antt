-- A map for each workgroup.
use Rattle.std.proofs.Common.{◌≡◌, ℕ, zero, suc, ◌<◌, ◌==◌, ◌&&◌, Bool, true, false, List, [], ◌∷◌, ◌++◌, length, get_or, slice_set, refl, sym, ap, ◌∙◌, arith}
use Rattle.std.proofs.lemmas.Bool.Decides.{nat_tests}
use Rattle.std.specs.Prelude.{Option, Some, slice_get}
use Rattle.std.specs.Option.{option_map_or}
use Rattle.traces.specs.Events.{Location, buffer, push, shared}
use Rattle.dispatch_semantics.specs.Store.{same_location, home, put}
use Rattle.group_items.specs.declared.event.LeafPlace.{LeafPlace}
use Rattle.group_items.specs.Memory.{Words, word_among, stored, put_among}

got : {A : Type 0} (xs : List A) (h : ℕ) (x d : A) → h < length xs → x ≡ get_or xs h d → slice_get xs h ≡ Some x
got [] h x d inside e = absurd (omega (arith, inside))
got (y ∷ ys) zero x d inside e = ap Some (sym e)
got (y ∷ ys) (suc h) x d inside e = got ys h x d (omega (arith, inside)) e

got_same : {A : Type 0} (xs : List A) (h : ℕ) (a : A) → h < length xs → slice_get (slice_set xs h a) h ≡ Some a
got_same [] h a inside = absurd (omega (arith, inside))
got_same (y ∷ ys) zero a inside = refl
got_same (y ∷ ys) (suc h) a inside = got_same ys h a (omega (arith, inside))

got_other : {A : Type 0} (xs : List A) (h g : ℕ) (a : A) → (g ≡ h → ⊥) → slice_get (slice_set xs h a) g ≡ slice_get xs g
got_other [] h g a apart = refl
got_other (y ∷ ys) zero zero a apart = absurd (apart refl)
got_other (y ∷ ys) zero (suc g) a apart = refl
got_other (y ∷ ys) (suc h) zero a apart = refl
got_other (y ∷ ys) (suc h) (suc g) a apart = got_other ys h g a (λ e. apart (ap suc e))

abbrev words_at : Option Words → List (LeafPlace × ℕ)
words_at o = option_map_or (λ (m : Words). m.entries) o []

module _ (maps : List Words) (group w : ℕ) (at : Location) (h : ℕ) (old new : Words) (is : h ≡ home group at) (inside : h < length maps) (was : old ≡ get_or maps h old) (set : (x : Location) → word_among new.entries x ≡ put_among at w (word_among old.entries) x) where
  here : (g : ℕ) → (home group at == g) ≡ true → h ≡ g
  here g t = is ∙ grind (arith, nat_tests, t)

  by_group : (g : ℕ) (x : Location) (b : Bool) → (home group at == g) ≡ b → stored (slice_set maps h new) g x ≡ (elim (b && same_location at x) as (λ _. ℕ) [ true ↦ w | false ↦ stored maps g x ])
  by_group g x true t =
      ap (λ n. word_among (words_at (slice_get (slice_set maps h new) n)) x) (sym (here g t))
      ∙ ap (λ o. word_among (words_at o) x) (got_same maps h new inside)
      ∙ set x
      ∙ ap (λ o. elim (same_location at x) as (λ _. ℕ) [ true ↦ w | false ↦ word_among (words_at o) x ]) (sym (got maps h old old inside was))
      ∙ ap (λ n. elim (same_location at x) as (λ _. ℕ) [ true ↦ w | false ↦ word_among (words_at (slice_get maps n)) x ]) (here g t)
  by_group g x false t =
      ap (λ o. word_among (words_at o) x) (got_other maps h g new apart)
    where
      apart : g ≡ h → ⊥
      apart e = grind (arith, nat_tests, t, e, is)

  pub stored_put : stored (slice_set maps h new) ≡ put group at w (stored maps)
  stored_put = λ i g x. by_group g x (home group at == g) refl i

-- one more empty map
pub stored_push : (maps : List Words) (m : Words) → m.entries ≡ [] → ((g : ℕ) (at : Location) → stored maps g at ≡ 0) → (g : ℕ) (at : Location) → stored (maps ++ m ∷ []) g at ≡ 0
stored_push [] m none zeros zero at = ap (λ es. word_among es at) none
stored_push [] m none zeros (suc g) at = refl
stored_push (x ∷ maps) m none zeros zero at = zeros zero at
stored_push (x ∷ maps) m none zeros (suc g) at = stored_push maps m none (λ n. zeros (suc n)) g at

-- the map of a place is there
pub home_inside : (group n : ℕ) (at : Location) → group < n → home group at < n
home_inside group n (shared k path) h = h
home_inside group n (buffer s b m) h = omega (arith, h)
home_inside group n (push m) h = omega (arith, h)

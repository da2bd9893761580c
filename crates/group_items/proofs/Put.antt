-- Words put one after another.
use Rattle.std.proofs.Common.{◌≡◌, ℕ, zero, suc, ◌+◌, ◌<◌, ◌≤◌, ◌^◌, List, [], ◌∷◌, ◌++◌, length, get_or, slice_index, drop, min, refl, sym, ap, ◌∙◌, arith, map, append_assoc, add-one}
use Rattle.std.proofs.Math.Seq.{drop-cons}
use Rattle.dispatch_semantics.specs.Store.{Store, put, put_all, AreWords}
use Rattle.group_items.specs.declared.event.LeafPlace.{LeafPlace}
use Rattle.group_items.specs.Events.{location_of, locations_of}

pub put_next : (g k : ℕ) (places : List LeafPlace) (words : List ℕ) (d : LeafPlace) (s : Store) → k < length places → k < length words → put_all g (locations_of (drop k places)) (drop k words) s ≡ put_all g (locations_of (drop (suc k) places)) (drop (suc k) words) (put g (location_of (get_or places k d)) (slice_index words k) s)
put_next g k [] words d s a b = absurd (omega (arith, a))
put_next g k (p ∷ ps) [] d s a b = absurd (omega (arith, b))
put_next g zero (p ∷ ps) (w ∷ ws) d s a b = refl
put_next g (suc k) (p ∷ ps) (w ∷ ws) d s a b = put_next g k ps ws d s (omega (arith, a)) (omega (arith, b))

pub put_done : (g k : ℕ) (places : List LeafPlace) (words : List ℕ) (s : Store) → min (length places) (length words) ≤ k → put_all g (locations_of (drop k places)) (drop k words) s ≡ s
put_done g zero [] words s h = refl
put_done g (suc k) [] words s h = refl
put_done g zero (p ∷ ps) [] s h = refl
put_done g (suc k) (p ∷ ps) [] s h = put_none g (locations_of (drop k ps)) s
  where
    put_none : (g : ℕ) (ls : List _) (s : Store) → put_all g ls [] s ≡ s
    put_none g [] s = refl
    put_none g (l ∷ ls) s = refl
put_done g zero (p ∷ ps) (w ∷ ws) s h = absurd (omega (arith, h))
put_done g (suc k) (p ∷ ps) (w ∷ ws) s h = put_done g k ps ws s (omega (arith, h))

pub words-snoc : (xs : List ℕ) (w : ℕ) → AreWords xs → w < 2 ^ 32 → AreWords (xs ++ w ∷ [])
words-snoc [] w a h = (h, tt)
words-snoc (x ∷ xs) w a h = (a.0, words-snoc xs w a.1 h)

-- one more of what is found at places
pub next_found : {A B C : Type 0} (f : B → C) (g : A → B) (xs : List A) (done new whole : List C) (k : ℕ) (x : A) (y : C) → k < length xs → x ≡ get_or xs k x → y ≡ f (g x) → new ≡ done ++ y ∷ [] → done ++ map f (map g (drop k xs)) ≡ whole → new ++ map f (map g (drop (k + 1) xs)) ≡ whole
next_found f g xs done new whole k x y inside at is more before =
    ap (λ l. l ++ map f (map g (drop (k + 1) xs))) more
    ∙ append_assoc done (y ∷ []) (map f (map g (drop (k + 1) xs)))
    ∙ ap (λ z. done ++ z ∷ map f (map g (drop (k + 1) xs))) (is ∙ ap (λ a. f (g a)) at)
    ∙ ap (λ n. done ++ f (g (get_or xs k x)) ∷ map f (map g (drop n xs))) (add-one k)
    ∙ ap (λ l. done ++ map f (map g l)) (sym (drop-cons xs k x inside))
    ∙ before

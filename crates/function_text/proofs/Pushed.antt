-- What passes is written for one more of a list.
use Rattle.std.proofs.Common.{◌≡◌, ◌<◌, ◌+◌, ℕ, Bool, true, false, List, [], ◌∷◌, ◌++◌, cond, filter, get_or, length, map, take, refl, sym, ◌∙◌, ap, append_assoc, if◌then◌else◌}
use Rattle.std.proofs.lemmas.List.{map-append}
use Rattle.std.proofs.lemmas.List.Elements.{filter_more}

pub pushed_more : {A B : Type 0} (f : A → B) (p : A → Bool) (xs : List A) (i : ℕ) (x : A) (old new start : List B) → i < length xs → x ≡ get_or xs i x → new ≡ old ++ (if p x then f x ∷ [] else [])
    → old ≡ start ++ map f (filter p (take i xs)) → new ≡ start ++ map f (filter p (take (i + 1) xs))
pushed_more {A} {B} f p xs i x old new start less at now before =
    now
    ∙ (ap (λ (bs : List B). bs ++ (if p x then f x ∷ [] else [])) before
    ∙ (append_assoc start (map f (filter p (take i xs))) (if p x then f x ∷ [] else [])
    ∙ ap (λ (bs : List B). start ++ bs)
    (ap (λ (y : A). map f (filter p (take i xs)) ++ (if p y then f y ∷ [] else [])) at
    ∙ (ap (λ (bs : List B). map f (filter p (take i xs)) ++ bs) (one (p (get_or xs i x)) (get_or xs i x))
    ∙ (sym (map-append f (filter p (take i xs)) (cond (p (get_or xs i x)) (get_or xs i x ∷ []) []))
    ∙ ap (map f) (sym (filter_more p xs i x less)))))))
  where
    one : (b : Bool) (y : A) → (if b then f y ∷ [] else []) ≡ map f (cond b (y ∷ []) [])
    one true y = refl
    one false y = refl

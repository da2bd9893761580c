-- Lists that grow by one at each step, and lists one after the other.
use Rattle.std.proofs.Common.{◌≡◌, ℕ, ◌+◌, ◌<◌, List, [], ◌∷◌, ◌++◌, sym, ap, ◌∙◌, append_assoc, zero-add, map, drop, length, get_or}
use Rattle.std.specs.List.{range_with_len, enumerate_from}
use Rattle.std.proofs.lemmas.List.{drop_more, map-append}
use Rattle.std.proofs.lemmas.List.FromFn.{map-range_with_len_more}

-- one more number
pub number_more : {A : Type 0} (f : ℕ → A) (new old start : List A) (n : ℕ) → new ≡ old ++ f n ∷ [] → old ≡ start ++ map f (range_with_len 0 n) → new ≡ start ++ map f (range_with_len 0 (n + 1))
number_more f new old start n is so =
    is ∙ (ap (λ xs. xs ++ f n ∷ []) so ∙ (append_assoc start (map f (range_with_len 0 n)) (f n ∷ []) ∙ ap (λ xs. start ++ xs) (sym (map-range_with_len_more f 0 n n (zero-add n)))))

-- one more element with its number, before those that are left
pub member_more : {A X : Type 0} (f : ℕ × X → A) (new old all : List A) (k : ℕ) (xs : List X) (d : X) (a : A) → k < length xs → new ≡ old ++ a ∷ [] → a ≡ f (k, get_or xs k d) → old ++ map f (enumerate_from k (drop k xs)) ≡ all → new ++ map f (enumerate_from (k + 1) (drop (k + 1) xs)) ≡ all
member_more f new old all k xs d a inside is at so =
    ap (λ l. l ++ map f (enumerate_from (k + 1) (drop (k + 1) xs))) (is ∙ ap (λ x. old ++ x ∷ []) at)
    ∙ (append_assoc old (f (k, get_or xs k d) ∷ []) (map f (enumerate_from (k + 1) (drop (k + 1) xs)))
    ∙ (ap (λ l. old ++ map f (enumerate_from k l)) (sym (drop_more xs k d inside)) ∙ so))

-- the same of a view of what is pushed
pub member_push : {A B X : Type 0} (v : B → A) (f : ℕ × X → A) (new old : List B) (all : List A) (k : ℕ) (xs : List X) (d : X) (b : B) → k < length xs → new ≡ old ++ b ∷ [] → v b ≡ f (k, get_or xs k d) → map v old ++ map f (enumerate_from k (drop k xs)) ≡ all → map v new ++ map f (enumerate_from (k + 1) (drop (k + 1) xs)) ≡ all
member_push v f new old all k xs d b inside is at so =
    member_more f (map v new) (map v old) all k xs d (v b) inside (ap (map v) is ∙ map-append v old (b ∷ [])) at so

-- The first that passes a test, from a place on.
use Rattle.std.proofs.Common.{◌≡◌, ◌<◌, ◌≤◌, ◌+◌, ◌++◌, append-nil, append_assoc, zero-add, take, map, ℕ, suc, Bool, true, false, List, [], ◌∷◌, length, drop, get_or, Option, Some, None, cond, ap, sym, ◌∙◌, arith}
use Rattle.std.specs.List.{find, filter, filter_map, cons_option, count_by}
use Rattle.std.proofs.lemmas.List.{map-append, drop-map}
use Rattle.std.specs.Borrow.{Bor}
use Rattle.spv_module.specs.declared.inst.Inst.{Inst}
use Rattle.std.proofs.lemmas.List.Elements.{filter_more}
use Rattle.std.proofs.Math.Seq.{drop-cons, drop-append_seam}
use Rattle.std.proofs.Math.ListN.{drop_of_length-le}
use Rattle.list_law.proofs.Lists.{count_by-cons}

find_from : {X : Type 0} (p : X → Bool) (xs : List X) (i : ℕ) (d : X) → i < length xs → find p (drop i xs) ≡ cond (p (get_or xs i d)) (Some (get_or xs i d)) (find p (drop (i + 1) xs))
find_from p xs i d inside = ap (find p) (drop-cons xs i d inside) ∙ ap (λ n. cond (p (get_or xs i d)) (Some (get_or xs i d)) (find p (drop n xs))) (let more : suc i ≡ i + 1 = omega arith in more)

pub find_here : {X : Type 0} (p : X → Bool) (xs : List X) (i : ℕ) (d : X) → i < length xs → p (get_or xs i d) ≡ true → find p (drop i xs) ≡ Some (get_or xs i d)
find_here p xs i d inside passes = find_from p xs i d inside ∙ ap (λ b. cond b (Some (get_or xs i d)) (find p (drop (i + 1) xs))) passes

pub find_later : {X : Type 0} (p : X → Bool) (xs : List X) (i : ℕ) (d : X) → i < length xs → p (get_or xs i d) ≡ false → find p (drop i xs) ≡ find p (drop (i + 1) xs)
find_later p xs i d inside fails = find_from p xs i d inside ∙ ap (λ b. cond b (Some (get_or xs i d)) (find p (drop (i + 1) xs))) fails

pub find_end : {X : Type 0} (p : X → Bool) (xs : List X) (i : ℕ) → length xs ≤ i → find p (drop i xs) ≡ None
find_end p xs i past = ap (find p) (drop_of_length-le xs past)

pub ruleset find_rules = (find_here, find_later, find_end)

pub filter_yes : {X : Type 0} (p : X → Bool) (xs : List X) (i : ℕ) (d : X) → i < length xs → p (get_or xs i d) ≡ true → filter p (take (i + 1) xs) ≡ filter p (take i xs) ++ get_or xs i d ∷ []
filter_yes p xs i d inside passes = filter_more p xs i d inside ∙ ap (λ b. filter p (take i xs) ++ cond b (get_or xs i d ∷ []) []) passes

pub filter_no : {X : Type 0} (p : X → Bool) (xs : List X) (i : ℕ) (d : X) → i < length xs → p (get_or xs i d) ≡ false → filter p (take (i + 1) xs) ≡ filter p (take i xs)
filter_no p xs i d inside fails = filter_more p xs i d inside ∙ ap (λ b. filter p (take i xs) ++ cond b (get_or xs i d ∷ []) []) fails ∙ append-nil (filter p (take i xs))

pub ruleset filter_rules = (filter_yes, filter_no)

-- one more of those that pass, behind references
pub kept_yes : (p : Inst → Bool) (xs : List Inst) (i : ℕ) (d : Inst) (old new : List (Bor Inst)) (b : Bor Inst) → new ≡ old ++ b ∷ [] → i < length xs → b.now ≡ get_or xs i d → p b.now ≡ true → map (λ (x : Bor Inst). x.now) old ≡ filter p (take i xs) → map (λ (x : Bor Inst). x.now) new ≡ filter p (take (i + 1) xs)
kept_yes p xs i d old new b more inside is passes kept =
    let now : Bor Inst → Inst = λ x. x.now in
    let at : p (get_or xs i d) ≡ true = ap p (sym is) ∙ passes in
    ap (map now) more ∙ map-append now old (b ∷ []) ∙ ap (λ l. l ++ b.now ∷ []) kept ∙ ap (λ x. filter p (take i xs) ++ x ∷ []) is ∙ sym (filter_yes p xs i d inside at)

abbrev now : Bor Inst → Inst
now x = x.now

-- the same, of what stands behind references
pub behind_here : (p : Inst → Bool) (xs : List (Bor Inst)) (i : ℕ) (d : Bor Inst) → i < length xs → p (get_or xs i d).now ≡ true → find p (map (λ (x : Bor Inst). x.now) (drop i xs)) ≡ Some (get_or xs i d).now
behind_here p xs i d inside passes =
    ap (λ (l : List (Bor Inst)). find p (map now l)) (drop-cons xs i d inside) ∙ ap (λ b. cond b (Some (get_or xs i d).now) (find p (map now (drop (suc i) xs)))) passes

pub behind_later : (p : Inst → Bool) (xs : List (Bor Inst)) (i : ℕ) (d : Bor Inst) → i < length xs → p (get_or xs i d).now ≡ false → find p (map (λ (x : Bor Inst). x.now) (drop i xs)) ≡ find p (map (λ (x : Bor Inst). x.now) (drop (i + 1) xs))
behind_later p xs i d inside fails =
    ap (λ (l : List (Bor Inst)). find p (map now l)) (drop-cons xs i d inside)
    ∙ ap (λ b. cond b (Some (get_or xs i d).now) (find p (map now (drop (suc i) xs)))) fails
    ∙ ap (λ n. find p (map now (drop n xs))) (let more : suc i ≡ i + 1 = omega arith in more)

pub behind_end : (p : Inst → Bool) (xs : List (Bor Inst)) (i : ℕ) → length xs ≤ i → find p (map (λ (x : Bor Inst). x.now) (drop i xs)) ≡ None
behind_end p xs i past = ap (λ (l : List (Bor Inst)). find p (map now l)) (drop_of_length-le xs past)

pub ruleset behind_rules = (behind_here, behind_later, behind_end)

-- behind the first of two lists stands the second
pub behind_front : (items : List (Bor Inst)) (xs ys : List Inst) (n : ℕ) → map (λ (x : Bor Inst). x.now) items ≡ xs ++ ys → n ≡ length xs → map (λ (x : Bor Inst). x.now) (drop n items) ≡ ys
behind_front items xs ys n both is =
    sym (drop-map now n items) ∙ ap (drop n) both ∙ ap (λ k. drop k (xs ++ ys)) is ∙ drop-append_seam xs ys

-- how many of those behind references pass
pub count_here : (p : Inst → Bool) (xs : List (Bor Inst)) (i : ℕ) (d : Bor Inst) → i < length xs → p (get_or xs i d).now ≡ true → count_by p (map (λ (x : Bor Inst). x.now) (drop i xs)) ≡ 1 + count_by p (map (λ (x : Bor Inst). x.now) (drop (i + 1) xs))
count_here p xs i d inside passes =
    ap (λ (l : List (Bor Inst)). count_by p (map now l)) (drop-cons xs i d inside)
    ∙ count_by-cons p (get_or xs i d).now (map now (drop (suc i) xs))
    ∙ ap (λ b. cond b 1 0 + count_by p (map now (drop (suc i) xs))) passes
    ∙ ap (λ n. 1 + count_by p (map now (drop n xs))) (let more : suc i ≡ i + 1 = omega arith in more)

pub count_later : (p : Inst → Bool) (xs : List (Bor Inst)) (i : ℕ) (d : Bor Inst) → i < length xs → p (get_or xs i d).now ≡ false → count_by p (map (λ (x : Bor Inst). x.now) (drop i xs)) ≡ count_by p (map (λ (x : Bor Inst). x.now) (drop (i + 1) xs))
count_later p xs i d inside fails =
    ap (λ (l : List (Bor Inst)). count_by p (map now l)) (drop-cons xs i d inside)
    ∙ count_by-cons p (get_or xs i d).now (map now (drop (suc i) xs))
    ∙ ap (λ b. cond b 1 0 + count_by p (map now (drop (suc i) xs))) fails
    ∙ zero-add (count_by p (map now (drop (suc i) xs)))
    ∙ ap (λ n. count_by p (map now (drop n xs))) (let more : suc i ≡ i + 1 = omega arith in more)

pub count_end : (p : Inst → Bool) (xs : List (Bor Inst)) (i : ℕ) → length xs ≤ i → count_by p (map (λ (x : Bor Inst). x.now) (drop i xs)) ≡ 0
count_end p xs i past = ap (λ (l : List (Bor Inst)). count_by p (map now l)) (drop_of_length-le xs past)

pub ruleset count_rules = (count_here, count_later, count_end)

-- what is chosen of those behind references, where some is already
pub chosen_some : (h : Inst → Option ℕ) (front : List ℕ) (xs : List (Bor Inst)) (i : ℕ) (d : Bor Inst) (y : ℕ) → i < length xs → h (get_or xs i d).now ≡ Some y → front ++ filter_map h (map (λ (x : Bor Inst). x.now) (drop i xs)) ≡ (front ++ y ∷ []) ++ filter_map h (map (λ (x : Bor Inst). x.now) (drop (i + 1) xs))
chosen_some h front xs i d y inside is =
    ap (λ (l : List (Bor Inst)). front ++ filter_map h (map now l)) (drop-cons xs i d inside)
    ∙ ap (λ o. front ++ cons_option o (filter_map h (map now (drop (suc i) xs)))) is
    ∙ sym (append_assoc front (y ∷ []) (filter_map h (map now (drop (suc i) xs))))
    ∙ ap (λ n. (front ++ y ∷ []) ++ filter_map h (map now (drop n xs))) (let more : suc i ≡ i + 1 = omega arith in more)

pub chosen_none : (h : Inst → Option ℕ) (front : List ℕ) (xs : List (Bor Inst)) (i : ℕ) (d : Bor Inst) → i < length xs → h (get_or xs i d).now ≡ None → front ++ filter_map h (map (λ (x : Bor Inst). x.now) (drop i xs)) ≡ front ++ filter_map h (map (λ (x : Bor Inst). x.now) (drop (i + 1) xs))
chosen_none h front xs i d inside is =
    ap (λ (l : List (Bor Inst)). front ++ filter_map h (map now l)) (drop-cons xs i d inside)
    ∙ ap (λ o. front ++ cons_option o (filter_map h (map now (drop (suc i) xs)))) is
    ∙ ap (λ n. front ++ filter_map h (map now (drop n xs))) (let more : suc i ≡ i + 1 = omega arith in more)

pub chosen_end : (h : Inst → Option ℕ) (front : List ℕ) (xs : List (Bor Inst)) (i : ℕ) → length xs ≤ i → front ++ filter_map h (map (λ (x : Bor Inst). x.now) (drop i xs)) ≡ front
chosen_end h front xs i past = ap (λ (l : List (Bor Inst)). front ++ filter_map h (map now l)) (drop_of_length-le xs past) ∙ append-nil front

pub ruleset chosen_rules = (chosen_some, chosen_none, chosen_end)

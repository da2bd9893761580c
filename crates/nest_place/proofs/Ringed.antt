-- Lists that rings make.
use Rattle.std.proofs.Common.{◌≡◌, ◌<◌, ◌+◌, ◌-◌, ℕ, zero, suc, List, [], ◌∷◌, ◌++◌, length, get_or, refl, ap, sym, ◌∙◌, subst, arith}
use Rattle.std.proofs.lemmas.List.{get_or_append_left, get_or_push, length_push}
use Rattle.structure_rules.specs.declared.graph.Part.{Part}
use Rattle.nest_place.specs.declared.rings.Ring.{Ring}
use Rattle.nest_place.specs.Spots.{list_at}
use Rattle.nest_place.specs.Rings.{ring_list, grown, AreInward, IsRing}

pub length-grown : (lists : List (List Part)) (rs : List Ring) → length (grown lists rs) ≡ length lists + length rs
length-grown lists [] = omega arith
length-grown lists (r ∷ rs) = let rest = length-grown (lists ++ ring_list lists r ∷ []) rs in let one = length_push lists (ring_list lists r) in omega (arith, rest, one)

pub grown-push : (lists : List (List Part)) (rs : List Ring) (r : Ring) → grown lists (rs ++ r ∷ []) ≡ grown lists rs ++ ring_list (grown lists rs) r ∷ []
grown-push lists [] r = refl
grown-push lists (q ∷ rs) r = grown-push (lists ++ ring_list lists q ∷ []) rs r

kept : (lists : List (List Part)) (rs : List Ring) (k : ℕ) → k < length lists → list_at (grown lists rs) k ≡ list_at lists k
kept lists [] k h = refl
kept lists (r ∷ rs) k h =
    kept (lists ++ ring_list lists r ∷ []) rs k (let one = length_push lists (ring_list lists r) in omega (arith, one, h))
    ∙ get_or_append_left lists (ring_list lists r ∷ []) [] k h

pub inward-push : (n : ℕ) (rs : List Ring) (r : Ring) → AreInward n rs → r.around < n + length rs → AreInward n (rs ++ r ∷ [])
inward-push n [] r are h = (omega (arith, h), tt)
inward-push n (q ∷ rs) r are h = (are.0, inward-push (n + 1) rs r are.1 (omega (arith, h)))

inward_at : (n : ℕ) (rs : List Ring) (k : ℕ) (d : Ring) → AreInward n rs → k < length rs → (get_or rs k d).around < n + k
inward_at n [] k d are h = absurd (omega (arith, h))
inward_at n (r ∷ rs) zero d are h = (let first = are.0 in omega (arith, first))
inward_at n (r ∷ rs) (suc k) d are h = let rest = inward_at (n + 1) rs k d are.1 (omega (arith, h)) in omega (arith, rest)

-- the list of each ring behind these lists
list_of : (lists : List (List Part)) (rs : List Ring) (k : ℕ) (d : Ring) → AreInward (length lists) rs → k < length rs → list_at (grown lists rs) (length lists + k) ≡ ring_list (grown lists rs) (get_or rs k d)
list_of lists [] k d are h = absurd (omega (arith, h))
list_of lists (r ∷ rs) zero d are h =
    let more = lists ++ ring_list lists r ∷ [] in
    let one = length_push lists (ring_list lists r) in
    let last : list_at (grown more rs) (length lists + 0) ≡ ring_list lists r = kept more rs (length lists + 0) (omega (arith, one)) ∙ get_or_push lists (ring_list lists r) [] (length lists + 0) (omega arith) in
    last ∙ ap (λ ps. r.part ∷ ps) (sym (kept lists (r ∷ rs) r.around are.0))
list_of lists (r ∷ rs) (suc k) d are h =
    let more = lists ++ ring_list lists r ∷ [] in
    let one : length more ≡ length lists + 1 = length_push lists (ring_list lists r) in
    let rest = list_of more rs k d (subst (λ n. AreInward n rs) (sym one) are.1) (omega (arith, h)) in
    subst (λ n. list_at (grown more rs) n ≡ ring_list (grown more rs) (get_or rs k d)) (omega (arith, one)) rest

pub first_empty : (rs : List Ring) (place : ℕ) → place ≡ 0 → list_at (grown ([] ∷ []) rs) place ≡ []
first_empty rs place first = kept ([] ∷ []) rs place (omega (arith, first)) ∙ ap (list_at ([] ∷ [])) first

-- the ring that is read is that of the list
pub ring_read : (rs : List Ring) (place : ℕ) (r : Ring) → AreInward 1 rs → place < length (grown ([] ∷ []) rs) → (place ≡ 0 → ⊥) → r ≡ get_or rs (place - 1) r → IsRing (grown ([] ∷ []) rs) place r
ring_read rs place r are inside some read =
    let all : length (grown ([] ∷ []) rs) ≡ 1 + length rs = length-grown ([] ∷ []) rs in
    let at : 1 + (place - 1) ≡ place = omega (arith, some) in
    let room : place - 1 < length rs = omega (arith, all, inside, some) in
    record {
      earlier = (let low = inward_at 1 rs (place - 1) r are room in let same = ap (λ (q : Ring). q.around) read in omega (arith, low, same, at));
      list = subst (λ n. list_at (grown ([] ∷ []) rs) n ≡ ring_list (grown ([] ∷ []) rs) (get_or rs (place - 1) r)) at (list_of ([] ∷ []) rs (place - 1) r are room) ∙ ap (ring_list (grown ([] ∷ []) rs)) (sym read);
    }

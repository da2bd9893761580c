-- A function and its reached blocks determine its linked slots.
use Rattle.std.proofs.Common.{◌≡◌, ◌+◌, ℕ, suc, Bool, false, List, [], ◌∷◌, filter, map, Some, refl, ap, sym, ◌∙◌, subst, if◌then◌else◌, arith}
use Rattle.std.specs.List.{enumerate_from, slice_get, slice_index_or}
use Rattle.spv_module.specs.declared.inst.Function.{Function}
use Rattle.list_law.proofs.Tests.{same_tests}
use Rattle.use_chains.specs.declared.mention.Mention.{Mention}
use Rattle.use_chains.specs.Slots.{slots}
use Rattle.use_chains.specs.Links.{Link, link_of, AreLiveLinks}

-- slots that are kept by their numbers, where two ways of telling agree on each
kept_one : (p q : ℕ → Bool) (n : ℕ) (ms : List Mention) → ((k : ℕ) (m : Mention) → slice_get ms k ≡ Some m → p (n + k) ≡ q (n + k))
    → filter (λ (l : Link). p l.slot) (map link_of (enumerate_from n ms)) ≡ filter (λ (l : Link). q l.slot) (map link_of (enumerate_from n ms))
kept_one p q n [] same = refl
kept_one p q n (m ∷ ms) same =
    let none : n + 0 ≡ n = omega arith in
    let here : p n ≡ q n = ap p (sym none) ∙ (same 0 m refl ∙ ap q none) in
    let rest = kept_one p q (n + 1) ms (λ k l at. let on : n + suc k ≡ (n + 1) + k = omega arith in ap p (sym on) ∙ (same (suc k) l at ∙ ap q on)) in
    λ i. if here i then link_of (n, m) ∷ rest i else rest i

-- two lists of live links of a function are one
pub links_one : (f : Function) (reached : List Bool) (a b : List Link) → AreLiveLinks f reached a → AreLiveLinks f reached b → a ≡ b
links_one f reached a b v w =
    v.1.links_are
    ∙ (kept_one (λ k. slice_index_or v.0 k false) (λ k. slice_index_or w.0 k false) 0 (slots f reached) (λ k m at. agree k (0 + k) (let on : 0 + k ≡ k = omega arith in on) m at) ∙ sym w.1.links_are)
  where
    agree : (k n : ℕ) → n ≡ k → (m : Mention) → slice_get (slots f reached) k ≡ Some m → slice_index_or v.0 n false ≡ slice_index_or w.0 n false
    agree k n on m at =
        subst (λ (j : ℕ). slice_index_or v.0 j false ≡ slice_index_or w.0 j false) (sym on)
        (same_tests (slice_index_or v.0 k false) (slice_index_or w.0 k false) (λ kept. w.1.whole k m at (v.1.live k m at kept)) (λ kept. v.1.whole k m at (w.1.live k m at kept)))

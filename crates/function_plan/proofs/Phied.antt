-- What phis are given, one pair of operands after another.
use Rattle.std.proofs.Common.{◌≡◌, ◌<◌, ◌≤◌, ℕ, Bool, true, false, List, [], ◌∷◌, ◌++◌, if◌then◌else◌, length, get_or, drop, map, filter, refl, sym, ◌∙◌, ap, arith}
use Rattle.std.proofs.lemmas.List.{append-nil, append_assoc}
use Rattle.spv_module.specs.declared.inst.Inst.{Inst}
use Rattle.spv_module.specs.declared.inst.Function.{Function}
use Rattle.spv_index.specs.Locals.{block_in}
use Rattle.phi_copies.specs.Sequence.{Pair}
use Rattle.function_plan.specs.Phis.{is_block, pair_with, comes_from, values_in, given_words}

abbrev pub one : List Inst → Function → ℕ → ℕ → ℕ → ℕ → List Pair
one gs f b r v l = if is_block b (block_in f l) then pair_with gs r (v, l) ∷ [] else []

pub given_step : (gs : List Inst) (f : Function) (b r v l : ℕ) (rest : List ℕ) → given_words gs f b r (v ∷ l ∷ rest) ≡ one gs f b r v l ++ given_words gs f b r rest
given_step gs f b r v l rest = step (is_block b (block_in f l))
  where
    step : (x : Bool) → map (pair_with gs r) (if x then (v, l) ∷ filter (comes_from f b) (values_in rest) else filter (comes_from f b) (values_in rest)) ≡ (if x then pair_with gs r (v, l) ∷ [] else []) ++ given_words gs f b r rest
    step true = refl
    step false = refl

pub given_more : (gs : List Inst) (f : Function) (b r v l : ℕ) (rest words : List ℕ) (old new whole : List Pair) → words ≡ v ∷ l ∷ rest → new ≡ old ++ one gs f b r v l
    → old ++ given_words gs f b r words ≡ whole → new ++ given_words gs f b r rest ≡ whole
given_more gs f b r v l rest words old new whole is added e =
    ap (λ q. q ++ given_words gs f b r rest) added
    ∙ (append_assoc old (one gs f b r v l) (given_words gs f b r rest)
    ∙ (ap (λ q. old ++ q) (sym (ap (given_words gs f b r) is ∙ given_step gs f b r v l rest)) ∙ e))

pub given_next : (gs : List Inst) (f : Function) (b r v l : ℕ) (words : List ℕ) (old new whole : List Pair) → 2 ≤ length words → v ≡ get_or words 0 0 → l ≡ get_or words 1 0 → new ≡ old ++ one gs f b r v l
    → old ++ given_words gs f b r words ≡ whole → new ++ given_words gs f b r (drop 2 words) ≡ whole
given_next gs f b r v l [] old new whole long first second added e = absurd (omega arith)
given_next gs f b r v l (x ∷ []) old new whole long first second added e = absurd (omega arith)
given_next gs f b r v l (x ∷ y ∷ rest) old new whole long first second added e =
    given_more gs f b r v l rest (x ∷ y ∷ rest) old new whole (ap (λ a. a ∷ y ∷ rest) (sym first) ∙ ap (λ a. v ∷ a ∷ rest) (sym second)) added e

pub given_few : (gs : List Inst) (f : Function) (b r : ℕ) (words : List ℕ) → length words < 2 → given_words gs f b r words ≡ []
given_few gs f b r [] few = refl
given_few gs f b r (v ∷ []) few = refl
given_few gs f b r (v ∷ l ∷ rest) few = absurd (omega arith)

pub given_end : (gs : List Inst) (f : Function) (b r : ℕ) (words : List ℕ) (old whole : List Pair) → length words < 2 → old ++ given_words gs f b r words ≡ whole → old ≡ whole
given_end gs f b r words old whole few e = sym (append-nil old) ∙ (ap (λ q. old ++ q) (sym (given_few gs f b r words few)) ∙ e)

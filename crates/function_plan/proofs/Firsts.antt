-- The first pair of each target: no two have one target.
use Rattle.std.proofs.Common.{◌≡◌, ◌==◌, ℕ, Bool, true, false, List, [], ◌∷◌, refl, sym, ◌∙◌, ap, get_or, arith}
use Rattle.std.specs.List.{All, AllPairs}
use Rattle.std.proofs.lemmas.List.Elements.{All-nil, All-cons}
use Rattle.std.proofs.lemmas.List.Kept.{AllPairs-cons}
use Rattle.std.proofs.lemmas.Bool.{eq-eqb}
use Rattle.phi_copies.specs.Sequence.{Pair, target, HaveOwnTargets}
use Rattle.function_plan.specs.Once.{with_id, once_by, no_id}
use Rattle.function_plan.specs.Phis.{firsts}

true_false : true ≡ false → ⊥
true_false e = cc

-- the target of a pair was not seen
abbrev IsNew : (ℕ → Bool) → Pair → Type 0
IsNew seen p = seen (target p) ≡ false

with_same : (seen : ℕ → Bool) (n m : ℕ) → n ≡ m → with_id n seen m ≡ true
with_same seen n m e = ap (λ (b : Bool). elim b [ true ↦ true | false ↦ seen m ]) (eq-eqb m n (sym e))

with_less : (seen : ℕ → Bool) (n m : ℕ) → with_id n seen m ≡ false → seen m ≡ false
with_less seen n m e = step (m == n) (seen m) e
  where
    step : (b s : Bool) → elim b [ true ↦ true | false ↦ s ] ≡ false → s ≡ false
    step true s e = cc
    step false s e = e

all_less : (seen : ℕ → Bool) (n : ℕ) (ps : List Pair) → All (IsNew (with_id n seen)) ps → All (IsNew seen) ps
all_less seen n ps all = λ k d less. with_less seen n (target (get_or ps k d)) (all k d less)

kept : (seen : ℕ → Bool) (ps : List Pair) → All (IsNew seen) (once_by target seen ps)
kept seen [] = All-nil (IsNew seen)
kept seen (p ∷ ps) = step (seen (target p)) refl (kept seen ps) (all_less seen (target p) (once_by target (with_id (target p) seen) ps) (kept (with_id (target p) seen) ps))
  where
    step : (b : Bool) → seen (target p) ≡ b → All (IsNew seen) (once_by target seen ps) → All (IsNew seen) (once_by target (with_id (target p) seen) ps)
        → All (IsNew seen) (elim b [ true ↦ once_by target seen ps | false ↦ p ∷ once_by target (with_id (target p) seen) ps ])
    step true e old new = old
    step false e old new = All-cons (IsNew seen) p (once_by target (with_id (target p) seen) ps) e new

abbrev Apart : Pair → Pair → Type 0
Apart p q = target p ≡ target q → ⊥

apart : (seen : ℕ → Bool) (p : Pair) (ps : List Pair) → All (IsNew (with_id (target p) seen)) ps → All (Apart p) ps
apart seen p ps all = λ k d less same.
    let was : with_id (target p) seen (target (get_or ps k d)) ≡ true = with_same seen (target p) (target (get_or ps k d)) same in
    let new : with_id (target p) seen (target (get_or ps k d)) ≡ false = all k d less in
    true_false (sym was ∙ new)

own_by : (seen : ℕ → Bool) (ps : List Pair) → AllPairs Apart (once_by target seen ps)
own_by seen [] = λ i j d less within. absurd (omega arith)
own_by seen (p ∷ ps) = step (seen (target p)) (own_by seen ps) (own_by (with_id (target p) seen) ps) (kept (with_id (target p) seen) ps)
  where
    step : (b : Bool) → AllPairs Apart (once_by target seen ps) → AllPairs Apart (once_by target (with_id (target p) seen) ps) → All (IsNew (with_id (target p) seen)) (once_by target (with_id (target p) seen) ps)
        → AllPairs Apart (elim b [ true ↦ once_by target seen ps | false ↦ p ∷ once_by target (with_id (target p) seen) ps ])
    step true old new all = old
    step false old new all = AllPairs-cons Apart p (once_by target (with_id (target p) seen) ps) (apart seen p (once_by target (with_id (target p) seen) ps) all) new

pub own_targets : (ps : List Pair) → HaveOwnTargets (firsts ps)
own_targets ps = own_by no_id ps

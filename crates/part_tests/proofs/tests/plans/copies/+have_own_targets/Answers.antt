use Rattle.std.proofs.Common.{rules, arith, ◌≡◌, ◌-◌, ◌∷◌, List, drop, take, length, get_or, subst, sym}
use Rattle.std.specs.List.{All}
use Rattle.std.proofs.Math.Seq.{drop-cons}
use Rattle.std.proofs.lemmas.List.{take_all, length-drop}
use Rattle.std.proofs.lemmas.Bool.{OnTrue_at, OnTrue_from}
use Rattle.std.proofs.lemmas.List.Kept.{AllPairs-cons}
use Rattle.phi_copies.specs.Sequence.{Pair, target, no_pair, HaveOwnTargets}
use Rattle.part_tests.proofs.tests.plans.copies.+have_own_targets.Goals as goal

pub returns-then-is_new : goal.returns-then-is_new
returns-then-is_new t c = OnTrue_from c.have_own_targets.result (HaveOwnTargets c.args.pairs.now) (λ e.
    let pairs = c.args.pairs.now in
    let first : Pair = get_or pairs 0 no_pair in
    let split : pairs ≡ first ∷ drop 1 pairs = drop-cons pairs 0 no_pair (search (rules, c.in-len1-up.len_at_least)) in
    let rest : take (length pairs - 1) (drop 1 pairs) ≡ drop 1 pairs = take_all (length pairs - 1) (drop 1 pairs) (omega (arith, length-drop 1 pairs)) in
    let own : HaveOwnTargets (drop 1 pairs) = subst HaveOwnTargets rest (OnTrue_at e c.have_own_targets.ensures) in
    let apart : All (λ p. target first ≡ target p → ⊥) (drop 1 pairs) = subst (λ (xs : List Pair). All (λ p. target first ≡ target p → ⊥) xs) rest c.if-is_new.ensures in
    subst HaveOwnTargets (sym split) (AllPairs-cons (λ (p : Pair) (q : Pair). target p ≡ target q → ⊥) first (drop 1 pairs) apart own))

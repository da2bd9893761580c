use Rattle.std.proofs.Common.{◌==◌, ◌∙◌, ap, sym, subst}
use Rattle.std.specs.List.{list_any}
use Rattle.std.specs.List.Sorted.{IsStrictlyIncreasing}
use Rattle.std.proofs.lemmas.List.Filters.{dedup_is}
use Rattle.std.proofs.lemmas.List.Sorted.{list_any-IsPermutation}
use Rattle.std.proofs.lemmas.Map.Keys.{IsStrictlyIncreasing-dedup}
use Rattle.structure_recover.proofs.Labelled.{any_once}
use Rattle.structure_recover.proofs.arms.in_function.Goals as goal

pub returns-clause-up : goal.returns-clause-up
returns-clause-up c =
    subst IsStrictlyIncreasing (sym (dedup_is (λ x y. x == y) c.sort_unstable.new.self.items c.dedup.new.self.items c.dedup.ensures.filtered))
    (IsStrictlyIncreasing-dedup c.sort_unstable.new.self.items c.sort_unstable.ensures.sorted)

pub returns-clause-same : goal.returns-clause-same
returns-clause-same c = λ q.
    ap (list_any (λ t. t == q)) (dedup_is (λ x y. x == y) c.sort_unstable.new.self.items c.dedup.new.self.items c.dedup.ensures.filtered)
    ∙ (any_once (λ t. t == q) c.sort_unstable.new.self.items
    ∙ (sym (list_any-IsPermutation (λ t. t == q) c.in_ok-order.order.items c.sort_unstable.new.self.items c.sort_unstable.ensures.permutation)
    ∙ ap (list_any (λ t. t == q)) c.in_ok-order.ensures.items))

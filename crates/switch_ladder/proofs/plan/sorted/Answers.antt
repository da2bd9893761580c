use Rattle.std.proofs.Common.{◌==◌, ◌∙◌, ap, sym}
use Rattle.std.specs.List.{list_any}
use Rattle.std.proofs.lemmas.List.Sorted.{list_any-IsPermutation}
use Rattle.switch_ladder.proofs.plan.sorted.Goals as goal

pub returns-clause-same : goal.returns-clause-same
returns-clause-same c = λ q.
    sym (list_any-IsPermutation (λ t. t == q) c.in_ok-sorted.sorted.items c.sort_unstable.new.self.items c.sort_unstable.ensures.permutation)
    ∙ ap (list_any (λ t. t == q)) c.in_ok-sorted.ensures.items

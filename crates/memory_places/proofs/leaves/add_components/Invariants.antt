use Rattle.std.proofs.Common.{◌-◌, [], ◌∷◌, map}
use Rattle.std.specs.List.{range_with_len}
use Rattle.memory_places.specs.Kernel.{bare}
use Rattle.memory_places.specs.Leaves.{IsGaining}
use Rattle.memory_places.proofs.leaves.add_components.Given as goal

abbrev pub invariant-loop-index : goal.invariant-loop-index
invariant-loop-index l = (IsGaining (bare l.«module») l.whole l.initial.all l.all (map (λ i. i ∷ []) (range_with_len l.index (l.count - l.index))) (map (λ i. i ∷ []) (range_with_len 0 l.count)))

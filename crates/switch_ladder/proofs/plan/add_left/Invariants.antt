use Rattle.std.proofs.Common.{◌≡◌, ◌||◌, ℕ, take}
use Rattle.std.specs.BTreeSet.{contains}
use Rattle.std.specs.List.{list_any}
use Rattle.std.specs.Ordering.{nat_cmp}
use Rattle.structure_rules.specs.Graph.{is_value}
use Rattle.switch_ladder.specs.Flags.{left_loop}
use Rattle.switch_ladder.proofs.plan.add_left.Given as goal

abbrev pub invariant-loop-target : goal.invariant-loop-target
invariant-loop-target l = (q : ℕ) → contains nat_cmp l.loops q ≡ (contains nat_cmp l.initial.loops q || list_any (λ t. is_value q (left_loop l.places l.block t)) (take l.target-index l.target-items))

use Rattle.std.proofs.Common.{◌≡◌, filter, map}
use Rattle.std.specs.List.{All, AllZip}
use Rattle.std.specs.Vec.Iter.{into_iter_items}
use Rattle.structure_rules.specs.Graph.{graph}
use Rattle.use_chains.specs.Small.{IsSmall}
use Rattle.function_plan.specs.Plans.{IsPlanned}
use Rattle.unit_text.specs.Reached.{is_among}
use Rattle.unit_text.proofs.plans.plans_with.Given as goal

abbrev pub invariant-loop-own : goal.invariant-loop-own
invariant-loop-own g l = (into_iter_items l.places ≡ map graph (into_iter_items l.own-iterator)) × All IsSmall (into_iter_items l.own-iterator) × AllZip (IsPlanned l.«module») (filter (is_among l.ids) l.yielded) l.plans.items

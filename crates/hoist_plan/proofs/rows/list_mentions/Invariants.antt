use Rattle.std.proofs.Common.{◌≡◌, ◌+◌, ◌*◌, ◌++◌, length, map, true}
use Rattle.use_chains.specs.Links.{chain, is_in_chain, is_linked}
use Rattle.hoist_plan.specs.Plan.{mentions_of}
use Rattle.hoist_plan.proofs.Walking.{left, slot_of, place_of}
use Rattle.hoist_plan.proofs.rows.list_mentions.Given as goal

abbrev pub invariant-loop-at : goal.invariant-loop-at
invariant-loop-at g l =
    (l.places.items ++ map place_of (left (slot_of l.at) (chain l.uses l.id.0)) ≡ mentions_of l.uses l.id.0) × (is_in_chain l.uses l.id.0 l.at ≡ true) × (is_linked l.uses l.at ≡ true)
    × (l.steps + 2 * length (map place_of (left (slot_of l.at) (chain l.uses l.id.0))) ≡ l.fn.steps + (2 * length (mentions_of l.uses l.id.0) + 1))

abbrev pub decreases-loop-at : goal.decreases-loop-at
decreases-loop-at g l = length (map place_of (left (slot_of l.at) (chain l.uses l.id.0)))

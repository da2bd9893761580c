use Rattle.std.proofs.Common.{◌≡◌, take}
use Rattle.group_items.specs.Events.{locations_of}
use Rattle.step_run.proofs.copies.places_in.Given as goal

abbrev pub invariant-loop-place : goal.invariant-loop-place
invariant-loop-place l = locations_of l.list.items ≡ locations_of (take l.place-index l.places)

use Rattle.std.proofs.Common.{◌≡◌, take}
use Rattle.std.specs.List.{flat_map}
use Rattle.access_paths.specs.Links.{link_steps}
use Rattle.access_paths.proofs.walk.steps_of.Given as goal

abbrev pub invariant-loop-link : goal.invariant-loop-link
invariant-loop-link l = l.steps.items ≡ flat_map (link_steps l.module.globals l.printed) (take l.link-index l.links)

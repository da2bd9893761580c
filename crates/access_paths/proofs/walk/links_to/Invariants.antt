use Rattle.std.proofs.Common.{◌≡◌, ◌++◌, ◌+◌, length}
use Rattle.std.specs.Prelude.{reverse}
use Rattle.std.specs.Option.{option_map_or}
use Rattle.access_paths.specs.Links.{IsIn, way_in}
use Rattle.access_paths.proofs.walk.links_to.Given as goal

abbrev pub decreases-loop-next : goal.decreases-loop-next
decreases-loop-next l = option_map_or (λ k. k + 1) l.next 0

abbrev pub invariant-loop-next : goal.invariant-loop-next
invariant-loop-next l = record {
  within : IsIn (length l.links) l.next;
  parts : way_in l.links l.next ++ reverse l.way.items ≡ way_in l.links l.initial.next;
}

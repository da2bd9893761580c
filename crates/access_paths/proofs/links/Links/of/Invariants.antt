use Rattle.std.proofs.Common.{take}
use Rattle.std.specs.List.{enumerate_from}
use Rattle.access_paths.specs.Links.{AreWaysIn}
use Rattle.access_paths.proofs.links.Links.of.Given as goal

abbrev pub invariant-loop-stands : goal.invariant-loop-stands
invariant-loop-stands l = AreWaysIn l.module.globals l.locals (take l.stands (enumerate_from 0 l.block-items)) l.links

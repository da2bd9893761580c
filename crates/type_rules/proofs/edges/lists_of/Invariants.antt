use Rattle.std.proofs.Common.{take}
use Rattle.type_rules.specs.Edges.{AreSources}
use Rattle.type_rules.proofs.edges.lists_of.Given as goal

abbrev pub invariant-loop-place : goal.invariant-loop-place
invariant-loop-place l = AreSources l.locals (take l.place l.locals.blocks) l.lists.items

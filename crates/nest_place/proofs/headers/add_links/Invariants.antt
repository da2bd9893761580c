use Rattle.std.proofs.Common.{◌≡◌, ◌++◌, take}
use Rattle.structure_rules.specs.Nesting.{linked}
use Rattle.nest_place.proofs.headers.add_links.Given as goal

abbrev pub invariant-loop-block : goal.invariant-loop-block
invariant-loop-block l = l.links.items ≡ l.initial.links.items ++ linked (take l.block-index l.blocks) l.other

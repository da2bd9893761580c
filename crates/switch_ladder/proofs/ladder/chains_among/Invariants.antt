use Rattle.std.proofs.Common.{◌≡◌, map, take, length}
use Rattle.structure_rules.specs.Structure.{fall_links}
use Rattle.switch_ladder.specs.Ladder.{items_of, chain_of}
use Rattle.switch_ladder.proofs.ladder.chains_among.Given as goal

abbrev pub invariant-loop-start : goal.invariant-loop-start
invariant-loop-start l = map items_of l.chains.items ≡ map (chain_of (fall_links l.places) (length l.places)) (take l.start-index l.start-items)

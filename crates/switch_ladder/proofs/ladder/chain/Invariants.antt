use Rattle.std.proofs.Common.{◌≡◌, ◌-◌, ◌++◌, length}
use Rattle.structure_rules.specs.Structure.{fall_links}
use Rattle.switch_ladder.specs.Ladder.{chain_of}
use Rattle.switch_ladder.proofs.ladder.chain.Given as goal

abbrev pub invariant-loop-turn : goal.invariant-loop-turn
invariant-loop-turn l = l.chain.items ++ chain_of (fall_links l.places) (length l.places - l.turn) l.at ≡ chain_of (fall_links l.places) (length l.places) l.first

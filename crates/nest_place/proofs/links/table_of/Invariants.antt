use Rattle.nest_place.proofs.LinkLemmas.{IsGathered}
use Rattle.nest_place.proofs.links.table_of.Given as goal

abbrev pub invariant-loop-block : goal.invariant-loop-block
invariant-loop-block l = IsGathered l.links l.block-index l.count l.table.items

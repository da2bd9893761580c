use Rattle.std.proofs.Common.{refl, rules}
use Rattle.memory_places.proofs.Gaining.{last_taken}
use Rattle.memory_places.proofs.leaves.leave.Goals as goal

pub returns : goal.returns
returns c = record {
  base = refl;
  path = λ before i e. last_taken before _ _ i _ c.pop.ensures.rest (search rules) e;
  places = refl;
}

use Rattle.std.proofs.Common.{[], ◌∷◌, ap, arith, length}
use Rattle.nest_place.proofs.Ringed.{length-grown}
use Rattle.nest_place.proofs.rings.Rings.len.Goals as goal

pub returns : goal.returns
returns c = let all = length-grown ([] ∷ []) c.self.inside.rings.items in let seen = ap length c.self.view_is in omega (arith, all, seen, c.len.ensures)

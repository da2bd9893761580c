use Rattle.std.proofs.Common.{◌≡◌, drop}
use Rattle.name_alloc.specs.declared.claims.Key.{Key}
use Rattle.name_alloc.specs.Naming.{names_from, name_of}
use Rattle.name_alloc.specs.Given.{AreSkipping, AreGiven, taken_of, name_at}
use Rattle.name_alloc.proofs.naming.names.Given as goal

abbrev pub invariant-loop-claimed : goal.invariant-loop-claimed
invariant-loop-claimed l = AreSkipping l.spaces × AreGiven l.spaces l.names.items l.places × ((key : Key) → names_from (taken_of l.spaces) (name_at l.names.items l.places) (drop l.claimed-index l.claims) key ≡ name_of l.claims key)

use Rattle.std.proofs.Common.{◌≡◌, ◌-◌, ◌≤◌}
use Rattle.name_alloc.specs.Naming.{numbered, first_free}
use Rattle.name_alloc.specs.Taken.{is_held}
use Rattle.name_alloc.proofs.space.free_number.Given as goal

abbrev pub invariant-loop-number : goal.invariant-loop-number
invariant-loop-number l = (l.number ≤ l.last) × (first_free (λ k. is_held l.space (numbered l.base k)) (l.last - l.number) l.number ≡ first_free (λ k. is_held l.space (numbered l.base k)) (l.last - l.start) l.start)

abbrev pub decreases-loop-number : goal.decreases-loop-number
decreases-loop-number l = l.last - l.number

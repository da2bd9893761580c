use Rattle.std.proofs.Common.{◌≡◌, ℕ, drop}
use Rattle.std.specs.Prelude.{fold}
use Rattle.id_map.specs.Entries.{entry_in}
use Rattle.hoist_plan.specs.Plan.{raised}
use Rattle.hoist_plan.proofs.forms.raise_all.Given as goal

abbrev pub invariant-loop-at : goal.invariant-loop-at
invariant-loop-at l = (n : ℕ) → fold (raised l.f l.height) (entry_in l.operands) (drop l.at-index l.places) n ≡ fold (raised l.f l.height) (entry_in l.initial.operands) l.places n

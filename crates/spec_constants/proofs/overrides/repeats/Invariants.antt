use Rattle.std.proofs.Common.{◌≡◌, ◌==◌, ℕ, false, take}
use Rattle.std.specs.List.{list_any}
use Rattle.std.specs.BTreeSet.{contains}
use Rattle.std.specs.Ordering.{nat_cmp}
use Rattle.profile_rules.specs.declared.given.Given.{Given}
use Rattle.profile_rules.specs.Overrides.{repeats as has_repeat}
use Rattle.spec_constants.proofs.overrides.repeats.Given as goal

abbrev pub invariant-loop-pair : goal.invariant-loop-pair
invariant-loop-pair l = (has_repeat (take l.pair-index l.pairs) ≡ false) × ((id : ℕ) → contains nat_cmp l.seen id ≡ list_any (λ (p : ℕ × Given). p.0 == id) (take l.pair-index l.pairs))

use Rattle.std.proofs.Common.{◌≡◌, ℕ, drop, length, ◌≤◌}
use Rattle.profile_rules.specs.TypeForm.{is_held}
use Rattle.id_map.specs.Entries.{is_in}
use Rattle.declaration_check.proofs.holders.held.Given as goal

abbrev pub invariant-loop-left : goal.invariant-loop-left
invariant-loop-left l = record {
  inside : l.left ≤ length l.globals;
  holds : (id : ℕ) → is_in l.set id ≡ is_held (drop l.left l.globals) l.types id;
}

abbrev pub decreases-loop-left : goal.decreases-loop-left
decreases-loop-left l = l.left

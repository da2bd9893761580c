use Rattle.std.proofs.Common.{◌≡◌, ℕ, take}
use Rattle.std.specs.List.{list_any}
use Rattle.std.specs.BTreeSet.{contains}
use Rattle.std.specs.Ordering.{nat_cmp}
use Rattle.profile_rules.specs.Constants.{has_spec_id}
use Rattle.spec_constants.proofs.fit.spec_ids.Given as goal

abbrev pub invariant-loop-inst : goal.invariant-loop-inst
invariant-loop-inst l = (id : ℕ) → contains nat_cmp l.ids id ≡ list_any (has_spec_id l.decor id) (take l.inst-index l.inst-items)

use Rattle.std.proofs.Common.{◌≡◌, ◌==◌, ◌&&◌, ◌||◌, ℕ, take, drop}
use Rattle.std.specs.List.{list_any}
use Rattle.std.specs.BTreeSet.{contains}
use Rattle.std.specs.Ordering.{nat_cmp}
use Rattle.spv_module.specs.declared.inst.Inst.{Inst}
use Rattle.profile_rules.specs.Constants.{is_local_size_id}
use Rattle.spec_constants.proofs.fit.add_mode_parts.Given as goal

abbrev pub invariant-loop-inst : goal.invariant-loop-inst
invariant-loop-inst l = (id : ℕ) → contains nat_cmp l.ids id ≡ (contains nat_cmp l.initial.ids id || list_any (λ (i : Inst). is_local_size_id i && list_any (λ part. part == id) (drop 2 i.args)) (take l.inst-index l.inst-items))

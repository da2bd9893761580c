use Rattle.std.proofs.Common.{◌≡◌, ◌==◌, ◌&&◌, ◌||◌, ℕ, take}
use Rattle.std.specs.List.{list_any}
use Rattle.std.specs.BTreeSet.{contains}
use Rattle.std.specs.Ordering.{nat_cmp}
use Rattle.spv_module.specs.declared.inst.Inst.{Inst}
use Rattle.profile_rules.specs.Constants.{is_size_composite}
use Rattle.spec_constants.proofs.fit.add_composite_parts.Given as goal

abbrev pub invariant-loop-inst : goal.invariant-loop-inst
invariant-loop-inst l = (id : ℕ) → contains nat_cmp l.ids id ≡ (contains nat_cmp l.initial.ids id || list_any (λ (g : Inst). is_size_composite l.decor g && list_any (λ part. part == id) g.args) (take l.inst-index l.inst-items))

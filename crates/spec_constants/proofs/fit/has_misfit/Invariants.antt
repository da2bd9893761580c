use Rattle.std.proofs.Common.{◌≡◌, ◌&&◌, false, take}
use Rattle.std.specs.Prelude.{option_and_then}
use Rattle.std.specs.Option.{option_map_or}
use Rattle.std.specs.List.{list_any}
use Rattle.std.specs.BTreeMap.{get}
use Rattle.std.specs.Ordering.{nat_cmp}
use Rattle.spv_module.specs.declared.inst.Inst.{Inst}
use Rattle.profile_rules.specs.Constants.{spec_id, is_scalar_specialization, is_misfit}
use Rattle.spec_constants.proofs.fit.has_misfit.Given as goal

abbrev pub invariant-loop-inst : goal.invariant-loop-inst
invariant-loop-inst l = list_any (λ (g : Inst). is_scalar_specialization g.op && option_map_or (is_misfit l.«module» g) (option_and_then (get nat_cmp l.given) (spec_id l.decor g.result)) false) (take l.inst-index l.inst-items) ≡ false

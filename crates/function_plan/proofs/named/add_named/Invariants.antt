use Rattle.std.proofs.Common.{◌≡◌, ◌||◌, ℕ, take}
use Rattle.std.specs.List.{list_any}
use Rattle.id_map.specs.Entries.{is_in}
use Rattle.hoist_plan.specs.Kept.{form_in}
use Rattle.function_plan.specs.Planned.{names_id}
use Rattle.function_plan.proofs.named.add_named.Given as goal

abbrev pub invariant-loop-inst : goal.invariant-loop-inst
invariant-loop-inst l = (id : ℕ) → is_in l.ids id ≡ (is_in l.initial.ids id || list_any (names_id (form_in l.naming) l.reached id) (take l.inst-index l.block.insts))

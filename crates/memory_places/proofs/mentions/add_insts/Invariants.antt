use Rattle.std.proofs.Common.{◌≡◌, ◌||◌, ℕ, take}
use Rattle.std.specs.List.{list_any}
use Rattle.id_map.specs.Entries.{is_in}
use Rattle.module_semantics.specs.Setting.{has_operand}
use Rattle.memory_places.proofs.mentions.add_insts.Given as goal

abbrev pub invariant-loop-inst : goal.invariant-loop-inst
invariant-loop-inst l = (id : ℕ) → is_in l.ids id ≡ (is_in l.initial.ids id || list_any (has_operand id) (take l.inst-index l.insts))

use Rattle.std.proofs.Common.{◌≡◌, ◌&&◌, ◌||◌, ℕ, take}
use Rattle.std.specs.List.{list_any}
use Rattle.id_map.specs.Entries.{is_in}
use Rattle.spv_module.specs.declared.inst.Inst.{Inst}
use Rattle.text_rules.specs.Printed.{has_operand, is_private}
use Rattle.text_items.specs.State.{is_written_by}
use Rattle.text_items.proofs.needed.add_initializers.Given as goal

abbrev pub invariant-loop-inst : goal.invariant-loop-inst
invariant-loop-inst l = (id : ℕ) → is_in l.needed id ≡ (is_in l.initial.needed id || list_any (λ (g : Inst). is_private g && (is_written_by (is_in l.operand_ids) g && has_operand g id)) (take l.inst-index l.globals))

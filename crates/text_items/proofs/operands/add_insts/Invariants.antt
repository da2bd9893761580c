use Rattle.std.proofs.Common.{◌≡◌, ◌||◌, ℕ, take}
use Rattle.std.specs.List.{list_any}
use Rattle.id_map.specs.Entries.{is_in}
use Rattle.text_rules.specs.Printed.{has_operand}
use Rattle.text_items.proofs.operands.add_insts.Given as goal

abbrev pub invariant-loop-inst : goal.invariant-loop-inst
invariant-loop-inst l = (id : ℕ) → is_in l.ids id ≡ (is_in l.initial.ids id || list_any (λ i. has_operand i id) (take l.inst-index l.insts))

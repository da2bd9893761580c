use Rattle.std.proofs.Common.{◌≡◌, ◌||◌, ℕ, drop}
use Rattle.id_map.specs.Entries.{is_in}
use Rattle.spv_ops.specs.Operands.{has_id}
use Rattle.text_rules.specs.Printed.{has_operand_from}
use Rattle.text_items.proofs.operands.add_each.Given as goal

abbrev pub invariant-loop-k : goal.invariant-loop-k
invariant-loop-k l = (id : ℕ) → (is_in l.ids id || has_operand_from (has_id l.words) id l.k (drop l.k l.args)) ≡ (is_in l.initial.ids id || has_operand_from (has_id l.words) id 0 l.args)

use Rattle.std.proofs.Common.{◌≡◌, ℕ, take}
use Rattle.id_map.specs.Entries.{is_in}
use Rattle.text_rules.specs.Printed.{is_operand_in}
use Rattle.text_items.specs.State.{functions_at}
use Rattle.text_items.proofs.operands.operand_ids.Given as goal

abbrev pub invariant-loop-function : goal.invariant-loop-function
invariant-loop-function l = (id : ℕ) → is_in l.ids id ≡ is_operand_in (functions_at (take l.function-index l.functions)) id

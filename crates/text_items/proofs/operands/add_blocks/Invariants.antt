use Rattle.std.proofs.Common.{◌≡◌, ◌||◌, ℕ, take}
use Rattle.std.specs.List.{list_any, flat_map}
use Rattle.id_map.specs.Entries.{is_in}
use Rattle.text_rules.specs.Printed.{has_operand}
use Rattle.text_items.proofs.operands.add_blocks.Given as goal

abbrev pub invariant-loop-block : goal.invariant-loop-block
invariant-loop-block l = (id : ℕ) → is_in l.ids id ≡ (is_in l.initial.ids id || list_any (λ i. has_operand i id) (flat_map (λ b. b.insts) (take l.block-index l.blocks)))

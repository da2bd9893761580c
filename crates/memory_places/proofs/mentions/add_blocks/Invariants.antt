use Rattle.std.proofs.Common.{◌≡◌, ◌||◌, ℕ, take}
use Rattle.std.specs.List.{list_any, flat_map}
use Rattle.id_map.specs.Entries.{is_in}
use Rattle.module_semantics.specs.Setting.{has_operand}
use Rattle.memory_places.proofs.mentions.add_blocks.Given as goal

abbrev pub invariant-loop-block : goal.invariant-loop-block
invariant-loop-block l = (id : ℕ) → is_in l.ids id ≡ (is_in l.initial.ids id || list_any (has_operand id) (flat_map (λ b. b.insts) (take l.block-index l.blocks)))

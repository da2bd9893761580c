use Rattle.std.proofs.Common.{◌≡◌, ◌==◌, ◌||◌, ℕ, take}
use Rattle.std.specs.List.{list_any}
use Rattle.id_map.specs.Entries.{is_in}
use Rattle.declaration_check.proofs.elsewhere.add_blocks.Given as goal

abbrev pub invariant-loop-block : goal.invariant-loop-block
invariant-loop-block l = (id : ℕ) → is_in l.ids id ≡ (is_in l.initial.ids id || list_any (λ b. (b.label.0 == id) || list_any (λ i. i.result == id) b.insts) (take l.block-index l.blocks))

-- The list of the blocks that are held.
use Rattle.std.specs.Prelude.{ℕ, List, [], ◌∷◌}
use Rattle.structure_rules.specs.declared.targets.Held.{Held}
use Rattle.structure_rules.specs.declared.targets.Held.TheVariants.{One, Two, Listed}

abbrev pub held_list : Held → List ℕ
held_list (One block) = block ∷ []
held_list (Two blocks) = blocks
held_list (Listed blocks) = blocks.items

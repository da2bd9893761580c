-- Pointers as the program keeps them.
use Rattle.std.specs.Prelude.{ℕ, List}
use Rattle.std.specs.Borrow.{Bor}
use Rattle.module_semantics.specs.Operands.{Target}
use Rattle.run_state.specs.declared.held.Root.{Root}
use Rattle.run_state.specs.Ids.{root_of}

-- a variable and the indexes from there
abbrev pub target_of : Root × Bor (List ℕ) → Target
target_of p = (root_of p.0, p.1.now)

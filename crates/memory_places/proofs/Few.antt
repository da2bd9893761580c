-- Shapes of types, where the instructions of a module have few operands.
use Rattle.std.proofs.Common.{◌≡◌, ℕ, List, Option, Some, None, option_map, sym}
use Rattle.std.specs.Prelude.{IfSome}
use Rattle.std.specs.List.{All}
use Rattle.spv_module.specs.declared.inst.Inst.{Inst}
use Rattle.spv_module.specs.declared.tree.Shape.{Shape}
use Rattle.spv_types.specs.Types.{type_tree}
use Rattle.spv_types.specs.View.{tree_of}
use Rattle.few_law.specs.Short.{HasFewArgs}
use Rattle.few_law.specs.Few.{HasFewMembers}
use Rattle.few_law.proofs.FewMembers.{type_few}

pub few_there : (gs : List Inst) → All HasFewArgs gs → (id : ℕ) (shape : Option Shape) → option_map tree_of shape ≡ type_tree gs id → IfSome shape (λ (t : Shape). HasFewMembers (tree_of t))
few_there gs few id None is = tt
few_there gs few id (Some t) is = type_few gs few id (tree_of t) (sym is)

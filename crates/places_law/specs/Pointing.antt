-- Pointers that lead along parts that are there, and variables that lie where a program has numbers for it.
use Rattle.std.specs.Prelude.{◌≡◌, ◌≤◌, ◌⊎◌, ℕ, List, [], ◌∷◌, length, Option, Some}
use Rattle.spv_ops.specs.declared.StorageClass.TheVariants as storage
use Rattle.spv_module.specs.declared.inst.Inst.{Inst}
use Rattle.spv_types.specs.Tree.{Tree}
use Rattle.module_semantics.specs.Setting.{Setting}
use Rattle.module_semantics.specs.Memory.{class_of}
use Rattle.module_semantics.specs.State.{Root, global, Held, Frame, Conf}
use Rattle.module_semantics.specs.Accesses.{seen}
use Rattle.fits_law.specs.State.{global_shape}
use Rattle.agree_law.specs.Agree.{IfPointer}
use Rattle.memory_places.specs.Capped.{most_variables}
use Rattle.narrow_law.specs.Reach.{Along}
use Rattle.narrow_law.specs.Placed.{IsPlaced}

-- from a variable of the module
abbrev pub GoesAlong : Setting → Root → List ℕ → Type 0
GoesAlong s (global id) path = (t : Tree) → global_shape s id ≡ Some t → Along s t path
GoesAlong s _ path = Unit {0}

abbrev pub IdsAlong : Setting → (ℕ → Option Held) → Type 0
IdsAlong s ids = (n : ℕ) → IfPointer (ids n) (GoesAlong s)

abbrev pub CallsAlong : Setting → List (Frame × ℕ) → Type 0
CallsAlong s [] = Unit {0}
CallsAlong s (b ∷ bs) = IdsAlong s b.0.ids × CallsAlong s bs

-- all pointers of a state
abbrev pub IsAlong : Setting → Conf → Type 0
IsAlong s c = IdsAlong s c.top.ids × CallsAlong s c.below

-- the variables that others see are of workgroups, or their blocks take a layout; and there are not too many
pub record ArePlaced (s : Setting) : Type 0 where
  pub few : length s.of.globals ≤ most_variables
  pub each : (id : ℕ) (v : Inst) → seen s (global id) ≡ Some v → (class_of v ≡ Some storage.Workgroup) ⊎ IsPlaced s v

-- The structs of block variables, by the storage classes of these.
use Rattle.std.specs.Prelude.{ℕ, ◌≡◌, ◌==◌, Bool, true, List, Option, None, IfSome, IsSomeAnd, is_some, option_and_then, slice_index, if◌then◌else◌}
use Rattle.std.specs.List.{All}
use Rattle.spv_words.specs.declared.rule.Rule.{Rule}
use Rattle.spv_module.specs.Held.{global}
use Rattle.spv_module.specs.State.{ModuleState}
use Rattle.spv_module.specs.declared.inst.Inst.{Inst}
use Rattle.spv_index.specs.Pointers.{pointee}
use Rattle.layout_rules.specs.Blocks.{as_struct, block_of, members_of, members_break, first_kind, kind_of_members}

-- the id of the struct that the instruction points to, where it is a block variable of this class
abbrev pub struct_by : List Inst → ℕ → Inst → Option ℕ
struct_by gs class v = if slice_index v.args 0 == class then (if is_some (block_of gs v) then pointee gs v.ty else None) else None

abbrev pub struct_in : List Inst → ℕ → ℕ → Option ℕ
struct_in gs class id = option_and_then (struct_by gs class) (global gs id)

-- the block breaks the rule where a variable of this class has it
abbrev pub BlockBreaks : ModuleState → ℕ → Rule → Inst → Type 0
BlockBreaks m class rule block =
    (kind_of_members m.heads m.globals (first_kind m.heads class block.result) (members_of m.heads m.globals block) ≡ None)
    × (members_break m.heads m.globals (first_kind m.heads class block.result) (members_of m.heads m.globals block) rule ≡ true)

-- the struct with this id breaks no rule there
pub record IsLaidOut (m : ModuleState) (class id : ℕ) : Type 0 where
  pub none : (rule : Rule) → IsSomeAnd (option_and_then as_struct (global m.globals id)) (BlockBreaks m class rule) → ⊥

-- and so do all that were judged
pub record AreJudged (m : ModuleState) (class : ℕ) (judged : ℕ → Bool) : Type 0 where
  pub each : (id : ℕ) → judged id ≡ true → IsLaidOut m class id

-- the struct of each of these globals that is a block variable of the class
abbrev pub IsLaidOutAt : ModuleState → ℕ → Inst → Type 0
IsLaidOutAt m class g = IfSome (struct_in m.globals class g.result) (IsLaidOut m class)

abbrev pub AreLaidOut : ModuleState → ℕ → List Inst → Type 0
AreLaidOut m class gs = All (IsLaidOutAt m class) gs

-- What a type of a module is made of: its structs, and the constants that give the lengths of its arrays, stand before a word.
use Rattle.std.specs.Prelude.{◌≡◌, ◌⊎◌, ◌<◌, ℕ, true, false, Some}
use Rattle.spv_ops.specs.Opcode.{is}
use Rattle.spv_ops.specs.declared.Op.TheVariants as code
use Rattle.spv_module.specs.Held.{global}
use Rattle.spv_module.specs.State.{ModuleState}
use Rattle.spv_module.specs.declared.inst.Inst.{Inst}
use Rattle.spv_module.specs.declared.tree.Length.{Length}
use Rattle.spv_module.specs.declared.tree.Length.TheVariants.{Fixed, Spec}
use Rattle.spv_types.specs.Tree as plain
use Rattle.spv_types.specs.Tree.{Tree, Trees, no_trees, tree}
use Rattle.spv_types.specs.Types.{all_trees, tree_before}
use Rattle.spv_decor.specs.Rows.{word}
use Rattle.spv_index.specs.BlockStructs.{is_block}
use Rattle.plan_law.specs.InOrder.{IsAmong}

-- the specialization constant that gives a length, and the array
pub record IsSpecBefore (m : ModuleState) (n id : ℕ) : Type 0 where
  pub inst : Inst
  pub there : global m.globals id ≡ Some inst
  pub less : inst.at < n
  pub specialized : is inst.op code.Constant ≡ false
  pub array : Inst
  pub among : IsAmong array m.globals
  pub opcode : is array.op code.TypeArray ≡ true
  pub length : word array 1 ≡ id

abbrev pub IsLengthBefore : ModuleState → ℕ → Length → Type 0
IsLengthBefore m n (Fixed k) = Unit {0}
IsLengthBefore m n (Spec l) = IsSpecBefore m n l.0

-- of each struct holds what is asked
module _ (Q : Inst → Type 0) (m : ModuleState) (n : ℕ) where
  -- a struct, with its members
  pub record IsStructBefore (k : ℕ) (ts : Trees) : Type 0 where
    pub inst : Inst
    pub there : global m.globals k ≡ Some inst
    pub opcode : is inst.op code.TypeStruct ≡ true
    pub members : all_trees (tree_before m.globals inst.at) inst.args ≡ Some ts
    pub less : inst.at < n
    pub asked : Q inst

  abbrev mutual
    pub IsWithin : Tree → Type 0
    IsWithin (plain.vector e k) = (k ≡ 2) ⊎ ((k ≡ 3) ⊎ (k ≡ 4))
    IsWithin (plain.array t l) = IsWithin t × IsLengthBefore m n l
    IsWithin (plain.runtime t) = IsWithin t
    IsWithin (plain.struct k ts) = IsStructBefore k ts × AreWithin ts
    IsWithin _ = Unit {0}

    pub AreWithin : Trees → Type 0
    AreWithin no_trees = Unit {0}
    AreWithin (tree t ts) = IsWithin t × AreWithin ts

-- a struct is no block; and nothing is asked
abbrev pub IsNoBlock : ModuleState → Inst → Type 0
IsNoBlock m h = is_block m.heads h.result ≡ false

abbrev pub Anything : Inst → Type 0
Anything h = Unit {0}

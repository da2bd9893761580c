-- The form of a function's blocks, as the rule on the form of a module (P4) asks it.
use Rattle.std.specs.Prelude.{◌≡◌, ◌++◌, ℕ, true, false, List, [], ◌∷◌, Some, slice_get}
use Rattle.spv_ops.specs.Groups.{is_terminator}
use Rattle.spv_module.specs.declared.inst.Inst.{Inst}
use Rattle.spv_module.specs.declared.inst.Block.{Block}
use Rattle.spv_module.specs.declared.inst.Function.{Function}
use Rattle.module_semantics.specs.Steps.{is_phi}

abbrev pub ArePhis : List Inst → Type 0
ArePhis [] = Unit {0}
ArePhis (i ∷ is) = (is_phi i ≡ true) × ArePhis is

-- none of them is a phi or a terminator
abbrev pub ArePlain : List Inst → Type 0
ArePlain [] = Unit {0}
ArePlain (i ∷ is) = (is_phi i ≡ false) × (is_terminator i.op ≡ false) × ArePlain is

-- instructions that are neither, and a terminator
pub record IsEnded (insts : List Inst) : Type 0 where
  pub plain : List Inst
  pub are_plain : ArePlain plain
  pub last : Inst
  pub ends : is_terminator last.op ≡ true
  pub whole : insts ≡ plain ++ last ∷ []

-- phis, and such instructions behind them
pub record IsFormedBlock (insts : List Inst) : Type 0 where
  pub heads : List Inst
  pub are_phis : ArePhis heads
  pub behind : List Inst
  pub whole : insts ≡ heads ++ behind
  pub ended : IsEnded behind

-- a function has a first block, and each of its blocks is so
pub record IsFormedFunction (f : Function) : Type 0 where
  pub first : Block
  pub there : slice_get f.blocks 0 ≡ Some first
  pub blocks : (k : ℕ) (b : Block) → slice_get f.blocks k ≡ Some b → IsFormedBlock b.insts

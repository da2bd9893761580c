-- In which block each call under way stands: one that is reached, of which what is left of the call is the end.
use Rattle.std.specs.Prelude.{◌≡◌, ◌++◌, ℕ, List, Some, slice_get}
use Rattle.spv_ops.specs.declared.Terminator.{Terminator}
use Rattle.spv_module.specs.declared.inst.Inst.{Inst}
use Rattle.spv_module.specs.declared.inst.Block.{Block}
use Rattle.spv_module.specs.declared.inst.Function.{Function}
use Rattle.spv_index.specs.Locals.{block_in}
use Rattle.module_semantics.specs.Setting.{Setting}
use Rattle.module_semantics.specs.State.{Frame}
use Rattle.module_semantics.specs.Steps.{branch, step_kind, target_label, behind_phis}
use Rattle.agree_law.specs.Blocks.{IsOf}
use Rattle.call_law.specs.Known.{IsFunctionOf, IsCode}

-- IsReached: of a function, the block with this number
module _ (s : Setting) (IsReached : Function → ℕ → Type 0) where
  pub record IsInReached (f : Frame) : Type 0 where
    pub code : IsCode s f
    pub block : Block
    pub there : slice_get f.function.blocks f.block ≡ Some block
    pub reached : IsReached f.function f.block
    pub before : List Inst
    pub left : behind_phis block ≡ before ++ f.rest

  -- What the rules and the graph of each function say: a function has a first block, which is reached, and so is each to which a terminator of a reached block leads.
  pub record AreReached : Type 0 where
    pub first : (f : Function) → IsFunctionOf f s.of.functions → (b : Block) × (slice_get f.blocks 0 ≡ Some b) × IsReached f 0
    pub on : (f : Frame) → IsFunctionOf f.function s.of.functions → (block : Block) (i : Inst) (o : Terminator) (label t : ℕ) → slice_get f.function.blocks f.block ≡ Some block → IsReached f.function f.block → IsOf i block.insts → step_kind i.op ≡ branch o → target_label o s f i ≡ Some label → block_in f.function label ≡ Some t → IsReached f.function t

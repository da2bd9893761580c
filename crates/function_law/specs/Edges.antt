-- What is asked of the phis of a block, so that the pairs of a plan are theirs.
use Rattle.std.specs.Prelude.{◌≡◌, ◌≢◌, ◌⊎◌, not, ℕ, true, false, List, [], ◌∷◌, filter, slice_get, Some, None}
use Rattle.spv_module.specs.declared.inst.Inst.{Inst}
use Rattle.spv_module.specs.declared.inst.Block.{Block}
use Rattle.spv_module.specs.declared.inst.Function.{Function}
use Rattle.spv_index.specs.Locals.{block_in}
use Rattle.hoist_plan.specs.declared.form.Form.{Form}
use Rattle.function_plan.specs.Phis.{is_gone, values_in, comes_from, is_constant_id}
use Rattle.module_semantics.specs.Setting.{Setting}
use Rattle.module_semantics.specs.State.{Frame}
use Rattle.module_semantics.specs.Steps.{is_phi, phis, source_from}
use Rattle.agree_law.specs.Agree.{Naming}
use Rattle.agree_law.specs.Blocks.{IsOf}
use Rattle.edge_law.specs.Copies.{V}

-- a phi has a variable at the top of its function where its result is live, and one source from this block, which has this label
pub record IsGiven (m : Naming) (form : ℕ → Form) (f : Function) (b label : ℕ) (i : Inst) : Type 0 where
  pub phi : is_phi i ≡ true
  pub outer : m.is_outer i.result ≡ not (is_gone (form i.result))
  pub source : ℕ × ℕ
  pub one : filter (comes_from f b) (values_in i.args) ≡ source ∷ []
  pub from : source_from label i.args ≡ Some source.0

-- which ids are constants of the module, and which those of a function
pub record AreConstants (gs : List Inst) (s : Setting) (c : Frame) (constants : ℕ → V) : Type 0 where
  pub same : (n : ℕ) → is_constant_id gs n ≡ true → constants n ≡ s.constants n
  pub unset : (n : ℕ) → is_constant_id gs n ≡ true → c.ids n ≡ None
  pub only : (n : ℕ) → is_constant_id gs n ≡ false → s.constants n ≡ None

-- no two of these have one result
abbrev pub HaveOwnResults : List Inst → Type 0
HaveOwnResults [] = Unit {0}
HaveOwnResults (i ∷ is) = ((j : Inst) → IsOf j is → i.result ≢ j.result) × HaveOwnResults is

-- behind the first instruction that is no phi none is one
abbrev pub HaveNoPhi : List Inst → Type 0
HaveNoPhi [] = Unit {0}
HaveNoPhi (i ∷ is) = (is_phi i ≡ false) × HaveNoPhi is

abbrev pub ArePhisFirst : List Inst → Type 0
ArePhisFirst [] = Unit {0}
ArePhisFirst (i ∷ is) = ((is_phi i ≡ true) × ArePhisFirst is) ⊎ HaveNoPhi (i ∷ is)

-- Of the block to which an edge leads: its phis stand first, have results apart, variables where they are live, and one source from the block where the edge begins.
pub record ArePhisOf (m : Naming) (form : ℕ → Form) (f : Function) (b : ℕ) (block : Block) : Type 0 where
  pub from : Block
  pub there : slice_get f.blocks b ≡ Some from
  pub place : block_in f from.label.0 ≡ Some b
  pub first : ArePhisFirst block.insts
  pub apart : HaveOwnResults (phis block)
  pub outer : (i : Inst) → IsOf i (phis block) → m.is_outer i.result ≡ not (is_gone (form i.result))
  pub one : (i : Inst) → IsOf i (phis block) → (source : ℕ × ℕ) × (filter (comes_from f b) (values_in i.args) ≡ source ∷ [])

-- What live instructions mention.
use Rattle.std.specs.Prelude.{◌≡◌, ◌⊎◌, ℕ, Bool, true, false, List, Some, slice_get, slice_index_or}
use Rattle.spv_ops.specs.Opcode.{is}
use Rattle.spv_ops.specs.Groups.{is_chain}
use Rattle.spv_ops.specs.declared.Op.TheVariants as code
use Rattle.spv_module.specs.declared.inst.Inst.{Inst}
use Rattle.spv_module.specs.declared.inst.Block.{Block}
use Rattle.spv_module.specs.declared.inst.Function.{Function}
use Rattle.spv_types.specs.Tree.{Tree}
use Rattle.spv_types.specs.Types.{type_tree}
use Rattle.use_chains.specs.Slots.{is_slot, is_slot_in, inst_at, IsLive}
use Rattle.hoist_plan.specs.declared.form.Form.{Form}
use Rattle.hoist_plan.specs.declared.form.Form.TheVariants.{Forwarded, Local, Hoisted}
use Rattle.expr_forward.specs.Scope.{Scope, globals, type_of}
use Rattle.claim_law.specs.Claimed.{IsIn}

-- a live instruction of a reached block has the id as an operand that mentions a value
pub record IsMentioned (f : Function) (reached : List Bool) (block : ℕ) (i : Inst) (n : ℕ) : Type 0 where
  pub place : ℕ
  pub arg : ℕ
  pub there : inst_at f block place ≡ Some i
  pub here : slice_index_or reached block false ≡ true
  pub live : IsLive f reached block place
  pub slot : is_slot f reached i arg ≡ true
  pub word : slice_get i.args arg ≡ Some n

-- a live instruction has the id as an operand that has a slot: in a reached block one that mentions a value, and in any other the base of a chain
pub record IsLinked (f : Function) (reached : List Bool) (block : ℕ) (i : Inst) (n : ℕ) : Type 0 where
  pub place : ℕ
  pub arg : ℕ
  pub there : inst_at f block place ≡ Some i
  pub live : IsLive f reached block place
  pub slot : is_slot_in f reached (slice_index_or reached block false) i arg ≡ true
  pub word : slice_get i.args arg ≡ Some n

-- a chain of a block that is not reached, which a reached block needs: its indexes are kept all the same, or are constants that are written
pub record IsCaptured (w : Scope) (reached : List Bool) (block : ℕ) (i : Inst) : Type 0 where
  pub holder : Block
  pub there : slice_get w.setting.function.blocks block ≡ Some holder
  pub among : IsIn i holder.insts
  pub off : slice_index_or reached block false ≡ false
  pub chain : is_chain i.op ≡ true
  pub carried : w.carried i.result ≡ true

-- so stands a value in a block where it is mentioned, which is made in another: it has a variable at the top, or else is of this block
abbrev pub Stands : Form → ℕ → ℕ → Type 0
Stands x made here = (x ≡ Hoisted) ⊎ (((x ≡ Local) ⊎ (x ≡ Forwarded)) × (made ≡ here))

-- a value of a block: an instruction but a phi mentions it there, and its type has a shape
pub record IsValueIn (w : Scope) (reached : List Bool) (block n : ℕ) : Type 0 where
  pub user : Inst
  pub mentioned : IsMentioned w.setting.function reached block user n
  pub no_phi : is user.op code.Phi ≡ false
  pub shape : Tree
  pub shaped : type_tree (globals w) (type_of w n) ≡ Some shape

-- The points of a function at which a module's state and a text's state are compared.
use Rattle.std.specs.Prelude.{◌≡◌, ◌++◌, ℕ, List, [], ◌∷◌, Option, Some, None, slice_get}
use Rattle.spv_module.specs.declared.inst.Inst.{Inst}
use Rattle.spv_module.specs.declared.inst.Block.{Block}
use Rattle.spv_module.specs.declared.inst.Function.{Function}
use Rattle.spv_types.specs.Tree.{ValueTree}
use Rattle.op_semantics.specs.Component.{each_one}
use Rattle.traces.specs.Runs.{Supplied, supplied}
use Rattle.module_semantics.specs.Setting.{Setting}
use Rattle.module_semantics.specs.State.{Frame, Conf}
use Rattle.module_semantics.specs.Operands.{arg, value_at}
use Rattle.module_semantics.specs.Steps.{StepKind, return, return_value, step_kind, phis, behind_phis, phi_value, present_label, gone_to}
use Rattle.glsl_semantics.specs.Shapes.{Shape, Typed, typed}
use Rattle.glsl_semantics.specs.States.{State}
use Rattle.agree_law.specs.Agree.{Naming, Agree}
use Rattle.agree_law.specs.Blocks.{At}

-- these instructions behind those, the last one first
abbrev pub behind : List Inst → List Inst → List Inst
behind done [] = done
behind done (i ∷ is) = behind (i ∷ done) is

-- a block's instructions behind its phis: those before its terminator, and that
pub record Body (f : Function) (b : ℕ) : Type 0 where
  pub block : Block
  pub there : slice_get f.blocks b ≡ Some block
  pub insts : List Inst
  pub last : Inst
  pub whole : behind_phis block ≡ insts ++ last ∷ []

-- what a return gives: nothing, or the value of its operand, of the shape of what the function gives
abbrev pub GivesBy : Option Shape → Setting → Frame → Inst → StepKind → Option Typed → Type 0
GivesBy t s f i return r = (r ≡ None) × (t ≡ None)
GivesBy t s f i return_value (Some (typed u v)) = (t ≡ Some u) × (value_at s f (arg i 0) ≡ Some v)
GivesBy t s f i _ r = ⊥

module _ (m : Naming) (s : Setting) (Holds : Conf → Type 0) (f : Function) (body : (b : ℕ) → Option (Body f b)) where
  -- at the first instruction of a block behind its phis
  pub record Starts (b : ℕ) (c : Supplied Conf) (z : State) : Type 0 where
    pub body_of : Body f b
    pub is : body b ≡ Some body_of
    pub at : At m s Holds f b [] (body_of.insts ++ body_of.last ∷ []) c z

  -- at the last instruction of a block
  pub record Stops (b : ℕ) (c : Supplied Conf) (z : State) : Type 0 where
    pub body_of : Body f b
    pub is : body b ≡ Some body_of
    pub at : At m s Holds f b (behind [] body_of.insts) (body_of.last ∷ []) c z

  -- by the edge from a block to another, where its phis have the values of their sources there, and the text has not made the copies of the edge
  pub record Arrives (b t : ℕ) (c : Supplied Conf) (z : State) : Type 0 where
    pub from : Supplied Conf
    pub stops : Stops b from z
    pub block : Block
    pub values : List ValueTree
    pub there : slice_get f.blocks t ≡ Some block
    pub sources : each_one (phi_value s from.at.top (present_label from.at.top)) (phis block) ≡ Some values
    pub at : c ≡ supplied (gone_to from.at t block values) from.answers
    pub holds : Holds c.at

  -- at a return, with what is given
  pub record Returns (c : Supplied Conf) (r : Option Typed) (z : State) : Type 0 where
    pub last : Inst
    pub rest : c.at.top.rest ≡ last ∷ []
    pub gives : GivesBy m.result s c.at.top last (step_kind last.op) r
    pub agree : Agree m c.at z
    pub holds : Holds c.at
    pub answers : z.answers ≡ c.answers

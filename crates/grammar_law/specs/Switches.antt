-- What is known of a block that ends in OpSwitch, as its groups need it.
use Rattle.std.specs.Prelude.{◌≡◌, ℕ, true, List, ◌∷◌, map, Some, slice_get}
use Rattle.spv_module.specs.declared.inst.Inst.{Inst}
use Rattle.spv_module.specs.declared.inst.Function.{Function}
use Rattle.structure_rules.specs.declared.graph.Node.{Node}
use Rattle.structure_rules.specs.Graph.{nth, leads_to, index_of, is_conditional, is_switch, seconds}
use Rattle.structure_recover.specs.Follows.{last_inst}
use Rattle.claim_law.specs.Blocks.{FitWords}

-- its node leads to the blocks of its labels, the default first; its literals are words
pub record IsSwitchAt (f : Function) (g : List Node) (h : ℕ) : Type 0 where
  pub last : Inst
  pub selector : ℕ
  pub default : ℕ
  pub words : List ℕ
  pub last_is : last_inst (slice_get f.blocks h) ≡ Some last
  pub args : last.args ≡ selector ∷ default ∷ words
  pub leads : (nth g h).targets ≡ map (index_of f) (seconds last.args)
  pub fit : FitWords words

-- the block is reached; an edge leads from it to another; it ends in OpBranchConditional or OpSwitch
abbrev pub IsReached : List Node → ℕ → Type 0
IsReached g b = (nth g b).reached ≡ true

abbrev pub Leads : List Node → ℕ → ℕ → Type 0
Leads g b t = leads_to t (nth g b) ≡ true

pub data Chooses (g : List Node) (b : ℕ) : Type 0 where
  by_condition : is_conditional (nth g b).exit ≡ true → Chooses g b
  by_selector : is_switch (nth g b).exit ≡ true → Chooses g b

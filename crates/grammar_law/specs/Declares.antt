-- Where a function's variables are declared: at the start of its first block and nowhere else, as the rule on the form of a module (P4) asks it.
use Rattle.std.specs.Prelude.{◌≡◌, ◌++◌, true, false, List, [], ◌∷◌}
use Rattle.spv_module.specs.declared.inst.Inst.{Inst}
use Rattle.spv_module.specs.declared.inst.Block.{Block}
use Rattle.profile_rules.specs.Places.{is_variable}

abbrev pub AreVariables : List Inst → Type 0
AreVariables [] = Unit {0}
AreVariables (i ∷ is) = (is_variable i ≡ true) × AreVariables is

abbrev pub HaveNoVariable : List Inst → Type 0
HaveNoVariable [] = Unit {0}
HaveNoVariable (i ∷ is) = (is_variable i ≡ false) × HaveNoVariable is

abbrev pub NoneDeclare : List Block → Type 0
NoneDeclare [] = Unit {0}
NoneDeclare (b ∷ bs) = HaveNoVariable b.insts × NoneDeclare bs

-- variables, and instructions that are none behind them
pub record IsSplit (insts : List Inst) : Type 0 where
  pub variables : List Inst
  pub are_variables : AreVariables variables
  pub rest : List Inst
  pub none_behind : HaveNoVariable rest
  pub whole : insts ≡ variables ++ rest

-- the first block begins with all variables
pub record DeclaresFirst (blocks : List Block) : Type 0 where
  pub first : Block
  pub others : List Block
  pub whole : blocks ≡ first ∷ others
  pub split : IsSplit first.insts
  pub none_other : NoneDeclare others

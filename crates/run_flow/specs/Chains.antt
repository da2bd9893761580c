-- The chains of a function that are based on others.
use Rattle.std.specs.Prelude.{ℕ, ◌≡◌, ◌==◌, ◌&&◌, Bool, List, Option, IfSome}
use Rattle.std.specs.declared.alloc.Global.{Global}
use Rattle.std.specs.declared.vec.Vec.{Vec}
use Rattle.std.specs.List.{list_any}
use Rattle.spv_ops.specs.Groups.{is_chain}
use Rattle.spv_module.specs.declared.inst.Inst.{Inst}
use Rattle.spv_module.specs.declared.inst.Function.{Function}
use Rattle.spv_index.specs.Locals.{insts_of}
use Rattle.module_semantics.specs.Steps.{base, is_based_on}
use Rattle.module_semantics.specs.Setting.{is_listed}
use Rattle.run_flow.specs.Begun.{variables_among}

-- a chain with this base
abbrev pub is_chain_on : ℕ → Inst → Bool
is_chain_on id i = (base i == id) && is_chain i.op

-- a chain of the function has this base
abbrev pub is_base_in : Function → ℕ → Bool
is_base_in f id = list_any (is_chain_on id) (insts_of f)

-- the list has the chains that are based on this one
abbrev pub IsBasedList : Function → ℕ → List ℕ → Type 0
IsBasedList f chain list = (id : ℕ) → is_listed list id ≡ is_based_on f chain id

-- so have all of these
abbrev pub AreBased : Function → (ℕ → Option (Vec ℕ Global)) → Type 0
AreBased f known = (chain : ℕ) → IfSome (known chain) (λ (list : Vec ℕ Global). IsBasedList f chain list.items)

-- what is kept of a function
pub record IsRoutine (f : Function) (variables : List ℕ) (bases : ℕ → Bool) (known : ℕ → Option (Vec ℕ Global)) : Type 0 where
  pub its_variables : variables ≡ variables_among (insts_of f)
  pub its_bases : (id : ℕ) → bases id ≡ is_base_in f id
  pub its_chains : AreBased f known

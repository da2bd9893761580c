-- The state of a run: the calls under way, with the values of their ids and their variables.
use Rattle.std.specs.Prelude.{ℕ, ◌==◌, true, false, List, [], ◌∷◌, Option, Some, None, length}
use Rattle.spv_module.specs.declared.inst.Inst.{Inst}
use Rattle.spv_module.specs.declared.inst.Function.{Function}
use Rattle.spv_types.specs.Tree.{ValueTree}

-- The variable into which a pointer leads: one of the module; a variable of the present call; one of a call under way, by the number of calls below that one.
pub data Root : Type 0 where
  global : (id : ℕ) → Root
  own : (id : ℕ) → Root
  lent : (depth id : ℕ) → Root

-- what an id has: a value, or a pointer with the indexes that lead from the variable to the part
pub data Held : Type 0 where
  value : ValueTree → Held
  pointer : Root → List ℕ → Held

-- a call under way: its function, the block by its place, the instructions that are left of the block, what its ids have, and its variables
pub record Frame : Type 0 where
  pub function : Function
  pub block : ℕ
  pub rest : List Inst
  pub ids : ℕ → Option Held
  pub variables : ℕ → Option ValueTree

-- the present call; those below it, each with the id that waits for the result; the Private variables
pub record Conf : Type 0 where
  pub top : Frame
  pub below : List (Frame × ℕ)
  pub privates : ℕ → Option ValueTree

-- the map with this entry
abbrev pub put : {A : Type 0} → (ℕ → Option A) → ℕ → A → ℕ → Option A
put f n a k = elim (k == n) [ true ↦ Some a | false ↦ f k ]

abbrev pub with_top : Conf → Frame → Conf
with_top c f = record c { top = f }

-- the call below which so many calls stand, and the calls with another in its place
abbrev pub call_at : ℕ → List (Frame × ℕ) → Option Frame
call_at depth [] = None
call_at depth (b ∷ bs) = elim (length bs == depth) [ true ↦ Some b.0 | false ↦ call_at depth bs ]

abbrev pub with_call : ℕ → Frame → List (Frame × ℕ) → List (Frame × ℕ)
with_call depth f [] = []
with_call depth f (b ∷ bs) = elim (length bs == depth) [ true ↦ (f, b.1) ∷ bs | false ↦ b ∷ with_call depth f bs ]

abbrev pub with_variable : ℕ → ValueTree → Frame → Frame
with_variable id v f = record f { variables = put f.variables id v }

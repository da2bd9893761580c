-- When evaluations of a text do what a machine does.
use Rattle.std.specs.Prelude.{◌≡◌, ℕ, List, ◌∷◌, Option, length}
use Rattle.spv_module.specs.declared.inst.Inst.{Inst}
use Rattle.spv_module.specs.declared.inst.Function.{Function}
use Rattle.spv_types.specs.Tree.{ValueTree}
use Rattle.traces.specs.Events.{Event}
use Rattle.traces.specs.Runs.{Move, go, Supplied}
use Rattle.traces.specs.Outcomes.{Outcome, normal, cut, waits, stuck, Result, got}
use Rattle.traces.specs.Simulation.{Follows}
use Rattle.module_semantics.specs.Setting.{Setting}
use Rattle.module_semantics.specs.State.{Conf}
use Rattle.module_semantics.specs.Steps.{set_value}
use Rattle.glsl_semantics.specs.Shapes.{Typed, typed}
use Rattle.glsl_semantics.specs.States.{State}
use Rattle.agree_law.specs.Agree.{Naming, AgreeIn}
use Rattle.agree_law.specs.Blocks.{have_result, IsSettled}

abbrev pub as_outcome : {A : Type 0} → Result A → Outcome A (Option Typed)
as_outcome (got e a) = normal e a
as_outcome (cut e) = cut e
as_outcome (waits e) = waits e
as_outcome (stuck e) = stuck e

-- the machine follows the evaluation, and P holds where that gives something
module _ (C : Type 0) (step : C → Move C) (A : Type 0) (P : C → A → Type 0) (k : ℕ) where
  abbrev pub Evaluates : C → Result A → Type 0
  Evaluates c g = Follows C step A (Option Typed) P (λ d a. ⊥) (λ d a. ⊥) (λ d r a. ⊥) 0 k c (as_outcome g)

-- what is known of a module's state alone stays so in a call; what a call that it makes leaves of it is told where that one returns
abbrev pub IsKept : (Supplied Conf → Move (Supplied Conf)) → (Conf → Type 0) → Type 0
IsKept step Holds = (c d : Supplied Conf) (e : List Event) → length d.at.below ≡ length c.at.below → step c ≡ go e d → Holds c.at → Holds d.at

-- The machine is where the instruction's result has just got the value to which the evaluation came; all else agrees, as it did before.
pub record Gets (m : Naming) (s : Setting) (Holds : Conf → Type 0) (f : Function) (b : ℕ) (done : List Inst) (i : Inst) (rest : List Inst) (d : Supplied Conf) (r : Typed × State) : Type 0 where
  pub before : Conf
  pub function : before.top.function ≡ f
  pub block : before.top.block ≡ b
  pub agree : AgreeIn m (have_result done) before r.1
  pub answers : r.1.answers ≡ d.answers
  pub value : ValueTree
  pub comes_to : r.0 ≡ typed (m.shape i.result) value
  pub at : d.at ≡ set_value before rest i value
  pub settled : IsSettled s (i ∷ done) d.at.top
  pub holds : Holds d.at

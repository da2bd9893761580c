-- A state of a module's run in a block, behind some of its instructions, and a state of its text's run.
use Rattle.std.specs.Prelude.{◌≡◌, ◌≢◌, ◌⊎◌, ◌==◌, ◌++◌, ℕ, Bool, true, false, List, [], ◌∷◌, drop, Option, None, option_map, option_and_then}
use Rattle.spv_module.specs.declared.inst.Inst.{Inst}
use Rattle.spv_module.specs.declared.inst.Function.{Function}
use Rattle.spv_types.specs.Tree.{word}
use Rattle.traces.specs.Runs.{Supplied}
use Rattle.module_semantics.specs.Setting.{Setting}
use Rattle.module_semantics.specs.State.{Held, value, pointer, Frame, Conf}
use Rattle.module_semantics.specs.Operands.{held, pointer_at, words_at, value_operands, arg, Target}
use Rattle.module_semantics.specs.Accesses.{seen}
use Rattle.module_semantics.specs.Memory.{elements}
use Rattle.module_semantics.specs.Steps.{StepKind, operation, chain, array_length, step_kind, computed, base}
use Rattle.glsl_semantics.specs.States.{State}
use Rattle.region_law.specs.Leads.{In}
use Rattle.agree_law.specs.Agree.{Naming, AgreeIn}

-- it is one of these
abbrev pub IsOf : Inst → List Inst → Type 0
IsOf i [] = ⊥
IsOf i (j ∷ js) = (j ≡ i) ⊎ IsOf i js

-- one of these has this result
abbrev pub with_done : (ℕ → Bool) → ℕ → ℕ → Bool
with_done done n k = elim (k == n) [ true ↦ true | false ↦ done k ]

abbrev pub have_result : List Inst → ℕ → Bool
have_result [] = λ n. false
have_result (i ∷ is) = with_done (have_result is) i.result

-- What an instruction without effect has as its result, from what its operands have now: an operation, a chain, the length of an array.
abbrev pub led : Setting → Frame → Inst → Option Held
led s f i = option_and_then (λ (p : Target). option_map (λ (is : List ℕ). pointer p.0 (p.1 ++ is)) (words_at s f (drop 1 i.args))) (pointer_at s f (base i))

abbrev pub measured : Setting → Frame → Inst → Option Held
measured s f i = option_and_then (λ (p : Target). option_map (λ (v : Inst). value (word (elements s v (arg i 1)))) (seen s p.0)) (pointer_at s f (arg i 0))

abbrev pub outcome : StepKind → Setting → Frame → Inst → Option Held
outcome operation s f i = option_map value (computed s f i)
outcome chain s f i = led s f i
outcome array_length s f i = measured s f i
outcome _ s f i = None

abbrev pub has_outcome : StepKind → Bool
has_outcome operation = true
has_outcome chain = true
has_outcome array_length = true
has_outcome _ = false

-- the ids that it reads
abbrev pub read_ids : StepKind → Inst → List ℕ
read_ids operation i = value_operands i.op i.args
read_ids chain i = base i ∷ drop 1 i.args
read_ids array_length i = arg i 0 ∷ []
read_ids _ i = []

abbrev pub reads : Inst → List ℕ
reads i = read_ids (step_kind i.op) i

-- Of the module alone: what these instructions without effect have is that of their operands now. So an expression may stand for a result wherever it is read in the block.
pub record IsSettled (s : Setting) (done : List Inst) (f : Frame) : Type 0 where
  pub still : (i : Inst) → IsOf i done → has_outcome (step_kind i.op) ≡ true → held s f i.result ≡ outcome (step_kind i.op) s f i

-- the instruction's result is none of theirs, and neither they nor it read it: operands stand before what reads them
pub record IsNew (i : Inst) (done : List Inst) : Type 0 where
  pub result : (j : Inst) → IsOf j done → j.result ≢ i.result
  pub unread : (j : Inst) → IsOf j done → (n : ℕ) → In n (reads j) → n ≢ i.result
  pub own : (n : ℕ) → In n (reads i) → n ≢ i.result

-- Holds is what else is known of the module's state alone
module _ (m : Naming) (s : Setting) (Holds : Conf → Type 0) (f : Function) (b : ℕ) where
  -- in this block of this function, behind these instructions
  pub record Stands (done : List Inst) (c : Supplied Conf) (z : State) : Type 0 where
    pub function : c.at.top.function ≡ f
    pub block : c.at.top.block ≡ b
    pub agree : AgreeIn m (have_result done) c.at z
    pub settled : IsSettled s done c.at.top
    pub holds : Holds c.at
    pub answers : z.answers ≡ c.answers

  -- and at these
  pub record At (done rest : List Inst) (c : Supplied Conf) (z : State) : Type 0 where
    pub stands : Stands done c z
    pub next : c.at.top.rest ≡ rest

-- A block's text does what its instructions do, where the text of each does what that one does.
use Rattle.std.proofs.Common.{◌≡◌, ◌++◌, ℕ, List, [], ◌∷◌, Option, Some, inl, inr, sym, subst}
use Rattle.std.specs.Prelude.{flat_map}
use Rattle.spv_module.specs.declared.inst.Inst.{Inst}
use Rattle.spv_module.specs.declared.inst.Function.{Function}
use Rattle.traces.specs.Runs.{Move, Supplied}
use Rattle.traces.specs.Outcomes.{normal, breaks, continues, returns, cut, waits, stuck, Result}
use Rattle.traces.specs.Simulation.{Follows}
use Rattle.traces.proofs.Moves.{Never, NeverGives, stays, part_then}
use Rattle.module_semantics.specs.Setting.{Setting}
use Rattle.module_semantics.specs.State.{Conf}
use Rattle.glsl_ast.specs.Tree.{Text, Stmt, stmts_in}
use Rattle.glsl_semantics.specs.Shapes.{Typed}
use Rattle.glsl_semantics.specs.States.{State}
use Rattle.glsl_semantics.specs.Expressions.{Program, Argument}
use Rattle.glsl_semantics.specs.Statements.{Run, stmts_run}
use Rattle.glsl_semantics.proofs.Appended.{run_append}
use Rattle.agree_law.specs.Agree.{Naming}
use Rattle.agree_law.specs.Blocks.{At}
use Rattle.agree_law.specs.Points.{behind, Body, Starts, Stops}

module _ (p : Program) (calls : Text → List Argument → State → Result (Option Typed × State)) (k : ℕ) (m : Naming) (s : Setting) (Holds : Conf → Type 0) (f : Function) (step : Supplied Conf → Move (Supplied Conf)) (text : Inst → List Stmt) where
  abbrev runs : List Stmt → State → Run
  runs xs = stmts_run p calls k (stmts_in xs)

  abbrev Does : (Supplied Conf → State → Type 0) → Supplied Conf → Run → Type 0
  Does P c o = Follows (Supplied Conf) step State (Option Typed) P (Never (Supplied Conf) step State (Option Typed)) (Never (Supplied Conf) step State (Option Typed)) (NeverGives (Supplied Conf) step State (Option Typed)) 0 k c o

  -- where more is known of what holds behind
  pub mapped : (P Q : Supplied Conf → State → Type 0) (c : Supplied Conf) (o : Run) → ((d : Supplied Conf) (y : State) → P d y → Q d y) → Does P c o → Does Q c o
  mapped P Q c (normal e y) more (inl l) = inl (record { to = l.to; comes = l.comes; holds = more l.to y l.holds })
  mapped P Q c (breaks e y) more (inl l) = absurd l.holds
  mapped P Q c (continues e y) more (inl l) = absurd l.holds
  mapped P Q c (returns e r y) more (inl l) = absurd l.holds
  mapped P Q c (cut e) more (inl l) = inl l
  mapped P Q c (waits e) more (inl l) = inl l
  mapped P Q c (stuck e) more (inl l) = absurd l
  mapped P Q c (normal e y) more (inr b) = inr b
  mapped P Q c (breaks e y) more (inr b) = inr b
  mapped P Q c (continues e y) more (inr b) = inr b
  mapped P Q c (returns e r y) more (inr b) = inr b
  mapped P Q c (cut e) more (inr b) = inr b
  mapped P Q c (waits e) more (inr b) = inr b
  mapped P Q c (stuck e) more (inr b) = inr b

  -- what is written of an instruction does what it does
  abbrev pub InstFollows : ℕ → List Inst → Inst → List Inst → Type 0
  InstFollows b done i rest = (c : Supplied Conf) (z : State) → At m s Holds f b done (i ∷ rest) c z → Does (At m s Holds f b (i ∷ done) rest) c (runs (text i) z)

  abbrev pub AllFollow : ℕ → List Inst → List Inst → List Inst → Type 0
  AllFollow b done [] last = Unit {0}
  AllFollow b done (i ∷ is) last = InstFollows b done i (is ++ last) × AllFollow b (i ∷ done) is last

  pub insts_follow : (b : ℕ) (is done last : List Inst) → AllFollow b done is last → (c : Supplied Conf) (z : State) → At m s Holds f b done (is ++ last) c z → Does (At m s Holds f b (behind done is) last) c (runs (flat_map text is) z)
  insts_follow b [] done last all c z at = inl (record { to = c; comes = stays (Supplied Conf) step c; holds = at })
  insts_follow b (i ∷ is) done last all c z at =
      subst (Does (At m s Holds f b (behind (i ∷ done) is) last) c) (sym (run_append p calls k (text i) (flat_map text is) z))
      (part_then (Supplied Conf) step State (Option Typed) (At m s Holds f b (behind (i ∷ done) is) last) (Never (Supplied Conf) step State (Option Typed)) (Never (Supplied Conf) step State (Option Typed)) (NeverGives (Supplied Conf) step State (Option Typed)) (At m s Holds f b (i ∷ done) (is ++ last)) 0 0 k c (runs (flat_map text is)) (runs (text i) z)
      (all.0 c z at) (λ d y now. insts_follow b is (i ∷ done) last all.1 d y now))

module _ (p : Program) (calls : Text → List Argument → State → Result (Option Typed × State)) (k : ℕ) (m : Naming) (s : Setting) (Holds : Conf → Type 0) (f : Function) (step : Supplied Conf → Move (Supplied Conf)) (text : ℕ → Inst → List Stmt) where
  -- So a block's text leads from its first instruction to its last.
  pub block_follows : (body : (b : ℕ) → Option (Body f b)) (statements : ℕ → List Stmt) → ((b : ℕ) (o : Body f b) → body b ≡ Some o → (statements b ≡ flat_map (text b) o.insts) × AllFollow p calls k m s Holds f step (text b) b [] o.insts (o.last ∷ []))
      → (b : ℕ) (c : Supplied Conf) (z : State) → Starts m s Holds f body b c z → Does p calls k m s Holds f step (text b) (Stops m s Holds f body b) c (stmts_run p calls k (stmts_in (statements b)) z)
  block_follows body statements written b c z start =
      let w = written b start.body_of start.is in
      subst (λ (xs : List Stmt). Does p calls k m s Holds f step (text b) (Stops m s Holds f body b) c (stmts_run p calls k (stmts_in xs) z)) (sym w.0)
      (mapped p calls k m s Holds f step (text b) (At m s Holds f b (behind [] start.body_of.insts) (start.body_of.last ∷ [])) (Stops m s Holds f body b) c (stmts_run p calls k (stmts_in (flat_map (text b) start.body_of.insts)) z) (λ d y at. record { body_of = start.body_of; is = start.is; at = at })
      (insts_follow p calls k m s Holds f step (text b) b start.body_of.insts [] (start.body_of.last ∷ []) w.1 c z start.at))

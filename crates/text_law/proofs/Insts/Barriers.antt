-- What is written of a barrier is a call for each of its events, where the text has no functions with the names of those and its semantics are a constant that says its word.
use Rattle.std.proofs.Common.{◌≡◌, ◌++◌, ◌==◌, ℕ, Bool, true, false, List, [], ◌∷◌, map, Option, Some, refl, ap, ◌∙◌, if◌then◌else◌}
use Rattle.std.specs.Prelude.{codes, bit_and}
use Rattle.spv_module.specs.State.{ModuleState}
use Rattle.spv_module.specs.declared.inst.Inst.{Inst}
use Rattle.conformance.specs.Rules.{Options}
use Rattle.traces.specs.Events.{Event, control_barrier}
use Rattle.traces.specs.Events as event
use Rattle.traces.specs.Invocations.{Invocation}
use Rattle.traces.specs.Runs.{Supplied}
use Rattle.traces.specs.Outcomes.{Result}
use Rattle.module_semantics.specs.State.{Conf}
use Rattle.module_semantics.specs.Operands.{word_at, arg}
use Rattle.module_semantics.specs.Steps.{memory_barriers}
use Rattle.glsl_ast.specs.Tree.{Text, no_exprs, Stmt, TranslationUnit}
use Rattle.glsl_semantics.specs.Shapes.{Typed}
use Rattle.glsl_semantics.specs.States.{State}
use Rattle.glsl_semantics.specs.Expressions.{Program, Argument, CallKind, user, barrier, atomic_function, atomic_or, call_kind}
use Rattle.expr_forward.specs.Statements.{bare_call, semantics, memory_barrier_text, control_barrier_text}
use Rattle.function_text.specs.Functions.{FunctionPlan, written}
use Rattle.unit_rules.specs.Unit.{IsUnitOf}
use Rattle.agree_law.specs.Agree.{AreApart}
use Rattle.agree_law.specs.Evaluates.{IsKept}
use Rattle.agree_law.specs.Points.{Body}
use Rattle.agree_law.proofs.Accesses.{AreBarriers}
use Rattle.agree_law.proofs.Machine.{machine}
use Rattle.call_law.specs.Known.{IsFunctionOf, LendsWhole}
use Rattle.typed_law.specs.Conforms.{IsConforming}
use Rattle.claim_law.specs.Claimed.{IsIn}
use Rattle.grammar_law.proofs.Unit.Ways.{HaveKinds}
use Rattle.grammar_law.specs.Formed.{IsFormedFunction}
use Rattle.text_law.proofs.Naming.Keys.{S, names}
use Rattle.text_law.proofs.Insts.Asks.{LeftOfBarriers, Here}

-- no function of the text has the name of a barrier
pub record HasNoBarriers (p : Program) : Type 0 where
  pub buffers : p.is_function (codes "memoryBarrierBuffer") ≡ false
  pub shared : p.is_function (codes "memoryBarrierShared") ≡ false
  pub control : p.is_function (codes "barrier") ≡ false

built_in : (p : Program) (w : Text) (e : Event) → p.is_function w ≡ false → atomic_or w (atomic_function w) ≡ barrier e → call_kind p w ≡ barrier e
built_in p w e off is = ap (λ (b : Bool). elim b as (λ b. CallKind) [ true ↦ user | false ↦ atomic_or w (atomic_function w) ]) off ∙ is

abbrev buffers_made : Text × Event
buffers_made = (codes "memoryBarrierBuffer", event.buffer_barrier)

abbrev shared_made : Text × Event
shared_made = (codes "memoryBarrierShared", event.shared_barrier)

abbrev control_made : Text × Event
control_made = (codes "barrier", control_barrier)

abbrev call_of : Text × Event → Stmt
call_of q = Stmt.call q.0 no_exprs

-- whether a bit is off
abbrev made_if : Bool → Text × Event → List (Text × Event)
made_if off q = if off then [] else q ∷ []

abbrev made_by : Bool → Bool → List (Text × Event)
made_by a b = made_if a buffers_made ++ made_if b shared_made

abbrev text_by : Bool → Bool → List Stmt
text_by a b = (if a then [] else bare_call (codes "memoryBarrierBuffer")) ++ (if b then [] else bare_call (codes "memoryBarrierShared"))

abbrev events_by : Bool → Bool → List Event
events_by a b = (if a then [] else event.buffer_barrier ∷ []) ++ (if b then [] else event.shared_barrier ∷ [])

memory_text : (a b : Bool) → text_by a b ≡ map call_of (made_by a b)
memory_text true true = refl
memory_text true false = refl
memory_text false true = refl
memory_text false false = refl

control_text : (a b : Bool) → text_by a b ++ bare_call (codes "barrier") ≡ map call_of (made_by a b ++ control_made ∷ [])
control_text true true = refl
control_text true false = refl
control_text false true = refl
control_text false false = refl

memory_events : (a b : Bool) → map (λ (q : Text × Event). q.1) (made_by a b) ≡ events_by a b
memory_events true true = refl
memory_events true false = refl
memory_events false true = refl
memory_events false false = refl

control_events : (a b : Bool) → map (λ (q : Text × Event). q.1) (made_by a b ++ control_made ∷ []) ≡ events_by a b ++ control_barrier ∷ []
control_events true true = refl
control_events true false = refl
control_events false true = refl
control_events false false = refl

abbrev is_off : ℕ → ℕ → Bool
is_off v bit = bit_and v bit == 0

module _ (m : ModuleState) (opts : Options) (right : IsConforming m opts.entry) (kinds : HaveKinds m.globals) (unit : TranslationUnit) (u : IsUnitOf m opts unit) (inv : Invocation) (p : FunctionPlan) (among : IsIn p u.plans) (lends : LendsWhole (S m opts unit u inv)) (is_one : IsFunctionOf (written p) m.functions)
    (program : Program) (calls : Text → List Argument → State → Result (Option Typed × State)) (k : ℕ) (apart : AreApart (names m opts unit u inv p)) (Holds : Conf → Type 0) (keeps : IsKept (machine (S m opts unit u inv)) Holds) (form : IsFormedFunction (written p)) (none : HasNoBarriers program)
    (b : ℕ) (o : Body (written p) b) (done : List Inst) (i : Inst) (rest : List Inst) where
  abbrev Are : List (Text × Event) → Type 0
  Are qs = AreBarriers program calls k (names m opts unit u inv p) apart (S m opts unit u inv) Holds (written p) b (machine (S m opts unit u inv)) keeps done i (rest ++ o.last ∷ []) qs

  buffers_so : call_kind program (codes "memoryBarrierBuffer") ≡ barrier event.buffer_barrier
  buffers_so = built_in program (codes "memoryBarrierBuffer") event.buffer_barrier none.buffers refl

  shared_so : call_kind program (codes "memoryBarrierShared") ≡ barrier event.shared_barrier
  shared_so = built_in program (codes "memoryBarrierShared") event.shared_barrier none.shared refl

  control_so : call_kind program (codes "barrier") ≡ barrier control_barrier
  control_so = built_in program (codes "barrier") control_barrier none.control refl

  memory_are : (x y : Bool) → Are (made_by x y)
  memory_are true true = tt
  memory_are true false = (shared_so, tt)
  memory_are false true = (buffers_so, tt)
  memory_are false false = (buffers_so, (shared_so, tt))

  control_are : (x y : Bool) → Are (made_by x y ++ control_made ∷ [])
  control_are true true = (control_so, tt)
  control_are true false = (shared_so, (control_so, tt))
  control_are false true = (buffers_so, (control_so, tt))
  control_are false false = (buffers_so, (shared_so, (control_so, tt)))

  -- the semantics are what the text reads of them
  abbrev pub AreRead : ℕ → Type 0
  AreRead n = (c : Supplied Conf) (z : State) → Here m opts right kinds unit u inv p among lends is_one program calls k apart Holds keeps form b o done i rest c z → (v : ℕ) → word_at (S m opts unit u inv) c.at.top n ≡ Some v → semantics p.scope n ≡ v

  pub memory_barrier_left : AreRead (arg i 1) → LeftOfBarriers m opts right kinds unit u inv p among lends is_one program calls k apart Holds keeps form b o done i rest (arg i 1) (memory_barrier_text p.scope i) memory_barriers
  memory_barrier_left read =
      let v = semantics p.scope (arg i 1) in
      record {
        made = made_by (is_off v 0x40) (is_off v 0x100);
        text = memory_text (is_off v 0x40) (is_off v 0x100);
        are = memory_are (is_off v 0x40) (is_off v 0x100);
        say = λ c z here n at. memory_events (is_off v 0x40) (is_off v 0x100) ∙ ap memory_barriers (read c z here n at);
      }

  pub control_barrier_left : AreRead (arg i 2) → LeftOfBarriers m opts right kinds unit u inv p among lends is_one program calls k apart Holds keeps form b o done i rest (arg i 2) (control_barrier_text p.scope i) (λ v. memory_barriers v ++ control_barrier ∷ [])
  control_barrier_left read =
      let v = semantics p.scope (arg i 2) in
      record {
        made = made_by (is_off v 0x40) (is_off v 0x100) ++ control_made ∷ [];
        text = control_text (is_off v 0x40) (is_off v 0x100);
        are = control_are (is_off v 0x40) (is_off v 0x100);
        say = λ c z here n at. control_events (is_off v 0x40) (is_off v 0x100) ∙ ap (λ (w : ℕ). memory_barriers w ++ control_barrier ∷ []) (read c z here n at);
      }

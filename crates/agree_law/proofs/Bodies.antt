-- The text of a function's body does what its blocks do, from the first one on until a return.
use Rattle.std.proofs.Common.{◌≡◌, ℕ, Bool, List, ◌∷◌, Option, Some, None, inl, inr, refl}
use Rattle.spv_module.specs.declared.inst.Inst.{Inst}
use Rattle.spv_module.specs.declared.inst.Function.{Function}
use Rattle.structure_recover.specs.Tree.{Region, ends, item, Groups}
use Rattle.control_text.specs.declared.place.Place.{Place}
use Rattle.control_text.specs.Statements.{Blocks, region_text}
use Rattle.traces.specs.Runs.{Supplied}
use Rattle.traces.specs.Outcomes.{normal, breaks, continues, returns, cut, waits, stuck, Result}
use Rattle.traces.specs.Simulation.{Follows}
use Rattle.traces.proofs.Moves.{Never}
use Rattle.module_semantics.specs.Setting.{Setting}
use Rattle.module_semantics.specs.State.{Conf}
use Rattle.glsl_ast.specs.Tree.{Text, Stmt, stmts_in}
use Rattle.glsl_semantics.specs.Shapes.{Typed}
use Rattle.glsl_semantics.specs.States.{State}
use Rattle.glsl_semantics.specs.Expressions.{Program, Argument}
use Rattle.glsl_semantics.specs.Statements.{Run, stmts_run}
use Rattle.list_law.proofs.Options.{none_or_some}
use Rattle.region_law.specs.Leads.{Term, Ways, IsItem, Leads}
use Rattle.region_law.proofs.Regions.{names_of, F, region_follows}
use Rattle.agree_law.specs.Agree.{Naming}
use Rattle.agree_law.specs.Evaluates.{IsKept}
use Rattle.agree_law.specs.Points.{Body}
use Rattle.agree_law.proofs.Machine.{machine}
use Rattle.agree_law.proofs.Points.{Start, Stop, Arrive, Return}
use Rattle.agree_law.proofs.Closed.{AreCases, AreWritten, facts}

-- no way leads out
pub record AreNone (v : Ways) : Type 0 where
  pub normal : v.normal ≡ None
  pub fall : v.fall ≡ None
  pub leave : v.leave ≡ None
  pub again : v.again ≡ None
  pub out : v.out ≡ None

module _ (p : Program) (calls : Text → List Argument → State → Result (Option Typed × State)) (k : ℕ) (m : Naming) (s : Setting) (Holds : Conf → Type 0) (keeps : IsKept (machine s) Holds) (f : Function) (body : (b : ℕ) → Option (Body f b))
    (w : Blocks) (term : ℕ → Term) (falls : ℕ → Option ℕ) (IsFlag : Text → Type 0) (text : ℕ → Inst → List Stmt) where
  abbrev C : Type 0
  C = Supplied Conf

  abbrev Cases : ℕ → Groups → Type 0
  Cases = AreCases p calls k m s Holds keeps f body w term falls IsFlag text

  -- until a return, where what is given agrees
  abbrev pub Gives : C → Run → Type 0
  Gives c o = Follows C (machine s) State (Option Typed) (Never C (machine s) State (Option Typed)) (Never C (machine s) State (Option Typed)) (Never C (machine s) State (Option Typed)) (Return m s Holds f body) 0 k c o

  abbrev known : Text → Option (Option Bool)
  known x = None

  abbrev Follows' : List (List Text) → Ways → ℕ → C → Run → Type 0
  Follows' ns v u c o = F C (machine s) p calls w term falls Cases k IsFlag (Start m s Holds f body) (Stop m s Holds f body) (Arrive m s Holds f body) (Return m s Holds f body) known known ns v u c o

  ends_so : (ns : List (List Text)) (v : Ways) (u : ℕ) (c : C) (o : Run) → AreNone v → Follows' ns v u c o → Gives c o
  ends_so ns v u c (normal e y) out (inl l) = elim l.holds [ inl a ↦ absurd (none_or_some v.normal a.to out.normal a.is) | inr a ↦ absurd (none_or_some v.fall a.to out.fall a.is) ]
  ends_so ns v u c (breaks e y) out (inl l) = elim l.holds [ inl a ↦ absurd (none_or_some v.leave a.to out.leave a.is) | inr a ↦ absurd (none_or_some v.out (a.flag, a.to) out.out a.is) ]
  ends_so ns v u c (continues e y) out (inl l) = absurd (none_or_some v.again l.holds.to out.again l.holds.is)
  ends_so ns v u c (returns e r y) out (inl l) = inl (record { to = l.to; comes = l.comes; holds = l.holds.is })
  ends_so ns v u c (cut e) out (inl l) = inl l
  ends_so ns v u c (waits e) out (inl l) = inl l
  ends_so ns v u c (stuck e) out (inl l) = absurd l
  ends_so ns v u c (normal e y) out (inr b) = inr b
  ends_so ns v u c (breaks e y) out (inr b) = inr b
  ends_so ns v u c (continues e y) out (inr b) = inr b
  ends_so ns v u c (returns e r y) out (inr b) = inr b
  ends_so ns v u c (cut e) out (inr b) = inr b
  ends_so ns v u c (waits e) out (inr b) = inr b
  ends_so ns v u c (stuck e) out (inr b) = inr b

  pub body_follows : AreWritten p calls k m s Holds keeps f body w term falls IsFlag text → (r : Region) (pl : Place) (v : Ways) → AreNone v → IsItem r → Leads w term falls Cases r pl v 0
      → (c : C) (z : State) → Start m s Holds f body 0 c z → (top : List Text) (ns : List (List Text)) → names_of z.frames ≡ top ∷ ns → Gives c (stmts_run p calls k (stmts_in (region_text w pl r)) z)
  body_follows a (ends e) pl v out is leads c z start top ns shape = absurd is
  body_follows a (item i r) pl v out is leads c z start top ns shape =
      ends_so ns v _ c _ out
      (region_follows C (machine s) p calls w term falls Cases k IsFlag (Start m s Holds f body) (Stop m s Holds f body) (Arrive m s Holds f body) (Return m s Holds f body) (facts p calls k m s Holds keeps f body w term falls IsFlag text a) (item i r) pl known known ns v 0
      (record { out = λ l t e. absurd (none_or_some v.out (l, t) out.out e); fall = λ t x e i. absurd (none_or_some v.fall t out.fall e) })
      (λ x u e. absurd (none_or_some (known x) u refl e))
      (λ x u e. absurd (none_or_some (known x) u refl e))
      leads c z start
      (record {
        by = λ x b e. absurd (none_or_some (known x) (Some b) refl e);
        some = λ x e. absurd (none_or_some (known x) None refl e);
        flag = λ x u e. absurd (none_or_some (known x) u refl e);
        top = top;
        shape = shape;
        shut = λ x u e. absurd (none_or_some (known x) u refl e);
        outer = λ x u e. absurd (none_or_some (known x) u refl e);
      }))

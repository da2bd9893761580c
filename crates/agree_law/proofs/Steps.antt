-- Single steps of the machine, and the statements that are written of them: values of operations, and stores to Function variables.
use Rattle.std.proofs.Common.{◌≡◌, ℕ, Bool, true, false, List, [], Option, Some, inl, refl, sym, ap, ◌∙◌, subst, arith}
use Rattle.spv_module.specs.declared.inst.Inst.{Inst}
use Rattle.spv_types.specs.Tree.{ValueTree}
use Rattle.traces.specs.Runs.{Move, go, Supplied, supplied}
use Rattle.traces.specs.Outcomes.{normal, stuck, Result, got, or_stuck, on_got, with_before, cut, waits}
use Rattle.traces.specs.Simulation.{Follows}
use Rattle.traces.proofs.Moves.{Never, NeverGives, begun_none, one_step, fewer}
use Rattle.module_semantics.specs.State.{Conf, put, with_top}
use Rattle.glsl_ast.specs.Tree.{Text, TypeName, Expr, declare, assign, lvalue}
use Rattle.glsl_semantics.specs.Shapes.{Shape, Typed, typed, same_shape}
use Rattle.glsl_semantics.specs.States.{State, found_in, put_in, declared, with_value}
use Rattle.glsl_semantics.specs.Expressions.{Program, Argument, type_of, named, evaluate}
use Rattle.glsl_semantics.specs.Statements.{Run, with_first_value, declaration, stmt_run}
use Rattle.region_law.proofs.Flags.{in_found}
use Rattle.agree_law.specs.Agree.{Naming, AreApart, variable_with, value_of, Agree}
use Rattle.agree_law.proofs.Owned.{own_found}
use Rattle.agree_law.proofs.Changes.{with_put, assigns, declares_value, stores}

-- both sides, with the answers that are left
pub record Both (m : Naming) (c : Supplied Conf) (s : State) : Type 0 where
  pub agree : Agree m c.at s
  pub answers : s.answers ≡ c.answers

-- what goes on from what is known
pub on_known : {A : Type 0} (g : Result A) (a : A) (f : A → Run) → g ≡ got [] a → on_got g f ≡ f a
on_known {A} g a f is = ap (λ (g : Result A). on_got g f) is ∙ begun_none (f a)

-- no events before what is got
pub before_none : {A : Type 0} (g : Result A) → with_before [] g ≡ g
before_none (got e x) = refl
before_none (cut e) = refl
before_none (waits e) = refl
before_none (stuck e) = refl

module _ (p : Program) (calls : Text → List Argument → State → Result (Option Typed × State)) (k : ℕ) (s : State) where
  -- an assignment and a declaration, of a value of the variable's type
  pub assign_runs : (x : Text) (e : Expr) (t : Shape) (o : Option ValueTree) (v : ValueTree) → found_in s.frames x ≡ Some (variable_with t o) → same_shape t t ≡ true → evaluate p calls e s ≡ got [] (typed t v, s)
      → stmt_run p calls k (assign (lvalue x []) e) s ≡ normal [] (record s { frames = put_in s.frames x v })
  assign_runs x e t o v is same says = rw (is, says, same, in_found s.frames x (variable_with t o) is, named, with_value) refl

  pub declare_runs : (x : Text) (name : TypeName) (e : Expr) (t : Shape) (v : ValueTree) → type_of p name ≡ Some t → same_shape t t ≡ true → evaluate p calls e s ≡ got [] (typed t v, s)
      → stmt_run p calls k (declare name x (Some e)) s ≡ normal [] (record s { frames = declared s.frames x (variable_with t (Some v)) })
  declare_runs x name e t v is same says =
      on_known (or_stuck (type_of p name) (λ shape. got [] shape)) t (λ shape. on_got (evaluate p calls e s) (λ v. declaration x shape v.0 v.1)) (ap (λ (o : Option Shape). or_stuck o (λ shape. got [] shape)) is)
      ∙ (on_known (evaluate p calls e s) (typed t v, s) (λ v. declaration x t v.0 v.1) says
      ∙ ap (λ (b : Bool). elim b as (λ b. Run) [ true ↦ normal [] (with_first_value x t (typed t v) s) | false ↦ stuck [] ]) same)

  module _ (m : Naming) (apart : AreApart m) (step : Supplied Conf → Move (Supplied Conf)) (c : Supplied Conf) (rest : List Inst) (both : Both m c s) where
    abbrev Plain : Run → Type 0
    Plain o = Follows (Supplied Conf) step State (Option Typed) (Both m) (Never (Supplied Conf) step State (Option Typed)) (Never (Supplied Conf) step State (Option Typed)) (NeverGives (Supplied Conf) step State (Option Typed)) 0 k c o

    lands : (d : Conf) (z : State) → step c ≡ go [] (supplied d c.answers) → Agree m d z → z.answers ≡ s.answers → Plain (normal [] z)
    lands d z goes agree same = inl (record {
      to = supplied d c.answers;
      comes = fewer (Supplied Conf) step 1 0 c (supplied d c.answers) [] (omega arith) (one_step (Supplied Conf) step c (supplied d c.answers) [] goes);
      holds = record { agree = agree; answers = same ∙ both.answers };
    })

    -- a value with a variable at the top of the function, and one with a variable in its block
    pub assigned_follows : (n : ℕ) (e : Expr) (v : ValueTree) → m.is_outer n ≡ true → same_shape (m.shape n) (m.shape n) ≡ true → step c ≡ go [] (supplied (with_put c.at rest n v) c.answers) → evaluate p calls e s ≡ got [] (typed (m.shape n) v, s)
        → Plain (stmt_run p calls k (assign (lvalue (m.name n) []) e) s)
    assigned_follows n e v is same goes says =
        subst Plain (sym (assign_runs (m.name n) e (m.shape n) (value_of c.at n) v (own_found s.frames (m.name n) _ (both.agree.outer n is)) same says))
        (lands (with_put c.at rest n v) (record s { frames = put_in s.frames (m.name n) v }) goes (assigns m apart c.at s rest n v is both.agree) refl)

    pub declared_follows : (n : ℕ) (name : TypeName) (e : Expr) (v : ValueTree) → m.is_local n ≡ true → type_of p name ≡ Some (m.shape n) → same_shape (m.shape n) (m.shape n) ≡ true → step c ≡ go [] (supplied (with_put c.at rest n v) c.answers) → evaluate p calls e s ≡ got [] (typed (m.shape n) v, s)
        → Plain (stmt_run p calls k (declare name (m.name n) (Some e)) s)
    declared_follows n name e v is type same goes says =
        subst Plain (sym (declare_runs (m.name n) name e (m.shape n) v type same says))
        (lands (with_put c.at rest n v) (record s { frames = declared s.frames (m.name n) (variable_with (m.shape n) (Some v)) }) goes (declares_value m apart c.at s rest n v is both.agree) refl)

    -- a store to a whole Function variable
    pub stored_follows : (n : ℕ) (e : Expr) (v : ValueTree) → m.is_variable n ≡ true → same_shape (m.shape n) (m.shape n) ≡ true → step c ≡ go [] (supplied (with_top c.at (record c.at.top { rest = rest; variables = put c.at.top.variables n v })) c.answers) → evaluate p calls e s ≡ got [] (typed (m.shape n) v, s)
        → Plain (stmt_run p calls k (assign (lvalue (m.name n) []) e) s)
    stored_follows n e v is same goes says =
        subst Plain (sym (assign_runs (m.name n) e (m.shape n) (c.at.top.variables n) v (own_found s.frames (m.name n) _ (both.agree.variables n is)) same says))
        (lands (with_top c.at (record c.at.top { rest = rest; variables = put c.at.top.variables n v })) (record s { frames = put_in s.frames (m.name n) v }) goes (stores m apart c.at s rest n v is both.agree) refl)

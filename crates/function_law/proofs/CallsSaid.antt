-- A call's text has what is asked of it where the expression of each argument says the value that the argument has, or is the name of the variable to which it leads.
use Rattle.std.proofs.Common.{◌≡◌, ◌⊎◌, ℕ, true, List, [], ◌∷◌, drop, Option, Some, inl, inr, ap, ◌∙◌, subst, arith, sym}
use Rattle.spv_module.specs.declared.inst.Inst.{Inst}
use Rattle.spv_module.specs.declared.inst.Function.{Function}
use Rattle.op_semantics.specs.Component.{each_one}
use Rattle.profile_rules.specs.Entry.{function_of}
use Rattle.traces.specs.Runs.{Supplied}
use Rattle.traces.specs.Outcomes.{Result}
use Rattle.module_semantics.specs.Setting.{Setting}
use Rattle.module_semantics.specs.State as module_state
use Rattle.module_semantics.specs.State.{Held, Frame, Conf}
use Rattle.module_semantics.specs.Operands.{held, arg}
use Rattle.module_semantics.specs.Steps.{call, step_kind}
use Rattle.glsl_ast.specs.Tree.{Text, Expr, exprs_in}
use Rattle.glsl_semantics.specs.Shapes.{Typed, same_shape}
use Rattle.glsl_semantics.specs.States.{State}
use Rattle.glsl_semantics.specs.Expressions.{Program, Argument, user, call_kind}
use Rattle.fits_law.proofs.Operations.{before_some}
use Rattle.agree_law.specs.Agree.{Naming, AreApart}
use Rattle.agree_law.specs.Blocks.{At}
use Rattle.call_law.specs.Known.{IsLending}
use Rattle.call_law.proofs.CodeKept.{next_of}
use Rattle.function_law.specs.UnderWay.{IsUnderWay, IsRuled}
use Rattle.function_law.specs.Passed.{NamesMemory, ShareNames, IsArgument, ArgumentsSay}
use Rattle.function_law.specs.Texts.{FunctionText, IsFine}
use Rattle.function_law.proofs.Passing.{whole_in}
use Rattle.function_law.proofs.Said.{all_said}
use Rattle.function_law.proofs.AllFunctions.{IsRun, IsCallOf}

-- each id has what is listed of it
argument_held : (s : Setting) (f : Frame) (ns : List ℕ) (hs : List Held) → each_one (held s f) ns ≡ Some hs → (n : ℕ) (h : Held) → IsArgument n h ns hs → held s f n ≡ Some h
argument_held s f [] hs e n h is = absurd is
argument_held s f (k ∷ ns) [] e n h is = absurd is
argument_held s f (k ∷ ns) (g ∷ hs) e n h (inl is) =
    let b = before_some (held s f k) (each_one (held s f) ns) (g ∷ hs) e in
    let same : g ≡ b.0 = (let all : g ∷ hs ≡ b.0 ∷ b.1 = b.4 in cc) in
    subst (λ j. held s f j ≡ Some h) is.0 (b.2 ∙ ap (λ x. Some x) (sym same ∙ is.1))
argument_held s f (k ∷ ns) (g ∷ hs) e n h (inr is) =
    let b = before_some (held s f k) (each_one (held s f) ns) (g ∷ hs) e in
    let same : b.1 ≡ hs = (let all : g ∷ hs ≡ b.0 ∷ b.1 = b.4 in cc) in
    argument_held s f ns hs (b.3 ∙ ap (λ l. Some l) same) n h is

module _ (p : Program) (k : ℕ) (s : Setting) (More : Conf → Type 0) (ruled : IsRuled s More) (calls : Text → List Argument → State → Result (Option Typed × State)) (m : Naming) (apart : AreApart m) (IsLent : ℕ → ℕ → Type 0) (start : List (module_state.Frame × ℕ)) (f : Function) (given : ℕ → Option Held)
    (b : ℕ) (done : List Inst) (i : Inst) (rest : List Inst) (t : FunctionText) (fine : IsFine p t) (run : IsRun p k s More ruled calls t) where
  -- what is asked of the expressions of a call
  pub record IsCallText (es : List Expr) : Type 0 where
    pub kind : step_kind i.op ≡ call
    pub function : function_of s.of.functions (arg i 0) ≡ Some t.function
    pub user_kind : call_kind p t.name ≡ user
    pub names : NamesMemory m f
    pub share : ShareNames m t.naming
    pub shapes : (n : ℕ) → (m.is_variable n ≡ true) ⊎ (m.is_lent n ≡ true) → same_shape (m.shape n) (m.shape n) ≡ true
    pub say : (c : Supplied Conf) (z : State) → At m s (IsUnderWay s More IsLent start f given) f b done (i ∷ rest) c z → (hs : List Held) → each_one (held s c.at.top) (drop 1 i.args) ≡ Some hs → ArgumentsSay p calls m t.naming z t.function.params (drop 1 i.args) hs t.parameters es

  pub call_text : (es : List Expr) → IsCallText es → IsCallOf p k s More ruled calls m apart IsLent start f given b done i rest t fine run (exprs_in es)
  call_text es is = record {
    kind = is.kind;
    function = is.function;
    user_kind = is.user_kind;
    names = is.names;
    share = is.share;
    shapes = is.shapes;
    say = λ c z at hs have.
        let known = at.stands.holds.known in
        let lending : IsLending s c.at.below c.at.top = known.lending.top (omega arith) in
        all_said p calls m t.naming s c.at z (known.valued.top (omega arith)) (subst (NamesMemory m) (sym at.stands.function) is.names) at.stands.agree.all t.function.params (drop 1 i.args) hs t.parameters es (argument_held s c.at.top (drop 1 i.args) hs have)
        (whole_in s ruled.lends c.at.below c.at.top lending (drop 1 i.args) hs have (ruled.lends.arguments c.at.top.function lending.code.of_module i (next_of s c.at.top i rest at.next lending.code) is.kind).0) (is.say c z at hs have);
  }

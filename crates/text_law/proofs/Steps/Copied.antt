-- Behind the copy with which an insert begins, the text agrees with a state of the module in which the result has the whole: so the operands still say what they have.
use Rattle.std.proofs.Common.{◌≡◌, ◌++◌, ◌==◌, ℕ, Bool, true, false, List, [], ◌∷◌, Option, Some, inl, inr, refl, sym, ap, ◌∙◌, subst}
use Rattle.std.proofs.lemmas.Bool.Decides.{eqb_tells}
use Rattle.std.proofs.lemmas.Option.{same_Some}
use Rattle.spv_module.specs.State.{ModuleState}
use Rattle.spv_module.specs.declared.inst.Inst.{Inst}
use Rattle.spv_module.specs.declared.inst.Function.{Function}
use Rattle.spv_types.specs.Tree.{ValueTree}
use Rattle.spv_index.specs.Locals.{insts_of}
use Rattle.op_semantics.specs.Fits.{IsOfWords}
use Rattle.conformance.specs.Rules.{Options}
use Rattle.module_check.specs.Judged.{IsFine}
use Rattle.module_check.specs.ReadFrom.{IsReadFrom}
use Rattle.traces.specs.Invocations.{Invocation, IsInvocation}
use Rattle.traces.specs.Outcomes.{Result, got}
use Rattle.traces.specs.Runs.{Supplied, supplied}
use Rattle.module_semantics.specs.Setting.{Setting}
use Rattle.module_semantics.specs.State.{Held, value as holds_value, Conf, put}
use Rattle.module_semantics.specs.Operands.{as_value, value_at}
use Rattle.module_semantics.specs.Steps.{step_kind}
use Rattle.glsl_ast.specs.Tree.{Text, TranslationUnit}
use Rattle.glsl_semantics.specs.Shapes.{Typed, typed}
use Rattle.glsl_semantics.specs.States.{State}
use Rattle.glsl_semantics.specs.Expressions.{Program, Argument, evaluate}
use Rattle.expr_forward.specs.Values.{value}
use Rattle.function_text.specs.Functions.{FunctionPlan, written}
use Rattle.unit_rules.specs.Unit.{IsUnitOf}
use Rattle.fits_law.specs.State.{value_shape, functions_of, HasShape, HeldFits, IsLocal, ConfFits, ModuleFits}
use Rattle.fits_law.specs.Typed.{IsTyped}
use Rattle.agree_law.specs.Agree.{Naming, AgreeIn}
use Rattle.agree_law.specs.Blocks.{IsOf, with_done, have_result, IsNew, Stands}
use Rattle.agree_law.specs.Points.{Body}
use Rattle.agree_law.proofs.Changes.{with_put, put_same, put_other}
use Rattle.agree_law.proofs.Settling.{AreKept, outcome_alike, kept_put, held_other}
use Rattle.call_law.specs.Known.{IsFunctionOf, LendsWhole}
use Rattle.typed_law.specs.Conforms.{IsConforming}
use Rattle.typed_law.specs.Words.{IsSettingOfWords, IsStateOfWords}
use Rattle.claim_law.specs.Claimed.{IsIn}
use Rattle.grammar_law.proofs.Unit.Ways.{HaveKinds, F}
use Rattle.grammar_law.specs.Formed.{IsFormedFunction}
use Rattle.grammar_law.proofs.Formed.Blocks.{reached_body}
use Rattle.text_law.proofs.Naming.Keys.{S, names}
use Rattle.text_law.specs.Left.{IsLeftOfGlobals}
use Rattle.text_law.proofs.Outside.Text.{P as program_in}
use Rattle.text_law.proofs.Steps.InsertParts.{IsOperand}
use Rattle.text_law.proofs.Steps.Operands.{IsKeptBy, operands_say}

-- what holds of what each id has, where one more has something
put_each : (ids : ℕ → Option Held) (n : ℕ) (h : Held) (Q : ℕ → Held → Type 0) → Q n h → ((k : ℕ) (g : Held) → ids k ≡ Some g → Q k g) → (k : ℕ) (g : Held) → put ids n h k ≡ Some g → Q k g
put_each ids n h Q own other k g at = elim (eqb_tells k n) [
  | inl w ↦ subst (λ (j : ℕ). Q j g) (sym w.1) (subst (Q n) (same_Some h g (sym (put_same ids n h) ∙ (ap (put ids n h) (sym w.1) ∙ at))) own)
  | inr w ↦ other k g (sym (put_other ids n k h w.1) ∙ at)
]

same_value : (u v : ValueTree) → holds_value u ≡ holds_value v → u ≡ v
same_value u v e = cc

still_done : (done : ℕ → Bool) (n k : ℕ) → done k ≡ true → with_done done n k ≡ true
still_done done n k on = by_test (k == n)
  where
    by_test : (t : Bool) → elim t as (λ t. Bool) [ true ↦ true | false ↦ done k ] ≡ true
    by_test true = refl
    by_test false = on

module _ (bytes : List ℕ) (m : ModuleState) (o : Options) (read : IsReadFrom bytes m) (fine : IsFine m o) (unit : TranslationUnit) (u : IsUnitOf m o unit) (inv : Invocation) (told : IsInvocation inv) (left : IsLeftOfGlobals bytes m o)
    (right : IsConforming m o.entry) (kinds : HaveKinds m.globals) (p : FunctionPlan) (among : IsIn p u.plans) (lends : LendsWhole (S m o unit u inv)) where
  abbrev s : Setting
  s = S m o unit u inv

  abbrev N : Naming
  N = names m o unit u inv p

  abbrev f : Function
  f = written p

  abbrev Fn : Function
  Fn = F s o.entry right kinds o unit u p among

  abbrev P : Program
  P = program_in bytes m o read fine unit u inv told left

  -- of states it is known that they fit and are of words
  abbrev Fitting : Function → Conf → Type 0
  Fitting g c = ConfFits s c × IsStateOfWords c

  module _ (one : IsFunctionOf Fn m.functions) (calls : Text → List Argument → State → Result (Option Typed × State)) (suits : ModuleFits s) (words : IsSettingOfWords s) (typed_so : (j : Inst) → IsIn j (insts_of Fn) → IsTyped s Fn j (step_kind j.op))
      (form : IsFormedFunction f) (b : ℕ) (body : Body f b) (has : reached_body f form b ≡ Some body) (done befores : List Inst) (i : Inst) (rest : List Inst) (split : body.insts ≡ befores ++ i ∷ rest) (all : (j : Inst) → IsOf j befores → IsOf j done)
      (kept : IsKeptBy bytes m o read fine unit u inv told left right kinds p among lends p.scope i) (new : IsNew i done) (Holds : Conf → Type 0) (c : Supplied Conf) (z : State) (stands : Stands N s Holds f b done c z) (fit : ConfFits s c.at) (low : IsStateOfWords c.at)
      (local : IsLocal s i.result) (was : ValueTree) (own : HasShape (value_shape s f i.result) was) (of_words : IsOfWords was) (y : State) (answers : y.answers ≡ z.answers) (agree : AgreeIn N (with_done (have_result done) i.result) (with_put c.at (rest ++ body.last ∷ []) i.result was) y) where
    abbrev after : Supplied Conf
    after = supplied (with_put c.at (rest ++ body.last ∷ []) i.result was) c.answers

    fits_after : ConfFits s after.at
    fits_after = record {
      top = (
        put_each c.at.top.ids i.result (holds_value was) (λ k g. IsLocal s k × HeldFits s (functions_of c.at.below) c.at.top.function k g) (local, subst (λ (g : Function). HasShape (value_shape s g i.result) was) (sym stands.function) own) fit.top.0,
        fit.top.1,
      );
      calls = fit.calls;
      awaited = fit.awaited;
      privates = fit.privates;
    }

    low_after : IsStateOfWords after.at
    low_after = record {
      top = (
        λ k v at. put_each c.at.top.ids i.result (holds_value was) (λ k g. (w : ValueTree) → g ≡ holds_value w → IsOfWords w) (λ w same. subst IsOfWords (same_value was w same) of_words) (λ k g at w same. low.top.0 k w (at ∙ ap (λ (h : Held). Some h) same)) k (holds_value v) at v refl,
        low.top.1,
      );
      calls = low.calls;
      privates = low.privates;
    }

    kept_before : AreKept s c.at.top after.at.top done
    kept_before = kept_put s c.at.top after.at.top i done (holds_value was) refl new

    stands_after : Stands N s (Fitting f) f b done after y
    stands_after = record {
      function = stands.function;
      block = stands.block;
      agree = record { all = agree.all; local = λ n d on. agree.local n (still_done (have_result done) i.result n d) on };
      settled = record { still = λ j is on. kept_before.result j is ∙ (stands.settled.still j is on ∙ sym (outcome_alike s c.at.top after.at.top (step_kind j.op) j (kept_before.read j is))) };
      holds = (fits_after, low_after);
      answers = answers ∙ stands.answers;
    }

    -- the law
    pub still_says : (k n : ℕ) → IsOperand i k n → (x : ValueTree) → value_at s c.at.top n ≡ Some x → evaluate P calls (value p.scope b n) y ≡ got [] (typed (N.shape n) x, y)
    still_says k n g x has_it =
        operands_say bytes m o read fine unit u inv told left right kinds p among lends one calls Fitting (λ g c h. h.0) (λ g c h. h.1) suits words typed_so form b body has done befores i rest split all kept after y stands_after k n g.at g.names g.value x
        (ap as_value (held_other s c.at.top after.at.top i.result n (holds_value was) refl (new.own n g.read)) ∙ has_it)

-- So where a block ends: nothing else is left of the values there.
use Rattle.std.proofs.Common.{ℕ, List, [], Option}
use Rattle.spv_module.specs.State.{ModuleState}
use Rattle.spv_module.specs.declared.inst.Inst.{Inst}
use Rattle.spv_module.specs.declared.inst.Function.{Function}
use Rattle.spv_index.specs.Locals.{insts_of}
use Rattle.conformance.specs.Rules.{Options}
use Rattle.module_check.specs.Judged.{IsFine}
use Rattle.module_check.specs.ReadFrom.{IsReadFrom}
use Rattle.traces.specs.Invocations.{Invocation, IsInvocation}
use Rattle.traces.specs.Outcomes.{Result}
use Rattle.module_semantics.specs.Setting.{Setting}
use Rattle.module_semantics.specs.State.{Conf}
use Rattle.module_semantics.specs.Steps.{step_kind}
use Rattle.glsl_ast.specs.Tree.{Text, TranslationUnit}
use Rattle.glsl_semantics.specs.Shapes.{Typed}
use Rattle.glsl_semantics.specs.States.{State}
use Rattle.glsl_semantics.specs.Expressions.{Program, Argument}
use Rattle.expr_forward.specs.Scope.{Scope}
use Rattle.function_text.specs.Functions.{FunctionPlan}
use Rattle.unit_rules.specs.Unit.{IsUnitOf}
use Rattle.fits_law.specs.State.{ConfFits, ModuleFits}
use Rattle.fits_law.specs.Typed.{IsTyped}
use Rattle.agree_law.specs.Agree.{Naming}
use Rattle.agree_law.specs.Points.{behind}
use Rattle.call_law.specs.Known.{IsFunctionOf, LendsWhole}
use Rattle.typed_law.specs.Conforms.{IsConforming}
use Rattle.typed_law.specs.Words.{IsSettingOfWords, IsStateOfWords}
use Rattle.claim_law.specs.Claimed.{IsIn}
use Rattle.grammar_law.proofs.Unit.Ways.{HaveKinds, F, V}
use Rattle.text_law.proofs.Naming.Keys.{S, names}
use Rattle.text_law.specs.Left.{IsLeftOfGlobals}
use Rattle.text_law.proofs.Outside.Text.{P as program_in}
use Rattle.text_law.proofs.Written.Done.{all_behind}
use Rattle.text_law.proofs.Written.NamesOf.{names_are}
use Rattle.text_law.proofs.Written.EndsSay.{split}
use Rattle.text_law.proofs.Written.EndOperands.{AreLeftAtEnds}
use Rattle.text_law.proofs.Values.Values.{left_of_values}

module _ (bytes : List ℕ) (m : ModuleState) (o : Options) (read : IsReadFrom bytes m) (fine : IsFine m o) (unit : TranslationUnit) (u : IsUnitOf m o unit) (inv : Invocation) (told : IsInvocation inv) (left : IsLeftOfGlobals bytes m o)
    (right : IsConforming m o.entry) (kinds : HaveKinds m.globals) (p : FunctionPlan) (among : IsIn p u.plans) (lends : LendsWhole (S m o unit u inv)) where
  abbrev s : Setting
  s = S m o unit u inv

  abbrev N : Naming
  N = names m o unit u inv p

  abbrev Fn : Function
  Fn = F s o.entry right kinds o unit u p among

  abbrev Where : Scope
  Where = V s o.entry right kinds o unit u p among

  abbrev P : Program
  P = program_in bytes m o read fine unit u inv told left

  module _ (one : IsFunctionOf Fn m.functions) (calls : Text → List Argument → State → Result (Option Typed × State)) (Holds : Function → Conf → Type 0) where
    -- the law
    pub left_at_ends : (fitting : (g : Function) (c : Conf) → Holds g c → ConfFits s c) (low : (g : Function) (c : Conf) → Holds g c → IsStateOfWords c) (suits : ModuleFits s) (words : IsSettingOfWords s) → ((j : Inst) → IsIn j (insts_of Fn) → IsTyped s Fn j (step_kind j.op))
        → AreLeftAtEnds m o right kinds unit u inv p among lends one P calls Holds fitting suits
    left_at_ends fitting low suits words typed_so form b c z stop =
        let formed = form.blocks b stop.body_of.block stop.body_of.there in
        left_of_values bytes m o read fine unit u inv told left right kinds p among lends b one calls (names_are m o right kinds unit u inv p among lends b) (Holds Fn) (fitting Fn) (behind [] stop.body_of.insts) c z stop.at.stands stop.body_of formed stop.body_of.insts stop.body_of.last []
        (split s o.entry right kinds o unit u p among lends b stop.body_of formed) (all_behind [] stop.body_of.insts) suits words (low Fn c.at stop.at.stands.holds) typed_so

-- So the operand of each terminator that reads one says its value where its block ends, as the plan's own scope writes it, where the values of blocks are as is left of them.
use Rattle.std.proofs.Common.{◌≡◌, ℕ, Bool, true, false, List, [], Option, Some, refl, sym, ◌∙◌, subst}
use Rattle.std.specs.Prelude.{slice_index_or}
use Rattle.spv_ops.specs.OpGroups.{group_of}
use Rattle.spv_ops.specs.declared.Op.{Op}
use Rattle.spv_ops.specs.declared.Op.TheVariants as code
use Rattle.spv_ops.specs.declared.Terminator.TheVariants as ends
use Rattle.spv_module.specs.State.{ModuleState}
use Rattle.spv_module.specs.declared.inst.Function.{Function}
use Rattle.spv_types.specs.Tree.{ValueTree}
use Rattle.structure_rules.specs.Graph.{graph}
use Rattle.conformance.specs.Rules.{Options}
use Rattle.traces.specs.Invocations.{Invocation}
use Rattle.traces.specs.Runs.{Supplied}
use Rattle.traces.specs.Outcomes.{Result, got}
use Rattle.module_semantics.specs.Setting.{Setting}
use Rattle.module_semantics.specs.State.{Conf}
use Rattle.module_semantics.specs.Operands.{value_at, arg}
use Rattle.module_semantics.specs.Steps as steps
use Rattle.module_semantics.specs.Steps.{step_kind}
use Rattle.glsl_ast.specs.Tree.{Text, TranslationUnit}
use Rattle.glsl_semantics.specs.Shapes.{Typed, typed}
use Rattle.glsl_semantics.specs.States.{State}
use Rattle.glsl_semantics.specs.Expressions.{Program, Argument, evaluate}
use Rattle.expr_forward.specs.Scope.{Scope}
use Rattle.expr_forward.specs.Values.{value}
use Rattle.function_text.specs.Functions.{FunctionPlan}
use Rattle.unit_rules.specs.Unit.{IsUnitOf}
use Rattle.fits_law.specs.State.{value_shape, functions_of, HasShape, ConfFits, ModuleFits}
use Rattle.agree_law.specs.Agree.{Naming}
use Rattle.agree_law.specs.Points.{Stops}
use Rattle.call_law.specs.Known.{IsFunctionOf, LendsWhole}
use Rattle.typed_law.specs.Conforms.{IsConforming}
use Rattle.claim_law.specs.Claimed.{IsIn}
use Rattle.grammar_law.proofs.Unit.Ways.{HaveKinds, F, R, V, plan_is, reached_nth}
use Rattle.grammar_law.specs.Formed.{IsFormedFunction}
use Rattle.grammar_law.proofs.Formed.Blocks.{reached_body, reached_only}
use Rattle.text_law.proofs.Naming.Keys.{S, names}
use Rattle.text_law.proofs.Written.Mentions.{reads_first}
use Rattle.text_law.proofs.Written.Shapes.{value_has, has_shape}
use Rattle.text_law.proofs.Written.NamesOf.{names_are}
use Rattle.text_law.proofs.Written.EndsSay.{IsLeftAtEnd, end_says}

-- opcodes that read their first operand, by their steps
pub conditional_kind : (o : Op) → step_kind o ≡ steps.branch ends.BranchConditional → reads_first o ≡ true
unfolding step_kind group_of
conditional_kind code.BranchConditional e = refl
conditional_kind o e = cc

pub switch_kind : (o : Op) → step_kind o ≡ steps.branch ends.Switch → reads_first o ≡ true
unfolding step_kind group_of
switch_kind code.Switch e = refl
switch_kind o e = cc

module _ (m : ModuleState) (opts : Options) (right : IsConforming m opts.entry) (kinds : HaveKinds m.globals) (unit : TranslationUnit) (u : IsUnitOf m opts unit) (inv : Invocation) (p : FunctionPlan) (among : IsIn p u.plans) (lends : LendsWhole (S m opts unit u inv)) where
  abbrev s : Setting
  s = S m opts unit u inv

  abbrev N : Naming
  N = names m opts unit u inv p

  abbrev Fn : Function
  Fn = F s opts.entry right kinds opts unit u p among

  abbrev Where : Scope
  Where = V s opts.entry right kinds opts unit u p among

  abbrev Marks : List Bool
  Marks = R s opts.entry right kinds opts unit u p among

  -- in states that fit
  module _ (is_one : IsFunctionOf Fn m.functions) (program : Program) (calls : Text → List Argument → State → Result (Option Typed × State)) (Holds : Function → Conf → Type 0) (fitting : (g : Function) (c : Conf) → Holds g c → ConfFits s c) (fits : ModuleFits s) where
    abbrev pub SayAtEnds : Scope → Type 0
    SayAtEnds w = (form : IsFormedFunction w.setting.function) (b : ℕ) (c : Supplied Conf) (z : State) (stop : Stops N s (Holds w.setting.function) w.setting.function (reached_body w.setting.function form) b c z) → reads_first stop.body_of.last.op ≡ true
        → (v : ValueTree) → value_at s c.at.top (arg stop.body_of.last 0) ≡ Some v → evaluate program calls (value w b (arg stop.body_of.last 0)) z ≡ got [] (typed (N.shape (arg stop.body_of.last 0)) v, z)

    abbrev pub AreLeftAtEnds : Type 0
    AreLeftAtEnds = (form : IsFormedFunction Fn) (b : ℕ) (c : Supplied Conf) (z : State) (stop : Stops N s (Holds Fn) Fn (reached_body Fn form) b c z)
        → IsLeftAtEnd s opts.entry right kinds opts unit u p among lends b is_one program calls N (names_are m opts right kinds unit u inv p among lends b) (Holds Fn) form c z stop

    say_there : AreLeftAtEnds → SayAtEnds Where
    say_there left form b c z stop on v has =
        let fit = (fitting Fn c.at stop.at.stands.holds).top.0 in
        let shape = has_shape (value_shape s Fn (arg stop.body_of.last 0)) v (subst (λ (g : Function). HasShape (value_shape s g (arg stop.body_of.last 0)) v) stop.at.stands.function (value_has s fits (functions_of c.at.below) c.at.top (arg stop.body_of.last 0) v fit has)) in
        let here : slice_index_or Marks b false ≡ true = reached_nth (graph Fn) b ∙ reached_only Fn form b stop.body_of stop.is in
        end_says s opts.entry right kinds opts unit u p among lends b is_one program calls N (names_are m opts right kinds unit u inv p among lends b) (Holds Fn) form c z stop (left form b c z stop) here on shape.0 shape.1 v has

    -- the law
    pub say_at_ends : AreLeftAtEnds → SayAtEnds p.scope
    say_at_ends left = subst SayAtEnds (sym (plan_is s opts.entry right kinds opts unit u p among).scope_is) (say_there left)

-- So of what the law of expressions asks of the values of a block, nothing is left of an accepted module but that no array is too long for an int to lead to each element.
use Rattle.std.proofs.Common.{◌≡◌, ◌++◌, ℕ, List, ◌∷◌, Option}
use Rattle.spv_module.specs.State.{ModuleState}
use Rattle.spv_module.specs.declared.inst.Inst.{Inst}
use Rattle.spv_module.specs.declared.inst.Function.{Function}
use Rattle.spv_index.specs.Locals.{insts_of}
use Rattle.conformance.specs.Rules.{Options}
use Rattle.module_check.specs.Judged.{IsFine}
use Rattle.module_check.specs.ReadFrom.{IsReadFrom}
use Rattle.traces.specs.Invocations.{Invocation, IsInvocation}
use Rattle.traces.specs.Outcomes.{Result}
use Rattle.traces.specs.Runs.{Supplied}
use Rattle.module_semantics.specs.Setting.{Setting}
use Rattle.module_semantics.specs.State.{Conf}
use Rattle.module_semantics.specs.Steps.{step_kind}
use Rattle.glsl_ast.specs.Tree.{Text, TranslationUnit}
use Rattle.glsl_semantics.specs.Shapes.{Typed}
use Rattle.glsl_semantics.specs.States.{State}
use Rattle.glsl_semantics.specs.Expressions.{Program, Argument}
use Rattle.expr_forward.specs.Scope.{Scope}
use Rattle.expr_forward.specs.Values.{value}
use Rattle.function_text.specs.Functions.{FunctionPlan}
use Rattle.unit_rules.specs.Unit.{IsUnitOf}
use Rattle.fits_law.specs.State.{ConfFits, ModuleFits}
use Rattle.fits_law.specs.Typed.{IsTyped}
use Rattle.agree_law.specs.Agree.{Naming}
use Rattle.agree_law.specs.Blocks.{IsOf, Stands}
use Rattle.agree_law.specs.Points.{Body}
use Rattle.call_law.specs.Known.{IsFunctionOf, LendsWhole}
use Rattle.typed_law.specs.Conforms.{IsConforming}
use Rattle.typed_law.specs.Words.{IsSettingOfWords, IsStateOfWords}
use Rattle.claim_law.specs.Claimed.{IsIn}
use Rattle.grammar_law.proofs.Unit.Lists.{as_among}
use Rattle.grammar_law.proofs.Unit.Ways.{HaveKinds, F, V}
use Rattle.grammar_law.specs.Formed.{IsFormedBlock}
use Rattle.grammar_law.proofs.Formed.Inner.{accepted_inner}
use Rattle.text_law.proofs.Naming.Keys.{S, names}
use Rattle.text_law.specs.Left.{IsLeftOfGlobals}
use Rattle.text_law.proofs.Outside.Text.{P as program_in}
use Rattle.text_law.proofs.Outside.Starts.{no_module}
use Rattle.text_law.proofs.Written.Says.{AreNamesOf, AreLowered, IsLeftOfValues}
use Rattle.text_law.proofs.Written.Lowered.{lowered_so}
use Rattle.text_law.proofs.Values.Read.{read_says}
use Rattle.text_law.proofs.Values.Known.{known}
use Rattle.text_law.proofs.Values.Lengths.{lengths_said}

module _ (bytes : List ℕ) (m : ModuleState) (o : Options) (read : IsReadFrom bytes m) (fine : IsFine m o) (unit : TranslationUnit) (u : IsUnitOf m o unit) (inv : Invocation) (told : IsInvocation inv) (left : IsLeftOfGlobals bytes m o)
    (right : IsConforming m o.entry) (kinds : HaveKinds m.globals) (p : FunctionPlan) (among : IsIn p u.plans) (lends : LendsWhole (S m o unit u inv)) (b : ℕ) where
  abbrev s : Setting
  s = S m o unit u inv

  abbrev N : Naming
  N = names m o unit u inv p

  abbrev Fn : Function
  Fn = F s o.entry right kinds o unit u p among

  abbrev Where : Scope
  Where = V s o.entry right kinds o unit u p among

  abbrev P : Program
  P = program_in bytes m o read fine unit u inv told left

  module _ (one : IsFunctionOf Fn m.functions) (calls : Text → List Argument → State → Result (Option Typed × State)) (are : AreNamesOf s o.entry right kinds o unit u p among lends b N) (Holds : Conf → Type 0) (fitting : (c : Conf) → Holds c → ConfFits s c) (done : List Inst) (c : Supplied Conf) (z : State) (stands : Stands N s Holds Fn b done c z)
      (body : Body Fn b) (formed : IsFormedBlock body.block.insts) (befores : List Inst) (i : Inst) (rest : List Inst) (split : formed.behind ≡ befores ++ i ∷ rest) (all_done : (j : Inst) → IsOf j befores → IsOf j done) where
    -- where operations say what they make of their operands
    left_of_operations : AreLowered s o.entry right kinds o unit u p among lends b one P calls N are Holds done c z stands body formed befores i rest split all_done
        → IsLeftOfValues s o.entry right kinds o unit u p among lends b one P calls N are Holds done c z stands body formed befores i rest split all_done
    left_of_operations lowered = record {
      own = no_module bytes m o read fine unit u inv told left p among;
      read = λ n e is ready v has. read_says bytes m o read fine unit u inv told left right kinds p among b calls c.at z stands.agree.all (fitting c.at stands.holds) n e is ready.value.user ready.value.mentioned v has;
      inner_op = λ j there. (accepted_inner bytes m read Fn one j (as_among (insts_of Fn) j there)).0;
      lowers = lowered;
    }

    -- the law
    pub left_of_values : (suits : ModuleFits s) (words : IsSettingOfWords s) (low : IsStateOfWords c.at) → ((j : Inst) → IsIn j (insts_of Fn) → IsTyped s Fn j (step_kind j.op))
        → IsLeftOfValues s o.entry right kinds o unit u p among lends b one P calls N are Holds done c z stands body formed befores i rest split all_done
    left_of_values suits words low typed_so =
        left_of_operations (λ j there k at here ready t shaped form v has each.
        lowered_so s o.entry right kinds o unit u p among lends b one P calls N c.at.top z (value Where b)
        (known bytes m o read fine unit u inv told left right kinds p among lends b one calls c.at z (value Where b) suits words (fitting c.at stands.holds) low stands.function typed_so
        (lengths_said bytes m o read fine unit u inv told left right kinds p among lends b one calls c.at z (value Where b) stands.agree.all (fitting c.at stands.holds)))
        j there k at here (λ step n n_in. (ready step n n_in).value) t shaped v form has each)

-- So an operation that is written to a variable says what it gives: nothing is left of those that insts_law asks of (`IsLeftOfOperation`) but that no array is too long.
use Rattle.std.proofs.Common.{◌≡◌, ◌++◌, ℕ, true, false, List, [], ◌∷◌, Option, Some}
use Rattle.spv_ops.specs.OpGroups.{group_of}
use Rattle.spv_module.specs.Inst.{has_type}
use Rattle.spv_module.specs.State.{ModuleState}
use Rattle.spv_module.specs.declared.inst.Inst.{Inst}
use Rattle.spv_module.specs.declared.inst.Function.{Function}
use Rattle.spv_types.specs.Tree.{Tree}
use Rattle.spv_types.specs.Types.{type_tree}
use Rattle.spv_types.specs.Leaves.{IsSized}
use Rattle.spv_index.specs.Locals.{insts_of}
use Rattle.conformance.specs.Rules.{Options}
use Rattle.module_check.specs.Judged.{IsFine}
use Rattle.module_check.specs.ReadFrom.{IsReadFrom}
use Rattle.traces.specs.Invocations.{Invocation, IsInvocation}
use Rattle.traces.specs.Outcomes.{Result}
use Rattle.module_semantics.specs.Setting.{Setting}
use Rattle.module_semantics.specs.State.{Conf}
use Rattle.module_semantics.specs.Steps.{step_kind}
use Rattle.hoist_plan.specs.Plan.{is_value}
use Rattle.glsl_ast.specs.Tree.{Text, TranslationUnit}
use Rattle.glsl_semantics.specs.Shapes.{Typed}
use Rattle.glsl_semantics.specs.States.{State}
use Rattle.glsl_semantics.specs.Expressions.{Program, Argument}
use Rattle.expr_forward.specs.Scope.{Scope}
use Rattle.expr_forward.specs.Values.{value}
use Rattle.function_text.specs.Functions.{FunctionPlan}
use Rattle.unit_rules.specs.Unit.{IsUnitOf}
use Rattle.fits_law.specs.State.{ConfFits, ModuleFits}
use Rattle.fits_law.specs.Typed.{IsTyped}
use Rattle.agree_law.specs.Agree.{Naming}
use Rattle.call_law.specs.Known.{IsFunctionOf, LendsWhole}
use Rattle.plan_law.specs.InOrder.{IsAmong}
use Rattle.typed_law.specs.Conforms.{IsConforming}
use Rattle.typed_law.specs.Words.{IsSettingOfWords, IsStateOfWords}
use Rattle.claim_law.specs.Claimed.{IsIn}
use Rattle.grammar_law.proofs.Unit.Lists.{as_in}
use Rattle.grammar_law.proofs.Unit.Ways.{HaveKinds, F, V}
use Rattle.grammar_law.proofs.Formed.Inner.{is_inner, accepted_inner}
use Rattle.grammar_law.proofs.Formed.Shaped.{AreGlobals, accepted_shaped}
use Rattle.text_law.proofs.Naming.Keys.{S, names}
use Rattle.text_law.specs.Left.{IsLeftOfGlobals}
use Rattle.text_law.proofs.Outside.Text.{P as program_in}
use Rattle.text_law.proofs.Written.Lowered.{written_so}
use Rattle.text_law.proofs.Written.NamesOf.{names_are}
use Rattle.text_law.proofs.Insts.KindSteps.{value_step, value_unnamed}
use Rattle.text_law.proofs.Insts.Said.{inner_of as inner_in, AreLeftOfOperations}
use Rattle.text_law.proofs.Insts.Values.{block, split_so, there, here, place, ready, operand}
use Rattle.text_law.proofs.Values.Known.{known}
use Rattle.text_law.proofs.Values.Lengths.{lengths_said}
use Rattle.text_law.proofs.Values.Values.{left_of_values}
use Rattle.text_law.proofs.Steps.LocalTypes.{variable_gone}

module _ (bytes : List ℕ) (m : ModuleState) (o : Options) (read : IsReadFrom bytes m) (fine : IsFine m o) (unit : TranslationUnit) (u : IsUnitOf m o unit) (inv : Invocation) (told : IsInvocation inv) (left : IsLeftOfGlobals bytes m o)
    (right : IsConforming m o.entry) (kinds : HaveKinds m.globals) (p : FunctionPlan) (among : IsIn p u.plans) (lends : LendsWhole (S m o unit u inv)) where
  abbrev s : Setting
  s = S m o unit u inv

  abbrev N : Naming
  N = names m o unit u inv p

  abbrev Fn : Function
  Fn = F s o.entry right kinds o unit u p among

  abbrev Where : Scope
  Where = V s o.entry right kinds o unit u p among

  abbrev P : Program
  P = program_in bytes m o read fine unit u inv told left

  kinds_so : AreGlobals m.globals
  kinds_so g there some = kinds g (as_in m.globals g there) some

  module _ (one : IsFunctionOf Fn m.functions) where
    pub inner : (j : Inst) → IsAmong j (insts_of Fn) → (is_inner (group_of j.op) ≡ true) × (has_type j.op ≡ false → j.result ≡ 0)
    inner j j_in = accepted_inner bytes m read Fn one j j_in

    pub shapes : (j : Inst) → IsAmong j (insts_of Fn) → has_type j.op ≡ true → is_value m.globals j.ty ≡ true → (t : Tree) × (type_tree m.globals j.ty ≡ Some t) × IsSized t
    shapes j j_in on value = accepted_shaped bytes m o read fine kinds_so Fn one j j_in on value

    module _ (calls : Text → List Argument → State → Result (Option Typed × State)) (Holds : Function → Conf → Type 0) (fitting : (g : Function) (c : Conf) → Holds g c → ConfFits s c) (low : (g : Function) (c : Conf) → Holds g c → IsStateOfWords c) (suits : ModuleFits s) (words : IsSettingOfWords s)
        (typed_so : (j : Inst) → IsIn j (insts_of Fn) → IsTyped s Fn j (step_kind j.op)) where
      abbrev inner_of : (j : Inst) → IsAmong j (insts_of Fn) → is_inner (group_of j.op) ≡ true
      inner_of = inner_in m o right kinds unit u inv p among lends one inner shapes P calls Holds

      -- the law: what is left of operations by insts_law
      pub operations_left : AreLeftOfOperations m o right kinds unit u inv p among lends one inner shapes P calls Holds
      operations_left form b body has done befores i rest split all c z at = record {
        values = left_of_values bytes m o read fine unit u inv told left right kinds p among lends b one calls (names_are m o right kinds unit u inv p among lends b) (Holds Fn) (fitting Fn) done c z at.stands body (form.blocks b body.block body.there) befores i (rest ++ body.last ∷ [])
            (split_so m o right kinds unit u inv p among lends one inner_of P calls (Holds Fn) form b body has done befores i rest split all) all suits words (low Fn c.at at.stands.holds) typed_so;
        lowers = λ q e on t shaped x gives each.
            written_so s o.entry right kinds o unit u p among lends b one P calls N c.at.top z (value Where b)
            (known bytes m o read fine unit u inv told left right kinds p among lends b one calls c.at z (value Where b) suits words (fitting Fn c.at at.stands.holds) (low Fn c.at at.stands.holds) at.stands.function typed_so
            (lengths_said bytes m o read fine unit u inv told left right kinds p among lends b one calls c.at z (value Where b) at.stands.agree.all (fitting Fn c.at at.stands.holds)))
            i (as_in (insts_of Fn) i (there m o right kinds unit u inv p among lends one inner_of P calls (Holds Fn) form b body has done befores i rest split all))
            (place m o right kinds unit u inv p among lends one inner_of P calls (Holds Fn) form b body has done befores i rest split all).0
            (place m o right kinds unit u inv p among lends one inner_of P calls (Holds Fn) form b body has done befores i rest split all).1
            (here m o right kinds unit u inv p among lends one inner_of P calls (Holds Fn) form b body has done befores i rest split all)
            (λ step n n_in. (ready m o right kinds unit u inv p among lends one inner_of P calls (Holds Fn) form b body has done befores i rest split all q e on t shaped n
            (operand m o right kinds unit u inv p among lends one inner_of P calls (Holds Fn) form b body has done befores i rest split all q e on t shaped step n n_in)).value)
            t shaped x (variable_gone (Where.form i.result) on) (value_unnamed i.op q e) (value_step i.op q e) gives each;
      }

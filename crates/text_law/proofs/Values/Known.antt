-- Of what is known of the text and of the values of a function (`AreKnown`), nothing is left of an accepted module but that the lengths of arrays are said.
use Rattle.std.proofs.Common.{◌≡◌, ℕ, List, [], Option, Some, sym, ap, ◌∙◌}
use Rattle.std.specs.Prelude.{option_and_then}
use Rattle.std.specs.Option.{option_or}
use Rattle.spv_module.specs.State.{ModuleState}
use Rattle.spv_module.specs.declared.inst.Inst.{Inst}
use Rattle.spv_module.specs.declared.inst.Function.{Function}
use Rattle.spv_types.specs.Tree.{Tree, ValueTree}
use Rattle.spv_types.specs.Types.{type_tree}
use Rattle.spv_index.specs.Locals.{insts_of, typed as typed_of, local_type, type_in}
use Rattle.conformance.specs.Rules.{Options}
use Rattle.module_check.specs.Judged.{IsFine}
use Rattle.module_check.specs.ReadFrom.{IsReadFrom}
use Rattle.traces.specs.Invocations.{Invocation, IsInvocation}
use Rattle.traces.specs.Outcomes.{Result, got}
use Rattle.module_semantics.specs.Setting.{Setting}
use Rattle.module_semantics.specs.State.{value as holds_value, Conf}
use Rattle.module_semantics.specs.Steps as steps
use Rattle.module_semantics.specs.Steps.{step_kind}
use Rattle.glsl_ast.specs.Tree.{Text, Expr, TranslationUnit}
use Rattle.glsl_semantics.specs.Shapes.{Typed, typed}
use Rattle.glsl_semantics.specs.States.{State}
use Rattle.glsl_semantics.specs.Expressions.{Program, Argument, evaluate}
use Rattle.expr_forward.specs.Scope.{Scope}
use Rattle.expr_forward.specs.Values.{expression}
use Rattle.function_text.specs.Functions.{FunctionPlan}
use Rattle.unit_rules.specs.Unit.{IsUnitOf}
use Rattle.fits_law.specs.State.{value_shape, ConfFits, ModuleFits}
use Rattle.fits_law.specs.Typed.{IsTyped}
use Rattle.agree_law.specs.Agree.{Naming}
use Rattle.agree_law.specs.Blocks.{outcome}
use Rattle.call_law.specs.Known.{IsFunctionOf, LendsWhole}
use Rattle.typed_law.specs.Conforms.{IsConforming}
use Rattle.typed_law.specs.Words.{IsSettingOfWords, IsStateOfWords}
use Rattle.typed_law.proofs.Values.{typed_is, shaped_some}
use Rattle.claim_law.specs.Claimed.{IsIn}
use Rattle.grammar_law.specs.Mentioned.{IsValueIn}
use Rattle.grammar_law.proofs.Unit.Lists.{as_among}
use Rattle.grammar_law.proofs.Unit.Ways.{HaveKinds, F, R as Marks, V, in_module}
use Rattle.text_law.proofs.Naming.Keys.{S, names}
use Rattle.text_law.specs.Left.{IsLeftOfGlobals}
use Rattle.text_law.proofs.Outside.Short.{copies_short}
use Rattle.text_law.proofs.Outside.Constants.{it as valued_at}
use Rattle.text_law.proofs.Outside.Text.{P as program_in}
use Rattle.text_law.proofs.Texts.BuiltIns.{none_declared}
use Rattle.text_law.proofs.Texts.ConstantTypes.{constant_text}
use Rattle.text_law.proofs.Texts.OperandTypes.{result_text, operand_text}
use Rattle.text_law.proofs.Written.KnownValues.{shapes_are, fitting, low_values, literals}
use Rattle.text_law.proofs.Written.Lowered.{IsTextType, AreKnown}
use Rattle.text_law.proofs.Values.Read.{listed, constant_value}

module _ (bytes : List ℕ) (m : ModuleState) (o : Options) (read : IsReadFrom bytes m) (fine : IsFine m o) (unit : TranslationUnit) (u : IsUnitOf m o unit) (inv : Invocation) (told : IsInvocation inv) (left : IsLeftOfGlobals bytes m o)
    (right : IsConforming m o.entry) (kinds : HaveKinds m.globals) (p : FunctionPlan) (among : IsIn p u.plans) (lends : LendsWhole (S m o unit u inv)) (b : ℕ) where
  abbrev s : Setting
  s = S m o unit u inv

  abbrev N : Naming
  N = names m o unit u inv p

  abbrev Fn : Function
  Fn = F s o.entry right kinds o unit u p among

  abbrev Where : Scope
  Where = V s o.entry right kinds o unit u p among

  abbrev P : Program
  P = program_in bytes m o read fine unit u inv told left

  -- the type of a constant that the block reads
  constant_type : (n : ℕ) (v : IsValueIn Where (Marks s o.entry right kinds o unit u p among) b n) (t : Tree) → value_shape s Fn n ≡ Some t → (w : ValueTree) → s.constants n ≡ Some w → IsTextType s o.entry right kinds o unit u p among lends b P t
  constant_type n v t shaped w has =
      let mentioned = listed bytes m o read fine unit u inv told left right kinds p among b n v.user v.mentioned in
      let k = valued_at bytes m o read fine unit u inv told left p n w has mentioned in
      let some : k.inst.ty ≡ 0 → ⊥ = shaped_some s o.entry right Fn (in_module s o.entry right kinds o unit u p among) k.inst.ty k.shape k.typed_as in
      let type_is : type_in m.globals Fn n ≡ Some k.inst.ty = ap (λ (x : Option ℕ). option_or x (local_type Fn n)) (ap (option_and_then typed_of) k.there ∙ typed_is k.inst some) in
      constant_text bytes m o read fine unit u inv told left p among n w has mentioned t (sym (ap (option_and_then (type_tree m.globals)) type_is) ∙ shaped)

  module _ (one : IsFunctionOf Fn m.functions) (calls : Text → List Argument → State → Result (Option Typed × State)) (c : Conf) (z : State) (expr : ℕ → Expr) where
    -- the length of an array is said
    abbrev pub AreLengthsSaid : Type 0
    AreLengthsSaid = (j : Inst) → IsIn j (insts_of Fn) → step_kind j.op ≡ steps.array_length → (v : ValueTree) → outcome steps.array_length s c.top j ≡ Some (holds_value v) → evaluate P calls (expression Where expr b j) z ≡ got [] (typed (N.shape j.result) v, z)

    pub known : (suits : ModuleFits s) (words : IsSettingOfWords s) (fit : ConfFits s c) (low : IsStateOfWords c) (same : c.top.function ≡ Fn) → ((j : Inst) → IsIn j (insts_of Fn) → IsTyped s Fn j (step_kind j.op))
        → AreLengthsSaid → AreKnown s o.entry right kinds o unit u p among lends b one P calls N c.top z expr
    known suits words fit low same typed_so lengths = record {
      none = none_declared bytes m o read fine unit u inv told left;
      shapes = shapes_are m o right kinds unit u inv p among;
      fitting = fitting m o right kinds unit u inv p among suits words c fit low same;
      low = low_values m o right kinds unit u inv p among suits words c fit low same;
      literals = literals m o right kinds unit u inv p among suits words c fit low same;
      result_texts = λ j there k at here kept t shaped.
          result_text bytes m o read fine unit u inv told left p among right kinds b k j at here there kept t shaped;
      operand_texts = λ n v t shaped w has.
          operand_text bytes m o read fine unit u inv told left p among right kinds lends b n v t shaped (λ g there far. constant_type n v t shaped w (constant_value s c fit n g there w has));
      copies = λ j there copies t shaped. copies_short s o.entry right fine.later.leaves Fn (in_module s o.entry right kinds o unit u p among) j (as_among (insts_of Fn) j there) copies t shaped;
      typed_so = typed_so;
      lengths = lengths;
    }

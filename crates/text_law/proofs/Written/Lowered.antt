-- What stands in expressions says what it gives: operations by the law of their texts, and the lengths of arrays.
use Rattle.std.proofs.Common.{◌≡◌, ◌⊎◌, ℕ, Bool, true, false, List, [], Option, Some, None, inl, inr, sym, ap, subst}
use Rattle.std.specs.Prelude.{option_map, slice_index_or}
use Rattle.spv_ops.specs.declared.Op.TheVariants as code
use Rattle.spv_module.specs.declared.inst.Inst.{Inst}
use Rattle.spv_module.specs.declared.inst.Function.{Function}
use Rattle.spv_types.specs.Tree.{Tree, ValueTree, word}
use Rattle.spv_types.specs.Types.{type_tree}
use Rattle.spv_index.specs.Locals.{insts_of}
use Rattle.op_semantics.specs.Fits.{fits, IsOfWords}
use Rattle.conformance.specs.Rules.{Options}
use Rattle.traces.specs.Outcomes.{Result, got}
use Rattle.module_semantics.specs.Setting.{Setting}
use Rattle.module_semantics.specs.State.{Frame, value as holds_value}
use Rattle.module_semantics.specs.Operands.{value_at}
use Rattle.module_semantics.specs.Steps as steps
use Rattle.module_semantics.specs.Steps.{step_kind, computed}
use Rattle.use_chains.specs.Slots.{inst_at}
use Rattle.hoist_plan.specs.Plan.{is_always_named}
use Rattle.hoist_plan.specs.declared.form.Form.TheVariants.{Forwarded}
use Rattle.glsl_ast.specs.Tree.{Text, Expr, TranslationUnit}
use Rattle.glsl_semantics.specs.Shapes.{Shape, Typed, typed}
use Rattle.glsl_semantics.specs.States.{State}
use Rattle.glsl_semantics.specs.Expressions.{Program, Argument, evaluate}
use Rattle.expr_forward.specs.Scope.{Scope}
use Rattle.expr_forward.specs.Paths.{word_at}
use Rattle.expr_forward.specs.Values.{expression}
use Rattle.function_plan.specs.Phis.{is_gone}
use Rattle.function_text.specs.Functions.{FunctionPlan}
use Rattle.unit_rules.specs.Translation.{text_of, id_text, global_expr}
use Rattle.unit_rules.specs.Unit.{IsUnitOf}
use Rattle.region_law.specs.Leads.{In}
use Rattle.agree_law.specs.Agree.{Naming}
use Rattle.agree_law.specs.Blocks.{outcome, read_ids, reads}
use Rattle.call_law.specs.Known.{IsFunctionOf, LendsWhole}
use Rattle.fits_law.specs.State.{value_shape}
use Rattle.fits_law.specs.Typed.{IsTyped}
use Rattle.lowering_law.specs.BuiltIns.{NoneDeclared}
use Rattle.lowering_law.specs.Written.{IsShort}
use Rattle.global_law.specs.Parts.{shape_in}
use Rattle.global_law.specs.Walks.{struct_names}
use Rattle.typed_law.specs.Conforms.{IsConforming}
use Rattle.typed_law.proofs.Values.{own_shape}
use Rattle.claim_law.specs.Claimed.{IsIn}
use Rattle.grammar_law.specs.Mentioned.{IsValueIn}
use Rattle.grammar_law.proofs.Unit.Lists.{as_among}
use Rattle.grammar_law.proofs.Unit.Ways.{HaveKinds, S, Found, F, R, V, in_module}
use Rattle.lowers_law.proofs.Types.{IsText}
use Rattle.lowers_law.proofs.Operations.{operation_says}
use Rattle.text_law.proofs.Written.Expressed.{unnamed_so, forwarded_kind}

given_value : (x : Option ValueTree) (v : ValueTree) → option_map holds_value x ≡ Some (holds_value v) → x ≡ Some v
given_value None v e = cc
given_value (Some u) v e = let same : u ≡ v = cc in ap (λ (w : ValueTree). Some w) same

module _ (s : Setting) (entry : Option (List ℕ)) (right : IsConforming s.of entry) (kinds : HaveKinds s.of.globals) (o : Options) (unit : TranslationUnit) (u : IsUnitOf s.of o unit) (p : FunctionPlan) (among : IsIn p u.plans) (lends : LendsWhole s) (b : ℕ) where
  abbrev Fn : Function
  Fn = F s entry right kinds o unit u p among

  abbrev Where : Scope
  Where = V s entry right kinds o unit u p among

  abbrev Marks : List Bool
  Marks = R s entry right kinds o unit u p among

  abbrev globals : ℕ → Option Expr
  globals = global_expr (S s entry right kinds o unit u p among) (id_text (Found s entry right kinds o unit u p among))

  -- the type of a value stands in the text
  abbrev pub IsTextType : Program → Tree → Type 0
  IsTextType = IsText s u.entry o.overrides (Found s entry right kinds o unit u p among) Fn globals Where.form Where.carried

  module _ (is_one : IsFunctionOf Fn s.of.functions) (program : Program) (calls : Text → List Argument → State → Result (Option Typed × State)) (N : Naming) (c : Frame) (z : State) (expr : ℕ → Expr) where
    abbrev SaysSo : Expr → ℕ → ValueTree → Type 0
    SaysSo e n v = evaluate program calls e z ≡ got [] (typed (N.shape n) v, z)

    -- What is known of the text and of the values of the function: none of the text's own functions is called as what is built in; names have the shapes of their types, values fit these and are of words, and constants that are written as literals have their words; the types of what the block reads, and of what its operations give, stand in the text, and no array that OpCopyLogical gives is too long for an int to lead to each element; each instruction is typed; and the length of an array is said.
    pub record AreKnown : Type 0 where
      pub none : NoneDeclared program
      pub shapes : (n : ℕ) (t : Tree) → value_shape s Fn n ≡ Some t → N.shape n ≡ shape_in s (struct_names (text_of (Found s entry right kinds o unit u p among))) t
      pub fitting : (n : ℕ) (t : Tree) → value_shape s Fn n ≡ Some t → (v : ValueTree) → value_at s c n ≡ Some v → fits t v ≡ true
      pub low : (n : ℕ) (v : ValueTree) → value_at s c n ≡ Some v → IsOfWords v
      pub literals : (n : ℕ) (v : ValueTree) → value_at s c n ≡ Some v → (w : ℕ) → word_at Where.setting n ≡ Some w → v ≡ word w
      pub result_texts : (j : Inst) → IsIn j (insts_of Fn) → (k : ℕ) → inst_at Fn b k ≡ Some j → slice_index_or Marks b false ≡ true → is_gone (Where.form j.result) ≡ false → (t : Tree) → type_tree s.of.globals j.ty ≡ Some t → IsTextType program t
      pub operand_texts : (n : ℕ) → IsValueIn Where Marks b n → (t : Tree) → value_shape s Fn n ≡ Some t → (v : ValueTree) → value_at s c n ≡ Some v → IsTextType program t
      pub copies : (j : Inst) → IsIn j (insts_of Fn) → j.op ≡ code.CopyLogical → (t : Tree) → type_tree s.of.globals j.ty ≡ Some t → IsShort t
      pub typed_so : (j : Inst) → IsIn j (insts_of Fn) → IsTyped s Fn j (step_kind j.op)
      pub lengths : (j : Inst) → IsIn j (insts_of Fn) → step_kind j.op ≡ steps.array_length → (v : ValueTree) → outcome steps.array_length s c j ≡ Some (holds_value v) → SaysSo (expression Where expr b j) j.result v

    module _ (known : AreKnown) (j : Inst) (there : IsIn j (insts_of Fn)) (k : ℕ) (at : inst_at Fn b k ≡ Some j) (here : slice_index_or Marks b false ≡ true) (ready : step_kind j.op ≡ steps.operation → (n : ℕ) → In n (reads j) → IsValueIn Where Marks b n) (t : Tree) (shaped : type_tree s.of.globals j.ty ≡ Some t) (v : ValueTree) where
      by_operation : is_gone (Where.form j.result) ≡ false → is_always_named j.op ≡ false → step_kind j.op ≡ steps.operation → outcome (step_kind j.op) s c j ≡ Some (holds_value v) → ((k : ℕ) → In k (reads j) → (w : ValueTree) → value_at s c k ≡ Some w → SaysSo (expr k) k w) → SaysSo (expression Where expr b j) j.result v
      by_operation kept unnamed step has each =
          let in_it = in_module s entry right kinds o unit u p among in
          let own = own_shape s entry right Fn in_it j (as_among (insts_of Fn) j there) t shaped in
          subst (λ (q : Shape). evaluate program calls (expression Where expr b j) z ≡ got [] (typed q v, z)) (sym (known.shapes j.result t own))
          (operation_says s u.entry o.overrides (Found s entry right kinds o unit u p among) Fn globals Where.form Where.carried program known.none calls z c expr N.shape j t shaped (known.result_texts j there k at here kept t shaped) b v
          entry right in_it (as_among (insts_of Fn) j there) unnamed (λ copies. known.copies j there copies t shaped)
          (subst (λ (q : steps.StepKind). IsTyped s Fn j q) step (known.typed_so j there))
          (λ n n_in a a_is w w_is. record {
            says = each n (subst (λ (q : steps.StepKind). In n (read_ids q j)) (sym step) n_in) w w_is;
            shaped = known.shapes n a a_is;
            fit = known.fitting n a a_is w w_is;
            low = known.low n w w_is;
            literal = known.literals n w w_is;
            text = known.operand_texts n (ready step n (subst (λ (q : steps.StepKind). In n (read_ids q j)) (sym step) n_in)) a a_is w w_is;
          })
          (given_value (computed s c j) v (subst (λ (q : steps.StepKind). outcome q s c j ≡ Some (holds_value v)) step has)))

      -- an operation, or the length of an array, that is not always named, and that is written
      pub written_so : is_gone (Where.form j.result) ≡ false → is_always_named j.op ≡ false → (step_kind j.op ≡ steps.operation) ⊎ (step_kind j.op ≡ steps.array_length)
          → outcome (step_kind j.op) s c j ≡ Some (holds_value v) → ((k : ℕ) → In k (reads j) → (w : ValueTree) → value_at s c k ≡ Some w → SaysSo (expr k) k w) → SaysSo (expression Where expr b j) j.result v
      written_so kept unnamed (inl step) has each = by_operation kept unnamed step has each
      written_so kept unnamed (inr step) has each = known.lengths j there step v (subst (λ (q : steps.StepKind). outcome q s c j ≡ Some (holds_value v)) step has)

      -- The field `lowers` of what is asked of values.
      pub lowered_so : Where.form j.result ≡ Forwarded → outcome (step_kind j.op) s c j ≡ Some (holds_value v) → ((k : ℕ) → In k (reads j) → (w : ValueTree) → value_at s c k ≡ Some w → SaysSo (expr k) k w) → SaysSo (expression Where expr b j) j.result v
      lowered_so form = written_so (ap is_gone form) (unnamed_so s entry right kinds o unit u p among j there t shaped form) (forwarded_kind s entry right kinds o unit u p among j there t shaped form lends is_one).0

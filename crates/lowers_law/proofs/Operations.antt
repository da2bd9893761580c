-- The expression of each operation that stands in expressions says the operation's value.
use Rattle.std.proofs.Common.{◌≡◌, ◌⊎◌, ℕ, Bool, true, false, List, [], ◌∷◌, drop, length, map, take, Option, Some, None, inl, inr, refl, sym, ap, ap₂, ◌∙◌, subst, unwrap_or}
use Rattle.std.specs.Prelude.{option_and_then, slice_index, Contains}
use Rattle.std.proofs.lemmas.Option.{same_Some}
use Rattle.spv_ops.specs.Opcode.{is, number}
use Rattle.spv_ops.specs.OpGroups.{group_of}
use Rattle.spv_ops.specs.declared.Op.{Op}
use Rattle.spv_ops.specs.declared.Op.TheVariants as code
use Rattle.spv_module.specs.declared.inst.Inst.{Inst}
use Rattle.spv_module.specs.declared.inst.Function.{Function}
use Rattle.spv_module.specs.declared.tree.Elem.{Elem}
use Rattle.spv_module.specs.declared.tree.Elem.TheVariants as elem
use Rattle.spv_types.specs.Tree as plain
use Rattle.spv_types.specs.Tree.{Tree, ValueTree}
use Rattle.spv_types.specs.Types.{type_tree}
use Rattle.spv_types.specs.Leaves.{zero_of}
use Rattle.spv_index.specs.Locals.{insts_of, type_in}
use Rattle.op_semantics.specs.declared.operation.Unary.TheVariants.{Not}
use Rattle.op_semantics.specs.declared.operation.Operation.{Operation}
use Rattle.op_semantics.specs.declared.operation.Operation.TheVariants as op
use Rattle.op_semantics.specs.Fits.{elem_tree}
use Rattle.op_semantics.specs.Value.{operation, operation_of, op_value, of_one, value_of_operation}
use Rattle.profile_rules.specs.declared.given.Given.{Given}
use Rattle.profile_rules.specs.TypeRows.{is_other}
use Rattle.profile_rules.specs.TypeRules.{is_value_broken, is_number_broken}
use Rattle.spv_index.specs.ValueTypes.{is_no_value_type}
use Rattle.module_semantics.specs.Setting.{Setting}
use Rattle.module_semantics.specs.State.{Frame}
use Rattle.module_semantics.specs.Operands.{value_at, value_operands, literal_operands, values_at}
use Rattle.module_semantics.specs.Steps.{computed}
use Rattle.module_semantics.specs.Steps as steps
use Rattle.name_alloc.specs.declared.claims.Key.{Key}
use Rattle.glsl_ast.specs.Tree.{Text, Expr, TypeName, build, exprs_in, choose}
use Rattle.traces.specs.Outcomes.{Result}
use Rattle.glsl_semantics.specs.Shapes.{Shape, Typed, typed}
use Rattle.glsl_semantics.specs.States.{State}
use Rattle.glsl_semantics.specs.Expressions.{Program, Argument as Passed}
use Rattle.vec_lowering.specs.Composite.{Argument, copied as as_copied}
use Rattle.vec_lowering.specs.Lowered.{written, written_if_any, extracted_from, on_arguments}
use Rattle.text_rules.specs.Types.{zero_text}
use Rattle.text_rules.specs.Outlines.{basic_of, basic}
use Rattle.text_rules.specs.Declarations.{spelling}
use Rattle.expr_forward.specs.declared.kinds.OperationKind.{OperationKind}
use Rattle.expr_forward.specs.declared.kinds.OperationKind.TheVariants as kind
use Rattle.expr_forward.specs.Kinds.{kind_of, operation_kind_of}
use Rattle.expr_forward.specs.Scope.{Scope, type_of}
use Rattle.expr_forward.specs.Paths.{part_steps, further}
use Rattle.expr_forward.specs.Context.{operand}
use Rattle.expr_forward.specs.Values.{argument, literal_words, by_kind, expression}
use Rattle.hoist_plan.specs.declared.form.Form.{Form}
use Rattle.hoist_plan.specs.Plan.{is_always_named}
use Rattle.unit_rules.specs.Translation.{text_of, id_text}
use Rattle.plan_law.specs.InOrder.{IsAmong}
use Rattle.region_law.specs.Leads.{In}
use Rattle.fits_law.specs.Takes.{Sort, numbers, truths, Has, Alike, shape_at, IsCondition, IsShuffle, OfOne, OfTwo, OfThree, OfFour, Takes}
use Rattle.fits_law.specs.State.{value_shape}
use Rattle.fits_law.specs.Typed.{HaveShapes, IsTyped}
use Rattle.type_law.proofs.Operands as numbers_law
use Rattle.type_law.proofs.Operands.{same_shape_of}
use Rattle.lowering_law.specs.BuiltIns.{NoneDeclared}
use Rattle.lowering_law.specs.Written.{IsShort}
use Rattle.lowering_law.specs.Arguments.{IsBasic, IsPlainCopy, IsCopy, IsExpression}
use Rattle.lowering_law.proofs.Saying.{read}
use Rattle.global_law.specs.Parts.{shape_in}
use Rattle.global_law.proofs.Global.Zeros.{zero_says}
use Rattle.typed_law.specs.Conforms.{IsConforming}
use Rattle.typed_law.proofs.Lists.{or_right, clash, some_part}
use Rattle.typed_law.proofs.Rules.{value_right, number_right}
use Rattle.lowers_law.proofs.Types.{basic_by, of_basic, decide_basic, Src, type_is, type_named, parts_are}
use Rattle.lowers_law.proofs.Opcodes.{is_plain, is_extended, View, undefined, copied, extracted, constructed, logical, extended, plain as plainly, view, values_same, literals_same, operation_same, plain_operation, copy_is, plain_copy, extended_operation, extended_at}
use Rattle.lowers_law.proofs.Copies.{copied_logical}
use Rattle.lowers_law.proofs.Meant.{AllBasic, S, Y, Where, IsTextType, IsMeant, AreMeant, meant, meant_of, are_meant, basics_same, exprs_same, tells}

-- shapes of operands by their number: those of scalars and vectors
has_basic : (k : Sort) (n : Option ℕ) (t : Tree) → Has k n t → IsBasic t
has_basic numbers None plain.int h = tt
has_basic numbers None plain.uint h = tt
has_basic truths None plain.boolean h = tt
has_basic k (Some n) (plain.vector e m) h = tt
has_basic _ _ _ h = absurd h

one_basic : (Q : Tree → Type 0) (R : Type 0) (us : List Tree) → OfOne Q us → ((a : Tree) → Q a → R × IsBasic a) → R × AllBasic us
one_basic Q R (a ∷ []) q k = let w = k a q in (w.0, (w.1, tt))
one_basic Q R [] q k = absurd q
one_basic Q R (a ∷ b ∷ us) q k = absurd q

two_basic : (Q : Tree → Tree → Type 0) (R : Type 0) (us : List Tree) → OfTwo Q us → ((a b : Tree) → Q a b → R × IsBasic a × IsBasic b) → R × AllBasic us
two_basic Q R (a ∷ b ∷ []) q k = let w = k a b q in (w.0, (w.1, (w.2, tt)))
two_basic Q R [] q k = absurd q
two_basic Q R (a ∷ []) q k = absurd q
two_basic Q R (a ∷ b ∷ c ∷ us) q k = absurd q

three_basic : (Q : Tree → Tree → Tree → Type 0) (R : Type 0) (us : List Tree) → OfThree Q us → ((a b c : Tree) → Q a b c → R × IsBasic a × IsBasic b × IsBasic c) → R × AllBasic us
three_basic Q R (a ∷ b ∷ c ∷ []) q k = let w = k a b c q in (w.0, (w.1, (w.2, (w.3, tt))))
three_basic Q R [] q k = absurd q
three_basic Q R (a ∷ []) q k = absurd q
three_basic Q R (a ∷ b ∷ []) q k = absurd q
three_basic Q R (a ∷ b ∷ c ∷ d ∷ us) q k = absurd q

four_basic : (Q : Tree → Tree → Tree → Tree → Type 0) (R : Type 0) (us : List Tree) → OfFour Q us → ((a b c d : Tree) → Q a b c d → R × IsBasic a × IsBasic b × IsBasic c × IsBasic d) → R × AllBasic us
four_basic Q R (a ∷ b ∷ c ∷ d ∷ []) q k = let w = k a b c d q in (w.0, (w.1, (w.2, (w.3, (w.4, tt)))))
four_basic Q R [] q k = absurd q
four_basic Q R (a ∷ []) q k = absurd q
four_basic Q R (a ∷ b ∷ []) q k = absurd q
four_basic Q R (a ∷ b ∷ c ∷ []) q k = absurd q
four_basic Q R (a ∷ b ∷ c ∷ d ∷ e ∷ us) q k = absurd q

elem_basic : (e : Elem) → IsBasic (elem_tree e)
elem_basic elem.Bool = tt
elem_basic elem.Int = tt
elem_basic elem.Uint = tt

condition_basic : (c t : Tree) → IsCondition c t → IsBasic c
condition_basic plain.boolean t is = tt
condition_basic (plain.vector e n) t is = tt
condition_basic _ _ is = absurd is

shuffle_basic : (t : Tree) (ls : List ℕ) (a b : Tree) → IsShuffle t ls a b → IsBasic t × IsBasic a × IsBasic b
shuffle_basic (plain.vector e n) ls (plain.vector d m) (plain.vector g k) is = (tt, tt, tt)
shuffle_basic _ _ _ _ is = absurd is

plain_alike : (t a : Tree) → IsBasic t → Alike t a → IsPlainCopy t a
plain_alike plain.boolean a b is = is
plain_alike plain.int a b is = is
plain_alike plain.uint a b is = is
plain_alike (plain.vector e n) a b is = is
plain_alike (plain.array t l) a b is = absurd b
plain_alike (plain.runtime t) a b is = absurd b
plain_alike (plain.struct k ts) a b is = absurd b

-- a choice of what is neither scalar nor vector is written as one
choice_is : (t : Tree) (x y w : Argument) → (IsBasic t → ⊥) → on_arguments op.Select t (x ∷ y ∷ w ∷ []) ≡ choose x.of y.of w.of
choice_is (plain.array t l) x y w far = refl
choice_is (plain.runtime t) x y w far = refl
choice_is (plain.struct k ts) x y w far = refl
choice_is plain.boolean x y w far = absurd (far tt)
choice_is plain.int x y w far = absurd (far tt)
choice_is plain.uint x y w far = absurd (far tt)
choice_is (plain.vector e n) x y w far = absurd (far tt)

no_basic : (t : Tree) → (IsBasic t → ⊥) → basic_of (Some t) ≡ plain.uint
no_basic (plain.array t l) far = refl
no_basic (plain.runtime t) far = refl
no_basic (plain.struct k ts) far = refl
no_basic plain.boolean far = absurd (far tt)
no_basic plain.int far = absurd (far tt)
no_basic plain.uint far = absurd (far tt)
no_basic (plain.vector e n) far = absurd (far tt)

of_length : (Q : Tree → Type 0) (us : List Tree) → OfOne Q us → length us ≡ 1
of_length Q (a ∷ []) q = refl
of_length Q [] q = absurd q
of_length Q (a ∷ b ∷ us) q = absurd q

-- which operations are those on scalars and vectors, but copies and choices
abbrev IsCalculated : Operation → Type 0
IsCalculated op.Undef = ⊥
IsCalculated op.CompositeConstruct = ⊥
IsCalculated op.CompositeExtract = ⊥
IsCalculated op.CompositeInsert = ⊥
IsCalculated op.VectorInsertDynamic = ⊥
IsCalculated op.Copy = ⊥
IsCalculated op.Select = ⊥
IsCalculated _ = Unit {0}

calculated_basic : (o : Operation) (t : Tree) (ls : List ℕ) (us : List Tree) → IsCalculated o → Takes o t ls us → IsBasic t × AllBasic us
calculated_basic (op.Unary o) t ls us is takes = one_basic _ (IsBasic t) us takes (λ a q. (has_basic numbers q.0 t q.1, has_basic numbers q.0 a q.2))
calculated_basic (op.Binary o) t ls us is takes = two_basic _ (IsBasic t) us takes (λ a b q. (has_basic numbers q.0 t q.1, has_basic numbers q.0 a q.2, has_basic numbers q.0 b q.3))
calculated_basic (op.Comparison o) t ls us is takes = two_basic _ (IsBasic t) us takes (λ a b q. (has_basic truths q.0 t q.1, has_basic numbers q.0 a q.2, has_basic numbers q.0 b q.3))
calculated_basic (op.Logical o) t ls us is takes = two_basic _ (IsBasic t) us takes (λ a b q. (has_basic truths q.0 t q.1, has_basic truths q.0 a q.2, has_basic truths q.0 b q.3))
calculated_basic op.LogicalNot t ls us is takes = one_basic _ (IsBasic t) us takes (λ a q. (has_basic truths q.0 t q.1, has_basic truths q.0 a q.2))
calculated_basic (op.Clamp o) t ls us is takes = three_basic _ (IsBasic t) us takes (λ a b c q. (has_basic numbers q.0 t q.1, has_basic numbers q.0 a q.2, has_basic numbers q.0 b q.3, has_basic numbers q.0 c q.4))
calculated_basic op.BitFieldInsert t ls us is takes = four_basic _ (IsBasic t) us takes (λ a b c d q. (has_basic numbers q.0 t q.1, has_basic numbers q.0 a q.2, has_basic numbers q.0 b q.3, has_basic numbers None c q.4, has_basic numbers None d q.5))
calculated_basic op.BitFieldSExtract t ls us is takes = three_basic _ (IsBasic t) us takes (λ a b c q. (has_basic numbers q.0 t q.1, has_basic numbers q.0 a q.2, has_basic numbers None b q.3, has_basic numbers None c q.4))
calculated_basic op.BitFieldUExtract t ls us is takes = three_basic _ (IsBasic t) us takes (λ a b c q. (has_basic numbers q.0 t q.1, has_basic numbers q.0 a q.2, has_basic numbers None b q.3, has_basic numbers None c q.4))
calculated_basic op.Any t ls us is takes = one_basic _ (IsBasic t) us takes (λ a q. (has_basic truths None t q.1, has_basic truths (Some q.0) a q.2))
calculated_basic op.All t ls us is takes = one_basic _ (IsBasic t) us takes (λ a q. (has_basic truths None t q.1, has_basic truths (Some q.0) a q.2))
calculated_basic op.VectorExtractDynamic t ls us is takes =
    two_basic _ (IsBasic t) us takes (λ a i q. (subst IsBasic (sym q.3) (elem_basic q.0), subst IsBasic (sym q.2) tt, has_basic numbers None i q.4))
calculated_basic op.VectorShuffle t ls us is takes = two_basic _ (IsBasic t) us takes (λ a b q. shuffle_basic t ls a b q)
calculated_basic op.Select t ls us is takes = absurd is
calculated_basic op.Undef t ls us is takes = absurd is
calculated_basic op.Copy t ls us is takes = absurd is
calculated_basic op.VectorInsertDynamic t ls us is takes = absurd is
calculated_basic op.CompositeConstruct t ls us is takes = absurd is
calculated_basic op.CompositeExtract t ls us is takes = absurd is
calculated_basic op.CompositeInsert t ls us is takes = absurd is

calculated_fine : (q : Op) (o : Operation) (t : Tree) (us : List Tree) → IsCalculated o → IsExpression q o t us
calculated_fine q (op.Unary o) t us is = tt
calculated_fine q (op.Binary o) t us is = tt
calculated_fine q (op.Comparison o) t us is = tt
calculated_fine q (op.Logical o) t us is = tt
calculated_fine q op.LogicalNot t us is = tt
calculated_fine q (op.Clamp o) t us is = tt
calculated_fine q op.BitFieldInsert t us is = tt
calculated_fine q op.BitFieldSExtract t us is = tt
calculated_fine q op.BitFieldUExtract t us is = tt
calculated_fine q op.Any t us is = tt
calculated_fine q op.All t us is = tt
calculated_fine q op.VectorExtractDynamic t us is = tt
calculated_fine q op.VectorShuffle t us is = tt
calculated_fine q op.Select t us is = absurd is
calculated_fine q op.Undef t us is = absurd is
calculated_fine q op.Copy t us is = absurd is
calculated_fine q op.VectorInsertDynamic t us is = absurd is
calculated_fine q op.CompositeConstruct t us is = absurd is
calculated_fine q op.CompositeExtract t us is = absurd is
calculated_fine q op.CompositeInsert t us is = absurd is

-- OpCopyLogical copies
copy_operation : (ls : List ℕ) (o : Operation) → operation_of code.CopyLogical ls ≡ Some o → o ≡ op.Copy
unfolding operation_of operation
copy_operation ls o at = sym (same_Some op.Copy o at)

module _ (s : Setting) (entry : ℕ) (overrides : List (ℕ × Given)) (found : Key → Option Text) (f : Function) (globals : ℕ → Option Expr) (form : ℕ → Form) (carried : ℕ → Bool) (p : Program) (none : NoneDeclared p) (calls : Text → List Passed → State → Result (Option Typed × State)) (z : State) (c : Frame) (expr : ℕ → Expr) (shape : ℕ → Shape)
    (j : Inst) (t : Tree) (typed_as : type_tree s.of.globals j.ty ≡ Some t) (text : IsTextType s entry overrides found f globals form carried p none calls z c expr shape t) (block : ℕ) (v : ValueTree) where
  abbrev Wh : Scope
  Wh = Where s entry overrides found f globals form carried p none calls z c expr shape

  abbrev Says : Expr → Typed → Type 0
  Says = S s entry overrides found f globals form carried p none calls z c expr shape

  abbrev Gs : List Inst
  Gs = s.of.globals

  abbrev Types : ℕ → Option ℕ
  Types = type_in s.of.globals f

  abbrev Are : List ℕ → List Tree → List ValueTree → Type 0
  Are = AreMeant s entry overrides found f globals form carried p none calls z c expr shape

  abbrev Args : List ℕ → List Tree → List Argument
  Args = meant_of s entry overrides found f globals form carried p none calls z c expr shape

  abbrev T : Shape
  T = shape_in s (Y s entry overrides found f globals form carried p none calls z c expr shape) t

  -- the instruction, if it had this opcode
  abbrev I : Op → Inst
  I q = record j { op = q }

  abbrev IsSaid : Op → Type 0
  IsSaid q = Says (expression Wh expr block (I q)) (typed T v)

  abbrev Goal : Op → Type 0
  Goal q = (o : Operation) (us : List Tree) (vs : List ValueTree) → operation_of q (literal_operands q j.args) ≡ Some o → Takes o t (literal_operands q j.args) us → HaveShapes s f (value_operands q j.args) us → Are (value_operands q j.args) us vs
      → value_of_operation o t (literal_operands q j.args) vs ≡ Some v → is_value_broken s.of Types j (group_of q) ≡ false → is_number_broken Gs Types j (group_of q) ≡ false → (q ≡ code.CopyLogical → OfOne (IsCopy true t) us) → IsSaid q

  undefined_says : Goal code.Undef
  unfolding operation_of operation operation_kind_of kind_of group_of
  undefined_says o us vs at takes have are made value number logic =
      let same = same_Some op.Undef o at in
      let is = same_Some (zero_of t) v (subst (λ (q : Operation). value_of_operation q t (literal_operands code.Undef j.args) vs ≡ Some v) (sym same) made) in
      subst (λ (e : Expr). Says e (typed T v)) (sym (ap (λ (x : Option Tree). zero_text (spelling (Src s entry overrides found f globals form carried) (id_text found)) (unwrap_or x plain.uint)) typed_as))
      (subst (λ (u : ValueTree). Says (zero_text (spelling (Src s entry overrides found f globals form carried) (id_text found)) t) (typed T u)) is
      (ap read (zero_says p s (Src s entry overrides found f globals form carried) (text_of found) calls z t text.0)))

  copied_as : (args : List ℕ) (us : List Tree) (vs : List ValueTree) → HaveShapes s f args us → Are args us vs → OfOne (Alike t) us → of_one Some vs ≡ Some v → is_other Gs Types j.ty (slice_index args 0) ≡ false → Says (expr (slice_index args 0)) (typed T v)
  copied_as (x ∷ []) (a ∷ []) (w ∷ []) have are takes made off =
      let m = are.0 in
      let same : a ≡ t = same_shape_of s f j.ty x t a off typed_as have.0 in
      subst (λ (q : Shape). Says (expr x) (typed q v)) (m.shaped ∙ ap (shape_in s (Y s entry overrides found f globals form carried p none calls z c expr shape)) same)
      (subst (λ (q : ValueTree). Says (expr x) (typed (shape x) q)) (same_Some w v made) m.says)
  copied_as [] [] vs have are takes made off = absurd takes
  copied_as [] (a ∷ us) vs have are takes made off = absurd have
  copied_as (x ∷ xs) [] vs have are takes made off = absurd have
  copied_as (x ∷ xs) (a ∷ b ∷ us) vs have are takes made off = absurd takes
  copied_as (x ∷ y ∷ xs) (a ∷ []) vs have are takes made off = absurd have.1
  copied_as (x ∷ []) (a ∷ []) [] have are takes made off = absurd are
  copied_as (x ∷ []) (a ∷ []) (w ∷ q ∷ vs) have are takes made off = absurd are.1

  copied_says : Goal code.CopyObject
  unfolding operation_of operation operation_kind_of kind_of group_of
  copied_says o us vs at takes have are made value number logic =
      let same = same_Some op.Copy o at in
      copied_as j.args us vs have are
      (subst (λ (q : Operation). Takes q t (literal_operands code.CopyObject j.args) us) (sym same) takes)
      (subst (λ (q : Operation). value_of_operation q t (literal_operands code.CopyObject j.args) vs ≡ Some v) (sym same) made)
      (or_right (is_no_value_type s.of.heads Gs j.ty) (is_other Gs Types j.ty (slice_index j.args 0)) value)

  extracted_text : (args : List ℕ) (us : List Tree) → HaveShapes s f (take 1 args) us → OfOne (λ (a : Tree). shape_at a (drop 1 args) ≡ Some t) us
      → further (expr (slice_index args 0)) (part_steps Wh.setting (type_of Wh (slice_index args 0)) (drop 1 args)) ≡ extracted_from found (drop 1 args) (Args (take 1 args) us)
  extracted_text (x ∷ args) (a ∷ []) have takes = parts_are s entry overrides found f globals form carried args (type_of Wh x) a t (expr x) (type_is s entry overrides found f globals form carried x a have.0) takes
  extracted_text [] [] have takes = absurd takes
  extracted_text [] (a ∷ us) have takes = absurd have
  extracted_text (x ∷ args) [] have takes = absurd have
  extracted_text (x ∷ args) (a ∷ b ∷ us) have takes = absurd takes

  extracted_says : Goal code.CompositeExtract
  unfolding operation_of operation operation_kind_of kind_of group_of
  extracted_says o us vs at takes have are made value number logic =
      let same = same_Some op.CompositeExtract o at in
      let takes_so : OfOne (λ (a : Tree). shape_at a (drop 1 j.args) ≡ Some t) us = subst (λ (q : Operation). Takes q t (literal_operands code.CompositeExtract j.args) us) (sym same) takes in
      subst (λ (x : Expr). Says x (typed T v)) (sym (extracted_text j.args us have takes_so))
      (tells s entry overrides found f globals form carried p none calls z c expr shape code.CompositeExtract op.CompositeExtract t (drop 1 j.args) (take 1 j.args) us vs v text takes_so tt are
      (subst (λ (q : Operation). value_of_operation q t (literal_operands code.CompositeExtract j.args) vs ≡ Some v) (sym same) made))

  constructed_says : Goal code.CompositeConstruct
  unfolding operation_of operation operation_kind_of kind_of group_of
  constructed_says o us vs at takes have are made value number logic =
      let same = same_Some op.CompositeConstruct o at in
      subst (λ (x : Expr). Says x (typed T v))
      (sym (ap₂ (λ (n : TypeName) (es : List Expr). build n (exprs_in es)) (type_named s entry overrides found f globals form carried p j.ty t typed_as text.0) (exprs_same s entry overrides found f globals form carried p none calls z c expr shape j.args us have)))
      (tells s entry overrides found f globals form carried p none calls z c expr shape code.CompositeConstruct op.CompositeConstruct t (literal_operands code.CompositeConstruct j.args) j.args us vs v text
      (subst (λ (q : Operation). Takes q t (literal_operands code.CompositeConstruct j.args) us) (sym same) takes) tt are
      (subst (λ (q : Operation). value_of_operation q t (literal_operands code.CompositeConstruct j.args) vs ≡ Some v) (sym same) made))

  logical_text : (args : List ℕ) (us : List Tree) → HaveShapes s f args us → OfOne (IsCopy true t) us → as_copied found (unwrap_or (type_tree Gs j.ty) plain.uint) (unwrap_or (type_tree Gs (type_of Wh (slice_index args 0))) plain.uint) (expr (slice_index args 0)) ≡ written found code.CopyLogical op.Copy t [] (Args args us)
  unfolding number
  logical_text (x ∷ []) (a ∷ []) have is =
      ap₂ (λ (q : Option Tree) (r : Option Tree). as_copied found (unwrap_or q plain.uint) (unwrap_or r plain.uint) (expr x)) typed_as (type_is s entry overrides found f globals form carried x a have.0)
  logical_text (x ∷ y ∷ args) (a ∷ []) have is = absurd have.1
  logical_text [] [] have is = absurd is
  logical_text [] (a ∷ us) have is = absurd have
  logical_text (x ∷ args) [] have is = absurd have
  logical_text (x ∷ args) (a ∷ b ∷ us) have is = absurd is

  logical_says : Goal code.CopyLogical
  unfolding operation_of operation operation_kind_of kind_of group_of number
  logical_says o us vs at takes have are made value number logic =
      let same = same_Some op.Copy o at in
      subst (λ (x : Expr). Says x (typed T v)) (sym (logical_text j.args us have (logic refl)))
      (tells s entry overrides found f globals form carried p none calls z c expr shape code.CopyLogical op.Copy t [] j.args us vs v text
      (subst (λ (q : Operation). Takes q t [] us) (sym same) takes) (logic refl) are
      (subst (λ (q : Operation). value_of_operation q t [] vs ≡ Some v) (sym same) made))

  -- an operation on scalars and vectors, by its own words
  abbrev Basics : List ℕ → List Argument
  Basics ns = map operand (map (argument Wh expr) ns)

  basics_say : (q : Op) (o : Operation) (ls ns : List ℕ) (us : List Tree) (vs : List ValueTree) → IsBasic t → AllBasic us → HaveShapes s f ns us → Says (written found q o t ls (Args ns us)) (typed T v) → Says (written found q o (basic Gs j.ty) ls (Basics ns)) (typed T v)
  basics_say q o ls ns us vs b all have says =
      subst (λ (x : Expr). Says x (typed T v))
      (sym (ap₂ (λ (r : Tree) (xs : List Argument). written found q o r ls xs) (basic_by Gs j.ty t typed_as ∙ of_basic t b) (basics_same s entry overrides found f globals form carried p none calls z c expr shape ns us have all))) says

  abbrev M : ℕ → Tree → Argument
  M = meant s entry overrides found f globals form carried p none calls z c expr shape

  -- of any shape, where one truth value chooses
  choice_says : (q : Op) (ls ns : List ℕ) (us : List Tree) (vs : List ValueTree) → (IsBasic t → ⊥) → OfThree (λ c a b. IsCondition c t × (a ≡ t) × (b ≡ t)) us → HaveShapes s f ns us → Says (on_arguments op.Select t (Args ns us)) (typed T v) → Says (on_arguments op.Select (basic Gs j.ty) (Basics ns)) (typed T v)
  choice_says q ls (x ∷ y ∷ w ∷ []) (a ∷ b ∷ d ∷ []) vs far takes have says =
      subst (λ (r : Tree). Says (on_arguments op.Select r (Basics (x ∷ y ∷ w ∷ []))) (typed T v)) (sym (basic_by Gs j.ty t typed_as ∙ no_basic t far))
      (subst (λ (e : Expr). Says e (typed T v)) (choice_is t (M x a) (M y b) (M w d) far) says)
  choice_says q ls ns [] vs far takes have says = absurd takes
  choice_says q ls ns (a ∷ []) vs far takes have says = absurd takes
  choice_says q ls ns (a ∷ b ∷ []) vs far takes have says = absurd takes
  choice_says q ls ns (a ∷ b ∷ d ∷ e ∷ us) vs far takes have says = absurd takes
  choice_says q ls [] (a ∷ b ∷ d ∷ []) vs far takes have says = absurd have
  choice_says q ls (x ∷ []) (a ∷ b ∷ d ∷ []) vs far takes have says = absurd have.1
  choice_says q ls (x ∷ y ∷ []) (a ∷ b ∷ d ∷ []) vs far takes have says = absurd have.1.1
  choice_says q ls (x ∷ y ∷ w ∷ k ∷ ns) (a ∷ b ∷ d ∷ []) vs far takes have says = absurd have.1.1.1

  choice_basic : (us : List Tree) → IsBasic t → OfThree (λ c a b. IsCondition c t × (a ≡ t) × (b ≡ t)) us → AllBasic us
  choice_basic us b takes = (three_basic (λ c a b. IsCondition c t × (a ≡ t) × (b ≡ t)) (Unit {0}) us takes (λ c a d w. (tt, condition_basic c t w.0, subst IsBasic (sym w.1) b, subst IsBasic (sym w.2) b))).1

  -- T19: what OpBitcast takes is of numbers
  copy_numbers : (q : Op) (us : List Tree) → q ≡ code.Bitcast → HaveShapes s f (value_operands q j.args) us → is_number_broken Gs Types j (group_of q) ≡ false → OfOne (Alike t) us → OfOne (λ a. (n : Option ℕ) × Has numbers n t × Has numbers n a) us
  unfolding group_of
  copy_numbers q us same have number takes =
      numbers_law.unary_takes s f j.ty t [] j.args us typed_as (subst (λ (r : Op). HaveShapes s f (value_operands r j.args) us) same have) Not (subst (λ (r : Op). is_number_broken Gs Types j (group_of r) ≡ false) same number) (of_length (Alike t) us takes)

  copy_basic : (us : List Tree) → OfOne (λ a. (n : Option ℕ) × Has numbers n t × Has numbers n a) us → IsBasic t × AllBasic us
  copy_basic us like = one_basic (λ a. (n : Option ℕ) × Has numbers n t × Has numbers n a) (IsBasic t) us like (λ a w. (has_basic numbers w.0 t w.1, has_basic numbers w.0 a w.2))

  plain_copy_is : (us : List Tree) → IsBasic t → OfOne (Alike t) us → OfOne (IsPlainCopy t) us
  plain_copy_is (a ∷ []) b takes = plain_alike t a b takes
  plain_copy_is [] b takes = absurd takes
  plain_copy_is (a ∷ d ∷ us) b takes = absurd takes

  abbrev IsWrittenSo : Op → Operation → Type 0
  IsWrittenSo q o = Says (written found q o (basic Gs j.ty) (literal_operands q j.args) (Basics (value_operands q j.args))) (typed T v)

  plain_says : (q : Op) → operation_kind_of q ≡ kind.Plain → Goal q
  plain_says q is o us vs at takes have are made value number logic =
      subst (λ (k : OperationKind). Says (by_kind Wh expr block (I q) k) (typed T v)) (sym is)
      (subst (λ (ws : List ℕ). Says (lowered ws (literal_words q j.args)) (typed T v)) (sym (values_same q j.args is))
      (subst (λ (ls : List ℕ). Says (lowered (value_operands q j.args) ls) (typed T v)) (sym (literals_same q j.args is))
      (subst (λ (x : Option Operation). Says (written_if_any found q x (basic Gs j.ty) (literal_operands q j.args) (Basics (value_operands q j.args))) (typed T v)) (sym (operation_same q 0 (literal_operands q j.args) is ∙ at))
      (by_operation o (plain_operation q (literal_operands q j.args) o is at) at takes made))))
    where
      lowered : List ℕ → List ℕ → Expr
      lowered ws ls = written_if_any found q (operation_of q (0 ∷ [])) (basic Gs j.ty) ls (Basics ws)

      tells_so : (o : Operation) → Takes o t (literal_operands q j.args) us → IsExpression q o t us → value_of_operation o t (literal_operands q j.args) vs ≡ Some v → Says (written found q o t (literal_operands q j.args) (Args (value_operands q j.args) us)) (typed T v)
      tells_so o takes fine made = tells s entry overrides found f globals form carried p none calls z c expr shape q o t (literal_operands q j.args) (value_operands q j.args) us vs v text takes fine are made

      calculated : (o : Operation) → IsCalculated o → Takes o t (literal_operands q j.args) us → value_of_operation o t (literal_operands q j.args) vs ≡ Some v → IsWrittenSo q o
      calculated o known takes made =
          let w = calculated_basic o t (literal_operands q j.args) us known takes in
          basics_say q o (literal_operands q j.args) (value_operands q j.args) us vs w.0 w.1 have (tells_so o takes (calculated_fine q o t us known) made)

      choice : IsBasic t ⊎ (IsBasic t → ⊥) → Takes op.Select t (literal_operands q j.args) us → value_of_operation op.Select t (literal_operands q j.args) vs ≡ Some v → IsWrittenSo q op.Select
      choice (inl b) takes made = basics_say q op.Select (literal_operands q j.args) (value_operands q j.args) us vs b (choice_basic us b takes) have (tells_so op.Select takes tt made)
      choice (inr far) takes made = choice_says q (literal_operands q j.args) (value_operands q j.args) us vs far takes have (tells_so op.Select takes tt made)

      copy : operation_of q (literal_operands q j.args) ≡ Some op.Copy → Takes op.Copy t (literal_operands q j.args) us → value_of_operation op.Copy t (literal_operands q j.args) vs ≡ Some v → IsWrittenSo q op.Copy
      copy at takes made =
          let w = copy_basic us (copy_numbers q us (copy_is q (literal_operands q j.args) is at) have number takes) in
          basics_say q op.Copy (literal_operands q j.args) (value_operands q j.args) us vs w.0 w.1 have
          (tells_so op.Copy takes (subst (λ (b : Bool). OfOne (IsCopy b t) us) (sym (plain_copy q is)) (plain_copy_is us w.0 takes)) made)

      by_operation : (o : Operation) → is_plain o ≡ true → operation_of q (literal_operands q j.args) ≡ Some o → Takes o t (literal_operands q j.args) us → value_of_operation o t (literal_operands q j.args) vs ≡ Some v → IsWrittenSo q o
      by_operation (op.Unary o) on at takes made = calculated (op.Unary o) tt takes made
      by_operation (op.Binary o) on at takes made = calculated (op.Binary o) tt takes made
      by_operation (op.Comparison o) on at takes made = calculated (op.Comparison o) tt takes made
      by_operation (op.Logical o) on at takes made = calculated (op.Logical o) tt takes made
      by_operation op.LogicalNot on at takes made = calculated op.LogicalNot tt takes made
      by_operation (op.Clamp o) on at takes made = calculated (op.Clamp o) tt takes made
      by_operation op.BitFieldInsert on at takes made = calculated op.BitFieldInsert tt takes made
      by_operation op.BitFieldSExtract on at takes made = calculated op.BitFieldSExtract tt takes made
      by_operation op.BitFieldUExtract on at takes made = calculated op.BitFieldUExtract tt takes made
      by_operation op.Any on at takes made = calculated op.Any tt takes made
      by_operation op.All on at takes made = calculated op.All tt takes made
      by_operation op.VectorExtractDynamic on at takes made = calculated op.VectorExtractDynamic tt takes made
      by_operation op.VectorShuffle on at takes made = calculated op.VectorShuffle tt takes made
      by_operation op.Select on at takes made = choice (decide_basic t) takes made
      by_operation op.Copy on at takes made = copy at takes made
      by_operation op.Undef on at takes made = clash (sym on)
      by_operation op.CompositeConstruct on at takes made = clash (sym on)
      by_operation op.CompositeExtract on at takes made = clash (sym on)
      by_operation op.CompositeInsert on at takes made = clash (sym on)
      by_operation op.VectorInsertDynamic on at takes made = clash (sym on)

  -- those of GLSL.std.450
  extended_says : Goal code.ExtInst
  unfolding operation_kind_of kind_of group_of
  extended_says o us vs at takes have are made value number logic =
      subst (λ (x : Option Operation). Says (written_if_any found code.ExtInst x (basic Gs j.ty) [] (Basics (drop 2 j.args))) (typed T v)) (sym (extended_at j.args o at))
      (by_operation o (extended_operation (literal_operands code.ExtInst j.args) o at) takes made)
    where
      calculated : (o : Operation) → IsCalculated o → Takes o t (literal_operands code.ExtInst j.args) us → Says (written found code.ExtInst o t [] (Args (drop 2 j.args) us)) (typed T v) → Says (written found code.ExtInst o (basic Gs j.ty) [] (Basics (drop 2 j.args))) (typed T v)
      calculated o known takes says =
          let w = calculated_basic o t (literal_operands code.ExtInst j.args) us known takes in
          basics_say code.ExtInst o [] (drop 2 j.args) us vs w.0 w.1 have says

      tells_so : (o : Operation) → Takes o t (literal_operands code.ExtInst j.args) us → IsExpression code.ExtInst o t us → value_of_operation o t (literal_operands code.ExtInst j.args) vs ≡ Some v → Says (written found code.ExtInst o t (literal_operands code.ExtInst j.args) (Args (drop 2 j.args) us)) (typed T v)
      tells_so o takes fine made = tells s entry overrides found f globals form carried p none calls z c expr shape code.ExtInst o t (literal_operands code.ExtInst j.args) (drop 2 j.args) us vs v text takes fine are made

      by_operation : (o : Operation) → is_extended o ≡ true → Takes o t (literal_operands code.ExtInst j.args) us → value_of_operation o t (literal_operands code.ExtInst j.args) vs ≡ Some v → Says (written found code.ExtInst o (basic Gs j.ty) [] (Basics (drop 2 j.args))) (typed T v)
      by_operation (op.Unary o) on takes made = calculated (op.Unary o) tt takes (tells_so (op.Unary o) takes tt made)
      by_operation (op.Binary o) on takes made = calculated (op.Binary o) tt takes (tells_so (op.Binary o) takes tt made)
      by_operation (op.Clamp o) on takes made = calculated (op.Clamp o) tt takes (tells_so (op.Clamp o) takes tt made)
      by_operation (op.Comparison o) on takes made = clash (sym on)
      by_operation (op.Logical o) on takes made = clash (sym on)
      by_operation op.LogicalNot on takes made = clash (sym on)
      by_operation op.BitFieldInsert on takes made = clash (sym on)
      by_operation op.BitFieldSExtract on takes made = clash (sym on)
      by_operation op.BitFieldUExtract on takes made = clash (sym on)
      by_operation op.Any on takes made = clash (sym on)
      by_operation op.All on takes made = clash (sym on)
      by_operation op.Select on takes made = clash (sym on)
      by_operation op.Undef on takes made = clash (sym on)
      by_operation op.Copy on takes made = clash (sym on)
      by_operation op.VectorExtractDynamic on takes made = clash (sym on)
      by_operation op.VectorInsertDynamic on takes made = clash (sym on)
      by_operation op.VectorShuffle on takes made = clash (sym on)
      by_operation op.CompositeConstruct on takes made = clash (sym on)
      by_operation op.CompositeExtract on takes made = clash (sym on)
      by_operation op.CompositeInsert on takes made = clash (sym on)

  goal_by : (q : Op) → View q → Goal q
  goal_by q (undefined same) = subst Goal (sym same) undefined_says
  goal_by q (copied same) = subst Goal (sym same) copied_says
  goal_by q (extracted same) = subst Goal (sym same) extracted_says
  goal_by q (constructed same) = subst Goal (sym same) constructed_says
  goal_by q (logical same) = subst Goal (sym same) logical_says
  goal_by q (extended same) = subst Goal (sym same) extended_says
  goal_by q (plainly is) = plain_says q is

  abbrev Meant : ℕ → Tree → ValueTree → Type 0
  Meant = IsMeant s entry overrides found f globals form carried p none calls z c expr shape

  -- what OpCopyLogical takes, by what it takes one by one
  pub logical_one : (us : List Tree) → HaveShapes s f (value_operands code.CopyLogical j.args) us → OfOne (Alike t) us → ((a : Tree) → value_shape s f (slice_index j.args 0) ≡ Some a → IsCopy true t a) → OfOne (IsCopy true t) us
  logical_one us have takes each = by_args j.args us have takes each
    where
      by_args : (args : List ℕ) (us : List Tree) → HaveShapes s f args us → OfOne (Alike t) us → ((a : Tree) → value_shape s f (slice_index args 0) ≡ Some a → IsCopy true t a) → OfOne (IsCopy true t) us
      by_args (x ∷ args) (a ∷ []) have takes each = each a have.0
      by_args [] (a ∷ us) have takes each = absurd have
      by_args args [] have takes each = absurd takes
      by_args args (a ∷ b ∷ us) have takes each = absurd takes

  -- The law: of an operation that is not always named, where the expressions of its operands say theirs; what OpCopyLogical gives has no array too long for an int.
  pub operation_says : (entry_of : Option (List ℕ)) (right : IsConforming s.of entry_of) (in_it : Contains s.of.functions f) (there : IsAmong j (insts_of f)) → is_always_named j.op ≡ false → (j.op ≡ code.CopyLogical → IsShort t) → IsTyped s f j steps.operation
      → ((n : ℕ) → In n (value_operands j.op j.args) → (u : Tree) → value_shape s f n ≡ Some u → (w : ValueTree) → value_at s c n ≡ Some w → Meant n u w)
      → computed s c j ≡ Some v → Says (expression Wh expr block j) (typed T v)
  operation_says entry_of right in_it there named short typed_so known made =
      let of_values = sym (ap (option_and_then (λ (q : Tree). option_and_then (op_value j.op q (literal_operands j.op j.args)) (values_at s c (value_operands j.op j.args)))) typed_as) ∙ made in
      let vs = some_part (op_value j.op t (literal_operands j.op j.args)) (values_at s c (value_operands j.op j.args)) v of_values in
      let o = some_part (λ (q : Operation). value_of_operation q t (literal_operands j.op j.args) vs.0) (operation_of j.op (literal_operands j.op j.args)) v vs.2 in
      let is = (typed_so.1 o.0 t o.1 typed_as).1 in
      goal_by j.op (view j.op (literal_operands j.op j.args) o.0 named o.1) o.0 is.shapes vs.0 o.1 is.takes is.have
      (are_meant s entry overrides found f globals form carried p none calls z c expr shape (value_operands j.op j.args) is.shapes vs.0 known is.have vs.1) o.2
      (value_right s.of entry_of right f in_it j there) (number_right s.of entry_of right f in_it j there)
      (λ same. logical_at j.op same o.0 is.shapes o.1 is.takes is.have (λ a value. (copied_logical s entry_of right f in_it j there same t a typed_as value, short same)))
    where
      copied_takes : (o : Operation) (us : List Tree) → operation_of code.CopyLogical (literal_operands code.CopyLogical j.args) ≡ Some o → Takes o t (literal_operands code.CopyLogical j.args) us → OfOne (Alike t) us
      copied_takes o us at takes = subst (λ (q : Operation). Takes q t (literal_operands code.CopyLogical j.args) us) (copy_operation (literal_operands code.CopyLogical j.args) o at) takes

      logical_at : (q : Op) → q ≡ code.CopyLogical → (o : Operation) (us : List Tree) → operation_of q (literal_operands q j.args) ≡ Some o → Takes o t (literal_operands q j.args) us → HaveShapes s f (value_operands q j.args) us → ((a : Tree) → value_shape s f (slice_index j.args 0) ≡ Some a → IsCopy true t a) → OfOne (IsCopy true t) us
      logical_at q same o us at takes have each =
          logical_one us (subst (λ (r : Op). HaveShapes s f (value_operands r j.args) us) same have)
          (copied_takes o us (subst (λ (r : Op). operation_of r (literal_operands r j.args) ≡ Some o) same at) (subst (λ (r : Op). Takes o t (literal_operands r j.args) us) same takes)) each

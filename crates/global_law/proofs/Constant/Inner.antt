-- The operation of a calculated constant takes the shapes of its operands (T9, T11, T13 to T15, T17), and is an expression of them.
use Rattle.std.proofs.Common.{◌≡◌, ℕ, suc, true, false, List, [], ◌∷◌, length, take, drop, not, Option, Some, refl, sym, ap, ◌∙◌, subst, arith}
use Rattle.std.specs.Prelude.{nat_le, slice_index}
use Rattle.std.specs.Option.{option_map_or}
use Rattle.std.proofs.lemmas.Option.{same_Some}
use Rattle.spv_ops.specs.Opcode.{number}
use Rattle.spv_ops.specs.Groups.{is_inner}
use Rattle.spv_ops.specs.OpGroups.{group_of}
use Rattle.spv_ops.specs.declared.Op.{Op}
use Rattle.spv_ops.specs.declared.Op.TheVariants as code
use Rattle.spv_module.specs.declared.inst.Inst.{Inst}
use Rattle.spv_types.specs.Tree.{Tree, ValueTree}
use Rattle.spv_types.specs.Types.{type_tree}
use Rattle.spv_types.specs.Leaves.{IsSized}
use Rattle.spv_decor.specs.Rows.{word}
use Rattle.spv_index.specs.Locals.{type_in}
use Rattle.op_semantics.specs.declared.operation.Unary.TheVariants.{SNegate, Not}
use Rattle.op_semantics.specs.declared.operation.Binary.TheVariants.{IAdd, ISub, IMul, UDiv, SDiv, UMod, SRem, SMod, ShiftRightLogical, ShiftRightArithmetic, ShiftLeftLogical, BitwiseOr, BitwiseXor, BitwiseAnd}
use Rattle.op_semantics.specs.declared.operation.Comparison.TheVariants.{IEqual, INotEqual, UGreaterThan, SGreaterThan, UGreaterThanEqual, SGreaterThanEqual, ULessThan, SLessThan, ULessThanEqual, SLessThanEqual}
use Rattle.op_semantics.specs.declared.operation.Logical.TheVariants.{LogicalEqual, LogicalNotEqual, LogicalOr, LogicalAnd}
use Rattle.op_semantics.specs.declared.operation.Operation.{Operation}
use Rattle.op_semantics.specs.declared.operation.Operation.TheVariants as op
use Rattle.op_semantics.specs.Value.{of_one, of_two, of_three, operation, operation_of, value_of_operation}
use Rattle.profile_rules.specs.Constants.{inner_operands, inner_literals}
use Rattle.profile_rules.specs.TypeRows.{is_other, fails, is_void}
use Rattle.profile_rules.specs.NumberRules.{is_no_condition}
use Rattle.profile_rules.specs.ValueRules.{breaks_t9, breaks_t11_extract, is_elsewhere, part_of}
use Rattle.profile_rules.specs.NumberRules.{breaks_t17}
use Rattle.profile_rules.specs.TypeRules.{is_value_broken, is_number_broken}
use Rattle.module_semantics.specs.Setting.{Setting}
use Rattle.list_law.proofs.Options.{some_part}
use Rattle.fits_law.specs.Takes.{Takes, AllFit}
use Rattle.fits_law.specs.State.{value_shape}
use Rattle.fits_law.specs.Typed.{HaveShapes}
use Rattle.type_law.proofs.Operands.{unary_takes, binary_takes, comparison_takes, logical_takes, not_takes}
use Rattle.type_law.proofs.Choices.{select_takes}
use Rattle.type_law.proofs.Parts.{extract_takes}
use Rattle.type_law.proofs.Vectors.{shuffle_takes}
use Rattle.lowering_law.specs.Arguments.{IsExpression}
use Rattle.typed_law.proofs.Lists.{or_right}
use Rattle.typed_law.proofs.Operations.{four_off}
use Rattle.global_law.proofs.Constant.Constituents.{nothing}

-- a value is of as many operands as the operation has
one_value : (f : ValueTree → Option ValueTree) (vs : List ValueTree) (v : ValueTree) → of_one f vs ≡ Some v → length vs ≡ 1
one_value f [] v e = cc
one_value f (a ∷ []) v e = refl
one_value f (a ∷ b ∷ vs) v e = cc

two_values : (f : ValueTree → ValueTree → Option ValueTree) (vs : List ValueTree) (v : ValueTree) → of_two f vs ≡ Some v → length vs ≡ 2
two_values f [] v e = cc
two_values f (a ∷ []) v e = cc
two_values f (a ∷ b ∷ []) v e = refl
two_values f (a ∷ b ∷ c ∷ vs) v e = cc

three_values : (f : ValueTree → ValueTree → ValueTree → Option ValueTree) (vs : List ValueTree) (v : ValueTree) → of_three f vs ≡ Some v → length vs ≡ 3
three_values f [] v e = cc
three_values f (a ∷ []) v e = cc
three_values f (a ∷ b ∷ []) v e = cc
three_values f (a ∷ b ∷ c ∷ []) v e = refl
three_values f (a ∷ b ∷ c ∷ d ∷ vs) v e = cc

as_many : (us : List Tree) (vs : List ValueTree) → AllFit us vs → length us ≡ length vs
as_many [] [] fit = refl
as_many (u ∷ us) (v ∷ vs) fit = ap (λ k. suc k) (as_many us vs fit.1)
as_many [] (v ∷ vs) fit = absurd fit
as_many (u ∷ us) [] fit = absurd fit

-- operations that may stand there are named by their opcodes
pub inner_operation : (o : Op) → is_inner o ≡ true → operation_of o (0 ∷ []) ≡ operation o
unfolding operation_of
inner_operation code.ExtInst on = cc
inner_operation o on = refl

-- the operands of a few opcodes
three_are : (s : Setting) (ids : List ℕ) (us : List Tree) → HaveShapes s nothing ids us → length us ≡ 3 → (a b c : Tree) × (us ≡ a ∷ b ∷ c ∷ []) × (value_shape s nothing (slice_index ids 0) ≡ Some a) × (value_shape s nothing (slice_index ids 1) ≡ Some b) × (value_shape s nothing (slice_index ids 2) ≡ Some c)
three_are s (x ∷ y ∷ z ∷ []) (a ∷ b ∷ c ∷ []) have count = (a, b, c, refl, have.0, have.1.0, have.1.1.0)
three_are s [] [] have count = absurd (omega (arith, count))
three_are s ids (a ∷ []) have count = absurd (omega (arith, count))
three_are s ids (a ∷ b ∷ []) have count = absurd (omega (arith, count))
three_are s ids (a ∷ b ∷ c ∷ d ∷ us) have count = absurd (omega (arith, count))
three_are s [] (a ∷ b ∷ c ∷ []) have count = absurd have
three_are s (x ∷ []) (a ∷ b ∷ c ∷ []) have count = absurd have.1
three_are s (x ∷ y ∷ []) (a ∷ b ∷ c ∷ []) have count = absurd have.1.1
three_are s (x ∷ y ∷ z ∷ w ∷ ids) (a ∷ b ∷ c ∷ []) have count = absurd have.1.1.1
three_are s (x ∷ ids) [] have count = absurd have

first_two : (s : Setting) (ids : List ℕ) (us : List Tree) → HaveShapes s nothing (take 2 ids) us → length us ≡ 2 → (a b : Tree) × (us ≡ a ∷ b ∷ []) × (value_shape s nothing (slice_index ids 0) ≡ Some a) × (value_shape s nothing (slice_index ids 1) ≡ Some b)
first_two s (x ∷ y ∷ ids) (a ∷ b ∷ []) have count = (a, b, refl, have.0, have.1.0)
first_two s [] [] have count = absurd (omega (arith, count))
first_two s ids (a ∷ []) have count = absurd (omega (arith, count))
first_two s ids (a ∷ b ∷ c ∷ us) have count = absurd (omega (arith, count))
first_two s [] (a ∷ b ∷ []) have count = absurd have
first_two s (x ∷ []) (a ∷ b ∷ []) have count = absurd have.1
first_two s (x ∷ ids) [] have count = absurd (omega (arith, count))

first_one : (s : Setting) (ids : List ℕ) (us : List Tree) → HaveShapes s nothing (take 1 ids) us → length us ≡ 1 → (a : Tree) × (us ≡ a ∷ []) × (value_shape s nothing (slice_index ids 0) ≡ Some a)
first_one s (x ∷ ids) (a ∷ []) have count = (a, refl, have.0)
first_one s ids [] have count = absurd (omega (arith, count))
first_one s ids (a ∷ b ∷ us) have count = absurd (omega (arith, count))
first_one s [] (a ∷ []) have count = absurd have

-- these shapes have values
abbrev pub AllSized : List Tree → Type 0
AllSized [] = Unit {0}
AllSized (u ∷ us) = IsSized u × AllSized us

module _ (s : Setting) (g : Inst) (t : Tree) (shape : type_tree s.of.globals g.ty ≡ Some t) where
  abbrev Gs : List Inst
  Gs = s.of.globals

  abbrev T : ℕ → Option ℕ
  T = type_in s.of.globals nothing

  -- what is asked of an operation with this opcode, of these shapes
  abbrev pub Given : Op → Operation → List Tree → Type 0
  Given o q us = Takes q t (inner_literals o g.args) us × IsExpression o q t us

  module _ (us : List Tree) (vs : List ValueTree) (v : ValueTree) (fit : AllFit us vs) (sized : AllSized us) where
    counted : (n : ℕ) → length vs ≡ n → length us ≡ n
    counted n count = as_many us vs fit ∙ count

    select_given : breaks_t17 Gs T g ≡ false → HaveShapes s nothing g.args us → length us ≡ 3 → Takes op.Select t [] us
    select_given off have count =
        let w = three_are s g.args us have count in
        let parts = four_off (fails (λ g. not (is_void g)) Gs g.ty) (is_other Gs T g.ty (word g 1)) (is_other Gs T g.ty (word g 2)) (option_map_or (is_no_condition Gs g.ty) (T (word g 0)) false) off in
        let c = some_part (type_tree Gs) (T (word g 0)) w.0 w.4 in
        let told : is_no_condition Gs g.ty c.0 ≡ false = ap (λ o. option_map_or (is_no_condition Gs g.ty) o false) (sym c.1) ∙ parts.3 in
        subst (Takes op.Select t []) (sym w.3) (select_takes s nothing [] g.ty (word g 0) (word g 1) (word g 2) c.0 t w.0 w.1 w.2 c.1 told parts.1 parts.2 shape w.4 w.5 w.6)

    shuffle_given : breaks_t9 Gs T g ≡ false → HaveShapes s nothing (take 2 g.args) us → length us ≡ 2 → Takes op.VectorShuffle t (drop 2 g.args) us
    shuffle_given off have count =
        let w = first_two s g.args us have count in
        subst (Takes op.VectorShuffle t (drop 2 g.args)) (sym w.2) (shuffle_takes s nothing g t w.0 w.1 off shape w.3 w.4)

    extract_given : breaks_t11_extract Gs T g ≡ false → HaveShapes s nothing (take 1 g.args) us → length us ≡ 1 → Takes op.CompositeExtract t (drop 1 g.args) us
    extract_given off have count =
        let w = first_one s g.args us have count in
        subst (Takes op.CompositeExtract t (drop 1 g.args)) (sym w.1) (extract_takes s nothing g.ty (word g 0) (drop 1 g.args) t w.0 (or_right (nat_le (length g.args) 1) (is_elsewhere Gs g.ty (part_of Gs (T (word g 0)) (drop 1 g.args))) off) shape w.2 (first_sized us w.0 w.1 sized))
      where
        first_sized : (us : List Tree) (a : Tree) → us ≡ a ∷ [] → AllSized us → IsSized a
        first_sized us a same sized = let both : AllSized (a ∷ []) = subst AllSized same sized in both.0

    -- the operation is that of the opcode
    given : (o : Op) (p q : Operation) → Some p ≡ Some q → (value_of_operation p t (inner_literals o g.args) vs ≡ Some v → Given o p us) → value_of_operation q t (inner_literals o g.args) vs ≡ Some v → Given o q us
    given o p q at known e = let same = same_Some p q at in subst (λ r. Given o r us) same (known (ap (λ r. value_of_operation r t (inner_literals o g.args) vs) same ∙ e))

    pub inner_given : (o : Op) (q : Operation) → is_inner o ≡ true → is_value_broken s.of T g (group_of o) ≡ false → is_number_broken Gs T g (group_of o) ≡ false → operation o ≡ Some q → value_of_operation q t (inner_literals o g.args) vs ≡ Some v → HaveShapes s nothing (inner_operands o g.args) us → Given o q us
    unfolding group_of operation number
    inner_given code.SNegate q on value_off number_off at e have = given code.SNegate (op.Unary SNegate) q at (λ e. (unary_takes s nothing g.ty t [] g.args us shape have SNegate number_off (counted 1 (one_value _ vs v e)), tt)) e
    inner_given code.Not q on value_off number_off at e have = given code.Not (op.Unary Not) q at (λ e. (unary_takes s nothing g.ty t [] g.args us shape have Not number_off (counted 1 (one_value _ vs v e)), tt)) e
    inner_given code.IAdd q on value_off number_off at e have = given code.IAdd (op.Binary IAdd) q at (λ e. (binary_takes s nothing g.ty t [] g.args us shape have IAdd number_off (counted 2 (two_values _ vs v e)), tt)) e
    inner_given code.ISub q on value_off number_off at e have = given code.ISub (op.Binary ISub) q at (λ e. (binary_takes s nothing g.ty t [] g.args us shape have ISub number_off (counted 2 (two_values _ vs v e)), tt)) e
    inner_given code.IMul q on value_off number_off at e have = given code.IMul (op.Binary IMul) q at (λ e. (binary_takes s nothing g.ty t [] g.args us shape have IMul number_off (counted 2 (two_values _ vs v e)), tt)) e
    inner_given code.UDiv q on value_off number_off at e have = given code.UDiv (op.Binary UDiv) q at (λ e. (binary_takes s nothing g.ty t [] g.args us shape have UDiv number_off (counted 2 (two_values _ vs v e)), tt)) e
    inner_given code.SDiv q on value_off number_off at e have = given code.SDiv (op.Binary SDiv) q at (λ e. (binary_takes s nothing g.ty t [] g.args us shape have SDiv number_off (counted 2 (two_values _ vs v e)), tt)) e
    inner_given code.UMod q on value_off number_off at e have = given code.UMod (op.Binary UMod) q at (λ e. (binary_takes s nothing g.ty t [] g.args us shape have UMod number_off (counted 2 (two_values _ vs v e)), tt)) e
    inner_given code.SRem q on value_off number_off at e have = given code.SRem (op.Binary SRem) q at (λ e. (binary_takes s nothing g.ty t [] g.args us shape have SRem number_off (counted 2 (two_values _ vs v e)), tt)) e
    inner_given code.SMod q on value_off number_off at e have = given code.SMod (op.Binary SMod) q at (λ e. (binary_takes s nothing g.ty t [] g.args us shape have SMod number_off (counted 2 (two_values _ vs v e)), tt)) e
    inner_given code.ShiftRightLogical q on value_off number_off at e have = given code.ShiftRightLogical (op.Binary ShiftRightLogical) q at (λ e. (binary_takes s nothing g.ty t [] g.args us shape have ShiftRightLogical number_off (counted 2 (two_values _ vs v e)), tt)) e
    inner_given code.ShiftRightArithmetic q on value_off number_off at e have = given code.ShiftRightArithmetic (op.Binary ShiftRightArithmetic) q at (λ e. (binary_takes s nothing g.ty t [] g.args us shape have ShiftRightArithmetic number_off (counted 2 (two_values _ vs v e)), tt)) e
    inner_given code.ShiftLeftLogical q on value_off number_off at e have = given code.ShiftLeftLogical (op.Binary ShiftLeftLogical) q at (λ e. (binary_takes s nothing g.ty t [] g.args us shape have ShiftLeftLogical number_off (counted 2 (two_values _ vs v e)), tt)) e
    inner_given code.BitwiseOr q on value_off number_off at e have = given code.BitwiseOr (op.Binary BitwiseOr) q at (λ e. (binary_takes s nothing g.ty t [] g.args us shape have BitwiseOr number_off (counted 2 (two_values _ vs v e)), tt)) e
    inner_given code.BitwiseXor q on value_off number_off at e have = given code.BitwiseXor (op.Binary BitwiseXor) q at (λ e. (binary_takes s nothing g.ty t [] g.args us shape have BitwiseXor number_off (counted 2 (two_values _ vs v e)), tt)) e
    inner_given code.BitwiseAnd q on value_off number_off at e have = given code.BitwiseAnd (op.Binary BitwiseAnd) q at (λ e. (binary_takes s nothing g.ty t [] g.args us shape have BitwiseAnd number_off (counted 2 (two_values _ vs v e)), tt)) e
    inner_given code.IEqual q on value_off number_off at e have = given code.IEqual (op.Comparison IEqual) q at (λ e. (comparison_takes s nothing g t [] us shape have IEqual number_off (counted 2 (two_values _ vs v e)), tt)) e
    inner_given code.INotEqual q on value_off number_off at e have = given code.INotEqual (op.Comparison INotEqual) q at (λ e. (comparison_takes s nothing g t [] us shape have INotEqual number_off (counted 2 (two_values _ vs v e)), tt)) e
    inner_given code.UGreaterThan q on value_off number_off at e have = given code.UGreaterThan (op.Comparison UGreaterThan) q at (λ e. (comparison_takes s nothing g t [] us shape have UGreaterThan number_off (counted 2 (two_values _ vs v e)), tt)) e
    inner_given code.SGreaterThan q on value_off number_off at e have = given code.SGreaterThan (op.Comparison SGreaterThan) q at (λ e. (comparison_takes s nothing g t [] us shape have SGreaterThan number_off (counted 2 (two_values _ vs v e)), tt)) e
    inner_given code.UGreaterThanEqual q on value_off number_off at e have = given code.UGreaterThanEqual (op.Comparison UGreaterThanEqual) q at (λ e. (comparison_takes s nothing g t [] us shape have UGreaterThanEqual number_off (counted 2 (two_values _ vs v e)), tt)) e
    inner_given code.SGreaterThanEqual q on value_off number_off at e have = given code.SGreaterThanEqual (op.Comparison SGreaterThanEqual) q at (λ e. (comparison_takes s nothing g t [] us shape have SGreaterThanEqual number_off (counted 2 (two_values _ vs v e)), tt)) e
    inner_given code.ULessThan q on value_off number_off at e have = given code.ULessThan (op.Comparison ULessThan) q at (λ e. (comparison_takes s nothing g t [] us shape have ULessThan number_off (counted 2 (two_values _ vs v e)), tt)) e
    inner_given code.SLessThan q on value_off number_off at e have = given code.SLessThan (op.Comparison SLessThan) q at (λ e. (comparison_takes s nothing g t [] us shape have SLessThan number_off (counted 2 (two_values _ vs v e)), tt)) e
    inner_given code.ULessThanEqual q on value_off number_off at e have = given code.ULessThanEqual (op.Comparison ULessThanEqual) q at (λ e. (comparison_takes s nothing g t [] us shape have ULessThanEqual number_off (counted 2 (two_values _ vs v e)), tt)) e
    inner_given code.SLessThanEqual q on value_off number_off at e have = given code.SLessThanEqual (op.Comparison SLessThanEqual) q at (λ e. (comparison_takes s nothing g t [] us shape have SLessThanEqual number_off (counted 2 (two_values _ vs v e)), tt)) e
    inner_given code.LogicalEqual q on value_off number_off at e have = given code.LogicalEqual (op.Logical LogicalEqual) q at (λ e. (logical_takes s nothing g t [] us shape have LogicalEqual number_off (counted 2 (two_values _ vs v e)), tt)) e
    inner_given code.LogicalNotEqual q on value_off number_off at e have = given code.LogicalNotEqual (op.Logical LogicalNotEqual) q at (λ e. (logical_takes s nothing g t [] us shape have LogicalNotEqual number_off (counted 2 (two_values _ vs v e)), tt)) e
    inner_given code.LogicalOr q on value_off number_off at e have = given code.LogicalOr (op.Logical LogicalOr) q at (λ e. (logical_takes s nothing g t [] us shape have LogicalOr number_off (counted 2 (two_values _ vs v e)), tt)) e
    inner_given code.LogicalAnd q on value_off number_off at e have = given code.LogicalAnd (op.Logical LogicalAnd) q at (λ e. (logical_takes s nothing g t [] us shape have LogicalAnd number_off (counted 2 (two_values _ vs v e)), tt)) e
    inner_given code.LogicalNot q on value_off number_off at e have = given code.LogicalNot op.LogicalNot q at (λ e. (not_takes s nothing g t [] us shape have number_off (counted 1 (one_value _ vs v e)), tt)) e
    inner_given code.Select q on value_off number_off at e have = given code.Select op.Select q at (λ e. (select_given number_off have (counted 3 (three_values _ vs v e)), tt)) e
    inner_given code.VectorShuffle q on value_off number_off at e have = given code.VectorShuffle op.VectorShuffle q at (λ e. (shuffle_given value_off have (counted 2 (two_values _ vs v e)), tt)) e
    inner_given code.CompositeExtract q on value_off number_off at e have = given code.CompositeExtract op.CompositeExtract q at (λ e. (extract_given value_off have (counted 1 (one_value _ vs v e)), tt)) e
    inner_given o q on value_off number_off at e have = cc

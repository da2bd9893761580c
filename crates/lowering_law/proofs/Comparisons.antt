-- Comparisons, operations on truth values, choices and copies of scalars as they are written.
use Rattle.std.proofs.Common.{◌≡◌, ℕ, Bool, true, false, List, Option, refl, sym, subst}
use Rattle.std.specs.Prelude.{◌==◌, not, if◌then◌else◌}
use Rattle.spv_module.specs.declared.tree.Elem.{Elem}
use Rattle.spv_module.specs.declared.tree.Elem.TheVariants as elem
use Rattle.spv_types.specs.Tree.{ValueTree, truth}
use Rattle.glsl_ast.specs.Tree.{Text, Expr, choose}
use Rattle.glsl_ast.specs.Tree as tree
use Rattle.glsl_ast.specs.declared.expressions.BinOp.{BinOp}
use Rattle.glsl_ast.specs.declared.expressions.BinOp.TheVariants.{Less, LessEqual, Greater, GreaterEqual, Equal, NotEqual}
use Rattle.op_semantics.specs.declared.operation.Comparison.{Comparison}
use Rattle.op_semantics.specs.declared.operation.Comparison.TheVariants.{IEqual, INotEqual, UGreaterThan, SGreaterThan, UGreaterThanEqual, SGreaterThanEqual, ULessThan, SLessThan, ULessThanEqual, SLessThanEqual}
use Rattle.op_semantics.specs.declared.operation.Logical.{Logical}
use Rattle.op_semantics.specs.declared.operation.Logical.TheVariants.{LogicalEqual, LogicalNotEqual, LogicalOr, LogicalAnd}
use Rattle.op_semantics.specs.Word.{compare_words, logical_truth}
use Rattle.int_lowering.specs.Operand.{Operand, scalar, same_elem, as_elem, converted}
use Rattle.int_lowering.specs.Lowered as written
use Rattle.traces.specs.Outcomes.{Result}
use Rattle.glsl_semantics.specs.Shapes.{Shape, boolean, Typed, typed}
use Rattle.glsl_semantics.specs.States.{State}
use Rattle.glsl_semantics.specs.Operators.{operated, equality_truth}
use Rattle.glsl_semantics.specs.Expressions.{Program, Argument, settling}
use Rattle.lowering_law.specs.Says.{Says}
use Rattle.lowering_law.specs.Stands.{Stands}
use Rattle.lowering_law.specs.Numbers.{IsNumeric, number}
use Rattle.lowering_law.proofs.Saying.{says_not, says_binary, says_both, says_either, says_choose_first, says_choose_second}
use Rattle.lowering_law.proofs.Operands.{as_elem_says, converted_says}

abbrev truth_value : Bool → Typed
truth_value t = typed boolean (truth t)

module _ (p : Program) (calls : Text → List Argument → State → Result (Option Typed × State)) (s : State) where
  abbrev S : Expr → Typed → Type 0
  S = Says p calls s

  module _ (x y : Operand) (a b : ℕ) (hx : Stands p calls s x a) (hy : Stands p calls s y b) where
    ordered_says : (o : BinOp) (e : Elem) (t : Bool) → IsNumeric e → settling o ≡ Option.None → operated o (number e a) (number e b) ≡ Option.Some (truth_value t) → S (tree.binary o (as_elem e x) (as_elem e y)) (truth_value t)
    ordered_says o e t he both is = says_binary p calls s o (as_elem e x) (as_elem e y) (number e a) (number e b) (truth_value t) both (as_elem_says p calls s e x a he hx) (as_elem_says p calls s e y b he hy) is

    -- words are equal as they are where both have one type, and else as uints
    equal_says : (o : BinOp) → settling o ≡ Option.None → ((e : Elem) → IsNumeric e → operated o (number e a) (number e b) ≡ Option.Some (truth_value (equality_truth o (a == b)))) → S (written.compared_as_they_are o x y) (truth_value (equality_truth o (a == b)))
    equal_says o both is =
        subst (λ ty. S (if same_elem ty.elem y.ty.elem then tree.binary o x.expr y.expr else written.both_as elem.Uint o x y) result) (sym hx.of_type)
        (subst (λ ty. S (if same_elem hx.elem ty.elem then tree.binary o x.expr y.expr else written.both_as elem.Uint o x y) result) (sym hy.of_type)
        (by_types hx.elem hy.elem hx.is_numeric hy.is_numeric hx.says hy.says))
      where
        result : Typed
        result = truth_value (equality_truth o (a == b))

        by_types : (e f : Elem) → IsNumeric e → IsNumeric f → S x.expr (number e a) → S y.expr (number f b) → S (if same_elem e f then tree.binary o x.expr y.expr else written.both_as elem.Uint o x y) result
        by_types elem.Int elem.Int he hf ha hb = says_binary p calls s o x.expr y.expr (number elem.Int a) (number elem.Int b) result both ha hb (is elem.Int tt)
        by_types elem.Uint elem.Uint he hf ha hb = says_binary p calls s o x.expr y.expr (number elem.Uint a) (number elem.Uint b) result both ha hb (is elem.Uint tt)
        by_types elem.Int elem.Uint he hf ha hb = ordered_says o elem.Uint (equality_truth o (a == b)) tt both (is elem.Uint tt)
        by_types elem.Uint elem.Int he hf ha hb = ordered_says o elem.Uint (equality_truth o (a == b)) tt both (is elem.Uint tt)
        by_types elem.Bool f he hf ha hb = absurd he
        by_types elem.Int elem.Bool he hf ha hb = absurd hf
        by_types elem.Uint elem.Bool he hf ha hb = absurd hf

    are_equal : (e : Elem) → IsNumeric e → operated Equal (number e a) (number e b) ≡ Option.Some (truth_value (a == b))
    are_equal elem.Int h = refl
    are_equal elem.Uint h = refl
    are_equal elem.Bool h = absurd h

    are_unlike : (e : Elem) → IsNumeric e → operated NotEqual (number e a) (number e b) ≡ Option.Some (truth_value (not (a == b)))
    are_unlike elem.Int h = refl
    are_unlike elem.Uint h = refl
    are_unlike elem.Bool h = absurd h

    pub comparison_says : (o : Comparison) → S (written.comparison o x y) (truth_value (compare_words o a b))
    comparison_says IEqual = equal_says Equal refl are_equal
    comparison_says INotEqual = equal_says NotEqual refl are_unlike
    comparison_says UGreaterThan = ordered_says Greater elem.Uint (compare_words UGreaterThan a b) tt refl refl
    comparison_says SGreaterThan = ordered_says Greater elem.Int (compare_words SGreaterThan a b) tt refl refl
    comparison_says UGreaterThanEqual = ordered_says GreaterEqual elem.Uint (compare_words UGreaterThanEqual a b) tt refl refl
    comparison_says SGreaterThanEqual = ordered_says GreaterEqual elem.Int (compare_words SGreaterThanEqual a b) tt refl refl
    comparison_says ULessThan = ordered_says Less elem.Uint (compare_words ULessThan a b) tt refl refl
    comparison_says SLessThan = ordered_says Less elem.Int (compare_words SLessThan a b) tt refl refl
    comparison_says ULessThanEqual = ordered_says LessEqual elem.Uint (compare_words ULessThanEqual a b) tt refl refl
    comparison_says SLessThanEqual = ordered_says LessEqual elem.Int (compare_words SLessThanEqual a b) tt refl refl

  pub logical_says : (o : Logical) (x y : Operand) (t u : Bool) → S x.expr (truth_value t) → S y.expr (truth_value u) → S (written.logical o x y) (truth_value (logical_truth o t u))
  logical_says LogicalEqual x y t u hx hy = says_binary p calls s Equal x.expr y.expr (truth_value t) (truth_value u) (truth_value (logical_truth LogicalEqual t u)) refl hx hy refl
  logical_says LogicalNotEqual x y t u hx hy = says_binary p calls s NotEqual x.expr y.expr (truth_value t) (truth_value u) (truth_value (logical_truth LogicalNotEqual t u)) refl hx hy refl
  logical_says LogicalOr x y t u hx hy = says_either p calls s x.expr y.expr t u hx hy
  logical_says LogicalAnd x y t u hx hy = says_both p calls s x.expr y.expr t u hx hy

  pub not_says : (x : Operand) (t : Bool) → S x.expr (truth_value t) → S (tree.not x.expr) (truth_value (not t))
  not_says x t h = says_not p calls s x.expr (truth_value t) (truth_value (not t)) h refl

  -- OpSelect by a truth value, of values of one type
  pub select_says : (x y z : Operand) (t : Bool) (ty : Shape) (v u : ValueTree) → S x.expr (truth_value t) → S y.expr (typed ty v) → S z.expr (typed ty u) → S (choose x.expr y.expr z.expr) (typed ty (if t then v else u))
  select_says x y z true ty v u hx hy hz = says_choose_first p calls s x.expr y.expr z.expr (typed ty v) hx hy
  select_says x y z false ty v u hx hy hz = says_choose_second p calls s x.expr y.expr z.expr (typed ty u) hx hz

  -- OpCopyObject and OpBitcast of numbers
  pub copy_says : (g : Elem) (x : Operand) (a : ℕ) → IsNumeric g → Stands p calls s x a → S (converted (scalar g) x.ty.elem x.expr) (number g a)
  copy_says g x a hg h = subst (λ ty. S (converted (scalar g) ty.elem x.expr) (number g a)) (sym h.of_type) (converted_says p calls s h.elem g x.expr a h.is_numeric hg h.says)

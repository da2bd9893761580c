-- Each operation on scalars, as it is written, says the value of the operation.
use Rattle.std.proofs.Common.{◌≡◌, ℕ, Bool, List, [], ◌∷◌, Option, Some, None, refl, sym, ap, ◌∙◌, subst}
use Rattle.std.specs.Prelude.{option_map, option_and_then}
use Rattle.spv_module.specs.declared.tree.Elem.{Elem}
use Rattle.spv_module.specs.declared.tree.Elem.TheVariants as elem
use Rattle.spv_types.specs.Tree.{Tree, ValueTree, truth, word, many}
use Rattle.glsl_ast.specs.Tree.{Text, Expr, not, choose}
use Rattle.spv_ops.specs.declared.Op.{Op}
use Rattle.op_semantics.specs.declared.operation.Unary.{Unary}
use Rattle.op_semantics.specs.declared.operation.Binary.{Binary}
use Rattle.op_semantics.specs.declared.operation.Binary.TheVariants.{UMin, SMin, UMax, SMax}
use Rattle.op_semantics.specs.declared.operation.Comparison.{Comparison}
use Rattle.op_semantics.specs.declared.operation.Logical.{Logical}
use Rattle.op_semantics.specs.declared.operation.Clamp.{Clamp}
use Rattle.op_semantics.specs.declared.operation.Operation.{Operation}
use Rattle.op_semantics.specs.declared.operation.Operation.TheVariants as op
use Rattle.op_semantics.specs.Word.{binary_word, bit_field_signed, bit_field_unsigned, bit_field_insert}
use Rattle.op_semantics.specs.Component.{by_one, by_two, by_three, unary_scalar, binary_scalar, comparison_scalar, logical_scalar, not_scalar, clamp_scalar, chosen, bit_field, inserted_field}
use Rattle.op_semantics.specs.Value.{operation_of, op_value, value_of_operation}
use Rattle.int_lowering.specs.Operand.{Operand, scalar, converted}
use Rattle.int_lowering.specs.declared.basic.BasicType.{BasicType}
use Rattle.int_lowering.specs.Lowered as written
use Rattle.traces.specs.Outcomes.{Result}
use Rattle.glsl_semantics.specs.Shapes.{Typed, typed, scalar as shape_of_elem}
use Rattle.glsl_semantics.specs.States.{State}
use Rattle.glsl_semantics.specs.Expressions.{Program, Argument}
use Rattle.lowering_law.specs.Says.{Says}
use Rattle.lowering_law.specs.Numbers.{IsNumeric, number}
use Rattle.lowering_law.specs.BuiltIns.{NoneDeclared}
use Rattle.lowering_law.specs.Stands.{Means, AllMean, IsScalarOf, OnScalars, AreScalars}
use Rattle.lowering_law.proofs.Counts.{by_one_operand, by_two_operands, by_three_operands, by_four_operands}
use Rattle.lowering_law.proofs.Lowered.{binary_says}
use Rattle.lowering_law.proofs.Functions.{unary_says}
use Rattle.lowering_law.proofs.Bounds.{bound_says, clamp_says, signed_field_says, unsigned_field_says, insert_says}
use Rattle.lowering_law.proofs.Comparisons.{comparison_says, logical_says, not_says, select_says, copy_says}

pub numeric_of : (g : Elem) (n : ℕ) → IsScalarOf g (word n) → IsNumeric g
numeric_of elem.Int n h = tt
numeric_of elem.Uint n h = tt
numeric_of elem.Bool n h = absurd h

pub truth_of : (g : Elem) (t : Bool) → IsScalarOf g (truth t) → g ≡ elem.Bool
truth_of elem.Bool t h = refl
truth_of elem.Int t h = absurd h
truth_of elem.Uint t h = absurd h

-- a word that there is
from_word : (q : Option ℕ) (r : ValueTree) (Q : ValueTree → Type 0) → ((n : ℕ) → q ≡ Some n → Q (word n)) → option_map word q ≡ Some r → Q r
from_word (Some n) r Q f h = let is : word n ≡ r = cc in subst Q is (f n refl)
from_word None r Q f h = cc

from_some : (v r : ValueTree) (Q : ValueTree → Type 0) → Q v → Some v ≡ Some r → Q r
from_some v r Q f h = let is : v ≡ r = cc in subst Q is f

module _ (p : Program) (none : NoneDeclared p) (calls : Text → List Argument → State → Result (Option Typed × State)) (s : State) where
  abbrev S : Expr → Typed → Type 0
  S = Says p calls s

  abbrev M : Operand → ValueTree → Type 0
  M = Means p calls s

  module _ (g : Elem) where
    -- an expression says this scalar, which is of the type of the result
    abbrev Gives : Expr → ValueTree → Type 0
    Gives e r = IsScalarOf g r → S e (typed (shape_of_elem g) r)

    of_truth : (e : Expr) (t : Bool) → S e (typed (shape_of_elem elem.Bool) (truth t)) → Gives e (truth t)
    of_truth e t h is = subst (λ q. S e (typed (shape_of_elem q) (truth t))) (sym (truth_of g t is)) h

    unary_case : (o : Unary) (r : ValueTree) (x : Operand) (v : ValueTree) → M x v → by_one (unary_scalar o) v ≡ Some r → Gives (written.unary o (scalar g) x) r
    unary_case o r x (word a) m h = from_some _ r (Gives (written.unary o (scalar g) x)) (λ is. unary_says p none calls s g (numeric_of g _ is) o x a m.0 m.1) h
    unary_case o r x (truth t) m h = cc
    unary_case o r x (many vs) m h = absurd m

    binary_word_says : (o : Binary) (x y : Operand) (a b n : ℕ) → IsNumeric g → M x (word a) → M y (word b) → binary_word o a b ≡ Some n → S (written.binary o (scalar g) x y) (number g n)
    binary_word_says UMin x y a b n is mx my h = bound_says p none calls s g is UMin x y a b n tt mx.0 my.0 h
    binary_word_says SMin x y a b n is mx my h = bound_says p none calls s g is SMin x y a b n tt mx.0 my.0 h
    binary_word_says UMax x y a b n is mx my h = bound_says p none calls s g is UMax x y a b n tt mx.0 my.0 h
    binary_word_says SMax x y a b n is mx my h = bound_says p none calls s g is SMax x y a b n tt mx.0 my.0 h
    binary_word_says o x y a b n is mx my h = binary_says p calls s g is x y a b mx.0 my.0 mx.1 my.1 o n tt h

    binary_case : (o : Binary) (r : ValueTree) (x y : Operand) (v w : ValueTree) → M x v → M y w → by_two (binary_scalar o) v w ≡ Some r → Gives (written.binary o (scalar g) x y) r
    binary_case o r x y (word a) (word b) mx my h = from_word (binary_word o a b) r (Gives (written.binary o (scalar g) x y)) (λ n e is. binary_word_says o x y a b n (numeric_of g n is) mx my e) h
    binary_case o r x y (word a) (truth t) mx my h = cc
    binary_case o r x y (word a) (many vs) mx my h = absurd my
    binary_case o r x y (truth t) w mx my h = cc
    binary_case o r x y (many vs) w mx my h = absurd mx

    comparison_case : (o : Comparison) (r : ValueTree) (x y : Operand) (v w : ValueTree) → M x v → M y w → by_two (comparison_scalar o) v w ≡ Some r → Gives (written.comparison o x y) r
    comparison_case o r x y (word a) (word b) mx my h = from_some _ r (Gives (written.comparison o x y)) (of_truth (written.comparison o x y) _ (comparison_says p calls s x y a b mx.0 my.0 o)) h
    comparison_case o r x y (word a) (truth t) mx my h = cc
    comparison_case o r x y (word a) (many vs) mx my h = absurd my
    comparison_case o r x y (truth t) w mx my h = cc
    comparison_case o r x y (many vs) w mx my h = absurd mx

    logical_case : (o : Logical) (r : ValueTree) (x y : Operand) (v w : ValueTree) → M x v → M y w → by_two (logical_scalar o) v w ≡ Some r → Gives (written.logical o x y) r
    logical_case o r x y (truth t) (truth u) mx my h = from_some _ r (Gives (written.logical o x y)) (of_truth (written.logical o x y) _ (logical_says p calls s o x y t u mx.1 my.1)) h
    logical_case o r x y (truth t) (word a) mx my h = cc
    logical_case o r x y (truth t) (many vs) mx my h = absurd my
    logical_case o r x y (word a) w mx my h = cc
    logical_case o r x y (many vs) w mx my h = absurd mx

    not_case : (r : ValueTree) (x : Operand) (v : ValueTree) → M x v → by_one not_scalar v ≡ Some r → Gives (not x.expr) r
    not_case r x (truth t) m h = from_some _ r (Gives (not x.expr)) (of_truth (not x.expr) _ (not_says p calls s x t m.1)) h
    not_case r x (word a) m h = cc
    not_case r x (many vs) m h = absurd m

    clamp_case : (o : Clamp) (r : ValueTree) (x y z : Operand) (v w u : ValueTree) → M x v → M y w → M z u → by_three (clamp_scalar o) v w u ≡ Some r → Gives (written.clamp o (scalar g) x y z) r
    clamp_case o r x y z (word a) (word b) (word c) mx my mz h = from_some _ r (Gives (written.clamp o (scalar g) x y z)) (λ is. clamp_says p none calls s g (numeric_of g _ is) o x y z a b c mx.0 my.0 mz.0 mx.1 my.1) h
    clamp_case o r x y z (word a) (word b) (truth t) mx my mz h = cc
    clamp_case o r x y z (word a) (word b) (many vs) mx my mz h = absurd mz
    clamp_case o r x y z (word a) (truth t) u mx my mz h = cc
    clamp_case o r x y z (word a) (many vs) u mx my mz h = absurd my
    clamp_case o r x y z (truth t) w u mx my mz h = cc
    clamp_case o r x y z (many vs) w u mx my mz h = absurd mx

    signed_field_case : (r : ValueTree) (x y z : Operand) (v w u : ValueTree) → M x v → M y w → M z u → bit_field bit_field_signed v w u ≡ Some r → Gives (written.extracted elem.Int (scalar g) x y z) r
    signed_field_case r x y z (word a) (word b) (word c) mx my mz h = from_word (bit_field_signed b c a) r (Gives (written.extracted elem.Int (scalar g) x y z)) (λ n e is. signed_field_says p none calls s g (numeric_of g n is) x y z a b c n mx.0 my.0 mz.0 e) h
    signed_field_case r x y z (truth t) (word b) (word c) mx my mz h = cc
    signed_field_case r x y z (many vs) w u mx my mz h = absurd mx
    signed_field_case r x y z v (truth t) u mx my mz h = cc
    signed_field_case r x y z v (many vs) u mx my mz h = absurd my
    signed_field_case r x y z v (word b) (truth t) mx my mz h = cc
    signed_field_case r x y z v (word b) (many vs) mx my mz h = absurd mz

    unsigned_field_case : (r : ValueTree) (x y z : Operand) (v w u : ValueTree) → M x v → M y w → M z u → bit_field bit_field_unsigned v w u ≡ Some r → Gives (written.extracted elem.Uint (scalar g) x y z) r
    unsigned_field_case r x y z (word a) (word b) (word c) mx my mz h = from_word (bit_field_unsigned b c a) r (Gives (written.extracted elem.Uint (scalar g) x y z)) (λ n e is. unsigned_field_says p none calls s g (numeric_of g n is) x y z a b c n mx.0 my.0 mz.0 e) h
    unsigned_field_case r x y z (truth t) (word b) (word c) mx my mz h = cc
    unsigned_field_case r x y z (many vs) w u mx my mz h = absurd mx
    unsigned_field_case r x y z v (truth t) u mx my mz h = cc
    unsigned_field_case r x y z v (many vs) u mx my mz h = absurd my
    unsigned_field_case r x y z v (word b) (truth t) mx my mz h = cc
    unsigned_field_case r x y z v (word b) (many vs) mx my mz h = absurd mz

    insert_case : (r : ValueTree) (x y z c : Operand) (v w u t : ValueTree) → M x v → M y w → M z u → M c t → inserted_field v w u t ≡ Some r → Gives (written.inserted g x y z c) r
    insert_case r x y z c (word a) (word b) (word i) (word n) mx my mz mc h = from_word (bit_field_insert i n a b) r (Gives (written.inserted g x y z c)) (λ k e is. insert_says p none calls s g (numeric_of g k is) x y z c a b i n k mx.0 my.0 mz.0 mc.0 e) h
    insert_case r x y z c (word a) (truth t) (word i) (word n) mx my mz mc h = cc
    insert_case r x y z c (word a) (many vs) u t mx my mz mc h = absurd my
    insert_case r x y z c (truth q) w (word i) (word n) mx my mz mc h = cc
    insert_case r x y z c (many vs) w u t mx my mz mc h = absurd mx
    insert_case r x y z c v w (truth q) t mx my mz mc h = cc
    insert_case r x y z c v w (many vs) t mx my mz mc h = absurd mz
    insert_case r x y z c v w (word i) (truth q) mx my mz mc h = cc
    insert_case r x y z c v w (word i) (many vs) mx my mz mc h = absurd mc

    -- an operand of the type of the result says its scalar as it is
    itself_says : (x : Operand) (v : ValueTree) → x.ty ≡ scalar g → M x v → S x.expr (typed (shape_of_elem g) v)
    itself_says x (word a) is m = let h = m.0 in subst (λ e. S x.expr (typed (shape_of_elem e) (word a))) (ap (λ (ty : BasicType). ty.elem) (sym h.of_type ∙ is)) h.says
    itself_says x (truth t) is m = subst (λ e. S x.expr (typed (shape_of_elem e) (truth t))) (ap (λ (ty : BasicType). ty.elem) (sym m.0 ∙ is)) m.1
    itself_says x (many vs) is m = absurd m

    select_case : (r : ValueTree) (x y z : Operand) (v w u : ValueTree) → M x v → M y w → M z u → by_three chosen v w u ≡ Some r → (y.ty ≡ scalar g) × (z.ty ≡ scalar g) → Gives (choose x.expr y.expr z.expr) r
    select_case r x y z (truth t) w u mx my mz h is =
        from_some _ r (Gives (choose x.expr y.expr z.expr)) (λ fits. select_says p calls s x y z t (shape_of_elem g) w u mx.1 (itself_says y w is.0 my) (itself_says z u is.1 mz)) h
    select_case r x y z (word a) w u mx my mz h is = cc
    select_case r x y z (many vs) w u mx my mz h is = absurd mx

    copied_truth : (x : Operand) (t : Bool) → (x.ty ≡ scalar elem.Bool) × S x.expr (typed (shape_of_elem elem.Bool) (truth t)) → Gives (converted (scalar g) x.ty.elem x.expr) (truth t)
    copied_truth x t m is =
        subst (λ ty. S (converted (scalar g) ty.elem x.expr) (typed (shape_of_elem g) (truth t))) (sym m.0)
        (subst (λ e. S (converted (scalar e) elem.Bool x.expr) (typed (shape_of_elem e) (truth t))) (sym (truth_of g t is)) m.1)

    copy_case : (r : ValueTree) (x : Operand) (v : ValueTree) → M x v → Some v ≡ Some r → Gives (converted (scalar g) x.ty.elem x.expr) r
    copy_case r x (word a) m h = from_some (word a) r (Gives (converted (scalar g) x.ty.elem x.expr)) (λ is. copy_says p calls s g x a (numeric_of g a is) m.0) h
    copy_case r x (truth t) m h = from_some (truth t) r (Gives (converted (scalar g) x.ty.elem x.expr)) (copied_truth x t m) h
    copy_case r x (many vs) m h = absurd m

    -- an operation on scalars, applied to operands that stand for scalars, says the value of the operation, where it has one of the type of the result
    pub scalar_says : (o : Operation) (t : Tree) (literals : List ℕ) (xs : List Operand) (vs : List ValueTree) (r : ValueTree)
        → OnScalars o g xs → AllMean p calls s xs vs → value_of_operation o t literals vs ≡ Some r → IsScalarOf g r → S (written.applied o (scalar g) xs) (typed (shape_of_elem g) r)
    scalar_says (op.Unary o) t l xs vs r on m h = by_one_operand M (by_one (unary_scalar o)) xs vs r (λ xs. Gives (written.applied (op.Unary o) (scalar g) xs) r) (λ x v. unary_case o r x v) m h
    scalar_says (op.Binary o) t l xs vs r on m h = by_two_operands M (by_two (binary_scalar o)) xs vs r (λ xs. Gives (written.applied (op.Binary o) (scalar g) xs) r) (λ x y v w. binary_case o r x y v w) m h
    scalar_says (op.Comparison o) t l xs vs r on m h = by_two_operands M (by_two (comparison_scalar o)) xs vs r (λ xs. Gives (written.applied (op.Comparison o) (scalar g) xs) r) (λ x y v w. comparison_case o r x y v w) m h
    scalar_says (op.Logical o) t l xs vs r on m h = by_two_operands M (by_two (logical_scalar o)) xs vs r (λ xs. Gives (written.applied (op.Logical o) (scalar g) xs) r) (λ x y v w. logical_case o r x y v w) m h
    scalar_says op.LogicalNot t l xs vs r on m h = by_one_operand M (by_one not_scalar) xs vs r (λ xs. Gives (written.applied op.LogicalNot (scalar g) xs) r) (λ x v. not_case r x v) m h
    scalar_says (op.Clamp o) t l xs vs r on m h = by_three_operands M (by_three (clamp_scalar o)) xs vs r (λ xs. Gives (written.applied (op.Clamp o) (scalar g) xs) r) (λ x y z v w u. clamp_case o r x y z v w u) m h
    scalar_says op.BitFieldInsert t l xs vs r on m h = by_four_operands M inserted_field xs vs r (λ xs. Gives (written.applied op.BitFieldInsert (scalar g) xs) r) (λ x y z a v w u n. insert_case r x y z a v w u n) m h
    scalar_says op.BitFieldSExtract t l xs vs r on m h = by_three_operands M (bit_field bit_field_signed) xs vs r (λ xs. Gives (written.applied op.BitFieldSExtract (scalar g) xs) r) (λ x y z v w u. signed_field_case r x y z v w u) m h
    scalar_says op.BitFieldUExtract t l xs vs r on m h = by_three_operands M (bit_field bit_field_unsigned) xs vs r (λ xs. Gives (written.applied op.BitFieldUExtract (scalar g) xs) r) (λ x y z v w u. unsigned_field_case r x y z v w u) m h
    scalar_says op.Select t l xs vs r on m h = by_three_operands M (by_three chosen) xs vs r (λ xs. OnScalars op.Select g xs → Gives (written.applied op.Select (scalar g) xs) r) (λ x y z v w u mx my mz e is. select_case r x y z v w u mx my mz e is) m h on
    scalar_says op.Copy t l xs vs r on m h = by_one_operand M Some xs vs r (λ xs. Gives (written.applied op.Copy (scalar g) xs) r) (λ x v. copy_case r x v) m h
    scalar_says op.Any t l xs vs r on m h = absurd on
    scalar_says op.All t l xs vs r on m h = absurd on
    scalar_says op.Undef t l xs vs r on m h = absurd on
    scalar_says op.VectorExtractDynamic t l xs vs r on m h = absurd on
    scalar_says op.VectorInsertDynamic t l xs vs r on m h = absurd on
    scalar_says op.VectorShuffle t l xs vs r on m h = absurd on
    scalar_says op.CompositeConstruct t l xs vs r on m h = absurd on
    scalar_says op.CompositeExtract t l xs vs r on m h = absurd on
    scalar_says op.CompositeInsert t l xs vs r on m h = absurd on

    -- the same by opcode and, of OpExtInst, by the number in GLSL.std.450
    pub lowered_says : (code : Op) (ext : ℕ) (t : Tree) (xs : List Operand) (vs : List ValueTree) (r : ValueTree)
        → AreScalars (operation_of code (ext ∷ [])) g xs → AllMean p calls s xs vs → op_value code t (ext ∷ []) vs ≡ Some r → IsScalarOf g r → S (written.lowered code ext g xs) (typed (shape_of_elem g) r)
    lowered_says code ext t xs vs r on m h is = by_operation (operation_of code (ext ∷ [])) on h
      where
        by_operation : (q : Option Operation) → AreScalars q g xs → option_and_then (λ o. value_of_operation o t (ext ∷ []) vs) q ≡ Some r → S (written.written_if_any q (scalar g) xs) (typed (shape_of_elem g) r)
        by_operation (Some o) on h = scalar_says o t (ext ∷ []) xs vs r on m h is
        by_operation None on h = cc

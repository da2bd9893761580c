-- The expression of an operation on scalars is made of its operands' names, and of those of functions that GLSL has.
use Rattle.std.proofs.Common.{◌<◌, ◌^◌, ℕ, Bool, true, false, List, [], ◌∷◌, Option, Some, None, nat_lt, arith, if◌then◌else◌, ◌++◌}
use Rattle.spv_module.specs.declared.tree.Elem.{Elem}
use Rattle.spv_module.specs.declared.tree.Elem.TheVariants as elem
use Rattle.glsl_ast.specs.Tree as tree
use Rattle.glsl_ast.specs.Tree.{Expr, exprs_in}
use Rattle.glsl_ast.specs.declared.expressions.BinOp.{BinOp}
use Rattle.glsl_ast.specs.declared.expressions.BinOp.TheVariants.{Equal, NotEqual}
use Rattle.glsl_ast.specs.declared.expressions.Literal.{Literal}
use Rattle.glsl_ast.specs.declared.expressions.Literal.TheVariants as literal
use Rattle.glsl_grammar.specs.Spelled.{FitsWord, IsSpelledLiteral}
use Rattle.op_semantics.specs.declared.operation.Unary.{Unary}
use Rattle.op_semantics.specs.declared.operation.Unary.TheVariants.{SNegate, Not, BitReverse, BitCount, SAbs, SSign, FindILsb, FindSMsb, FindUMsb}
use Rattle.op_semantics.specs.declared.operation.Binary.{Binary}
use Rattle.op_semantics.specs.declared.operation.Binary.TheVariants.{IAdd, ISub, IMul, UDiv, SDiv, UMod, SRem, SMod, ShiftRightLogical, ShiftRightArithmetic, ShiftLeftLogical, BitwiseOr, BitwiseXor, BitwiseAnd, UMin, SMin, UMax, SMax}
use Rattle.op_semantics.specs.declared.operation.Comparison.{Comparison}
use Rattle.op_semantics.specs.declared.operation.Comparison.TheVariants.{IEqual, INotEqual, UGreaterThan, SGreaterThan, UGreaterThanEqual, SGreaterThanEqual, ULessThan, SLessThan, ULessThanEqual, SLessThanEqual}
use Rattle.op_semantics.specs.declared.operation.Logical.{Logical}
use Rattle.op_semantics.specs.declared.operation.Logical.TheVariants.{LogicalEqual, LogicalNotEqual, LogicalOr, LogicalAnd}
use Rattle.op_semantics.specs.declared.operation.Clamp.{Clamp}
use Rattle.op_semantics.specs.declared.operation.Clamp.TheVariants.{UClamp, SClamp}
use Rattle.op_semantics.specs.declared.operation.Operation.{Operation}
use Rattle.op_semantics.specs.declared.operation.Operation.TheVariants as op
use Rattle.int_lowering.specs.declared.basic.BasicType.{BasicType}
use Rattle.int_lowering.specs.declared.built_ins.BuiltIn.{BuiltIn}
use Rattle.int_lowering.specs.declared.built_ins.BuiltIn.TheVariants as built_in
use Rattle.int_lowering.specs.declared.operators.Operator.{Operator}
use Rattle.int_lowering.specs.Operand.{Operand, base_named, literal_of, same_elem, constructed, converted, as_elem, as_uint, with_elem, missing, scalar, first, rest, second, third, fourth}
use Rattle.int_lowering.specs.Term.{built_in_name, call_built_in, unsigned_literal}
use Rattle.int_lowering.specs.Division.{is_negative, negated, negated_where, magnitude, quotient, remainder, signs, signed_quotient, signed_remainder, of_like_signs, of_unlike_signs, signed_modulo}
use Rattle.int_lowering.specs.Operator.{arithmetic_operator, comparison_operator, modulo_32, shift_amount, second_operand, over, operated}
use Rattle.int_lowering.specs.Lowered.{both_as, function_of_both, function_of, unary, zero, called, binary_by, binary, compared_as_they_are, compared, comparison_by, comparison, logical, clamped, clamp, extracted, inserted, written, applied}
use Rattle.claim_law.specs.Uses.{Words, UsesType, UsesExpr, UseExprs, UseEach}
use Rattle.claim_law.specs.Named.{FitsSize, FitsIfSome, IsUsed, AreUsed}

module _ (W : Words) where
  pub if-uses : (b : Bool) (x y : Expr) → UsesExpr W x → UsesExpr W y → UsesExpr W (if b then x else y)
  if-uses true x y p q = p
  if-uses false x y p q = q

  pub each-uses : (es : List Expr) → UseEach W es → UseExprs W (exprs_in es)
  each-uses [] has = tt
  each-uses (e ∷ es) has = (has.0, each-uses es has.1)

  pub both-use : (xs ys : List Expr) → UseEach W xs → UseEach W ys → UseEach W (xs ++ ys)
  both-use [] ys p q = q
  both-use (x ∷ xs) ys p q = (p.0, both-use xs ys p.1 q)

  if-literal : (b : Bool) (x y : Literal) → IsSpelledLiteral x → IsSpelledLiteral y → IsSpelledLiteral (if b then x else y)
  if-literal true x y p q = p
  if-literal false x y p q = q

  pub literal-uses : (e : Elem) (w : ℕ) → w < 2 ^ 32 → UsesExpr W (tree.literal (literal_of e w))
  literal-uses elem.Bool w fits = tt
  literal-uses elem.Int w fits = if-literal (nat_lt w 2147483648) (literal.Int w) (literal.Hex w) fits fits
  literal-uses elem.Uint w fits = fits

  pub named-uses : (e : Elem) (size : Option ℕ) → FitsSize size → UsesType W (tree.type_name (base_named e size) [])
  named-uses elem.Bool None fits = (tt, tt)
  named-uses elem.Int None fits = (tt, tt)
  named-uses elem.Uint None fits = (tt, tt)
  named-uses elem.Bool (Some n) fits = (fits, tt)
  named-uses elem.Int (Some n) fits = (fits, tt)
  named-uses elem.Uint (Some n) fits = (fits, tt)

  pub converted-uses : (ty : BasicType) (from : Elem) (e : Expr) → FitsSize ty.size → UsesExpr W e → UsesExpr W (converted ty from e)
  converted-uses ty from e fits has = if-uses (same_elem ty.elem from) e (constructed ty e) has (named-uses ty.elem ty.size fits, (has, tt))

  part-uses : (e : Elem) (word : Option ℕ) (ty : BasicType) (of : Expr) → UsesExpr W of → FitsSize ty.size → FitsIfSome word → UsesExpr W (as_elem e (record { expr = of; ty = ty; word = word }))
  part-uses e (Some w) ty of has fits word = literal-uses e w word
  part-uses e None ty of has fits word = converted-uses (with_elem e ty) ty.elem of fits has

  pub as_elem-uses : (e : Elem) (x : Operand) → IsUsed W x → UsesExpr W (as_elem e x)
  as_elem-uses e x used = part-uses e x.word x.ty x.expr used.expr used.size used.word

  module _ (built : (f : BuiltIn) → W.called (built_in_name f)) where
    word-uses : (n : ℕ) → n < 2 ^ 32 → UsesExpr W (unsigned_literal n)
    word-uses n fits = fits

    both-uses : (e : Elem) (o : BinOp) (a b : Operand) → IsUsed W a → IsUsed W b → UsesExpr W (both_as e o a b)
    both-uses e o a b p q = (as_elem-uses e a p, as_elem-uses e b q)

    function-uses : (e : Elem) (f : BuiltIn) (a : Operand) → IsUsed W a → UsesExpr W (function_of e f a)
    function-uses e f a p = (built f, (as_elem-uses e a p, tt))

    functions-uses : (e : Elem) (f : BuiltIn) (a b : Operand) → IsUsed W a → IsUsed W b → UsesExpr W (function_of_both e f a b)
    functions-uses e f a b p q = (built f, (as_elem-uses e a p, (as_elem-uses e b q, tt)))

    masked-uses : (s : Operand) → IsUsed W s → UsesExpr W (modulo_32 s)
    masked-uses s p = (as_elem-uses elem.Uint s p, word-uses 31 (omega arith))

    amount-part : (word : Option ℕ) (ty : BasicType) (of : Expr) → IsUsed W (record { expr = of; ty = ty; word = word }) → UsesExpr W (shift_amount (record { expr = of; ty = ty; word = word }))
    amount-part (Some w) ty of p = if-uses (nat_lt w 32) (unsigned_literal w) (modulo_32 (record { expr = of; ty = ty; word = Some w })) p.word (masked-uses (record { expr = of; ty = ty; word = Some w }) p)
    amount-part None ty of p = masked-uses (record { expr = of; ty = ty; word = None }) p

    amount-uses : (s : Operand) → IsUsed W s → UsesExpr W (shift_amount s)
    amount-uses s p = amount-part s.word s.ty s.expr p

    -- division
    negative-uses : (x : Operand) → IsUsed W x → UsesExpr W (is_negative x)
    negative-uses x p = (as_elem-uses elem.Int x p, (let zero : FitsWord 0 = omega arith in zero))

    negated-uses : (e : Expr) → UsesExpr W e → UsesExpr W (negated e)
    negated-uses e p = (word-uses 0 (omega arith), p)

    where-uses : (c e : Expr) → UsesExpr W c → UsesExpr W e → UsesExpr W (negated_where c e)
    where-uses c e p q = (p, negated-uses e q, q)

    magnitude-uses : (x : Operand) → IsUsed W x → UsesExpr W (magnitude x)
    magnitude-uses x p = where-uses (is_negative x) (as_uint x) (negative-uses x p) (as_elem-uses elem.Uint x p)

    quotient-uses : (a b : Operand) → IsUsed W a → IsUsed W b → UsesExpr W (quotient a b)
    quotient-uses a b p q = (magnitude-uses a p, magnitude-uses b q)

    remainder-uses : (a b : Operand) → IsUsed W a → IsUsed W b → UsesExpr W (remainder a b)
    remainder-uses a b p q = (magnitude-uses a p, magnitude-uses b q)

    signs-uses : (o : BinOp) (a b : Operand) → IsUsed W a → IsUsed W b → UsesExpr W (signs o a b)
    signs-uses o a b p q = (negative-uses a p, negative-uses b q)

    signed-quotient-uses : (a b : Operand) → IsUsed W a → IsUsed W b → UsesExpr W (signed_quotient a b)
    signed-quotient-uses a b p q = where-uses (signs NotEqual a b) (quotient a b) (signs-uses NotEqual a b p q) (quotient-uses a b p q)

    signed-remainder-uses : (a b : Operand) → IsUsed W a → IsUsed W b → UsesExpr W (signed_remainder a b)
    signed-remainder-uses a b p q = where-uses (is_negative a) (remainder a b) (negative-uses a p) (remainder-uses a b p q)

    like-uses : (a b : Operand) → IsUsed W a → IsUsed W b → UsesExpr W (of_like_signs a b)
    like-uses a b p q = where-uses (is_negative b) (remainder a b) (negative-uses b q) (remainder-uses a b p q)

    unlike-uses : (a b : Operand) → IsUsed W a → IsUsed W b → UsesExpr W (of_unlike_signs a b)
    unlike-uses a b p q = (negative-uses b q, (remainder-uses a b p q, magnitude-uses b q), (magnitude-uses b q, remainder-uses a b p q))

    modulo-uses : (a b : Operand) → IsUsed W a → IsUsed W b → UsesExpr W (signed_modulo a b)
    modulo-uses a b p q = ((remainder-uses a b p q, word-uses 0 (omega arith)), word-uses 0 (omega arith), (signs-uses Equal a b p q, like-uses a b p q, unlike-uses a b p q))

    -- operators
    second-uses : (o : Operator) (b : Operand) → IsUsed W b → UsesExpr W (second_operand o b)
    second-uses o b p = if-uses o.shifts (shift_amount b) (as_elem o.elem b) (amount-uses b p) (as_elem-uses o.elem b p)

    over-uses : (o : Operator) (ty : BasicType) (x y : Expr) → FitsSize ty.size → UsesExpr W x → UsesExpr W y → UsesExpr W (over o ty x y)
    over-uses o ty x y fits p q = if-uses o.converts (converted ty o.elem (tree.binary o.op x y)) (tree.binary o.op x y) (converted-uses ty o.elem (tree.binary o.op x y) fits (p, q)) (p, q)

    operated-uses : (o : Operator) (ty : BasicType) (a b : Operand) → FitsSize ty.size → IsUsed W a → IsUsed W b → UsesExpr W (operated o ty a b)
    operated-uses o ty a b fits p q = over-uses o ty (as_elem o.elem a) (second_operand o b) fits (as_elem-uses o.elem a p) (second-uses o b q)

    unary-uses : (o : Unary) (ty : BasicType) (a : Operand) → FitsSize ty.size → IsUsed W a → UsesExpr W (unary o ty a)
    unary-uses SNegate ty a fits p = (literal-uses ty.elem 0 (omega arith), as_elem-uses ty.elem a p)
    unary-uses Not ty a fits p = as_elem-uses ty.elem a p
    unary-uses BitReverse ty a fits p = function-uses ty.elem built_in.BitfieldReverse a p
    unary-uses BitCount ty a fits p = converted-uses ty elem.Int (call_built_in built_in.BitCount (a.expr ∷ [])) fits (built built_in.BitCount, (p.expr, tt))
    unary-uses SAbs ty a fits p = converted-uses ty elem.Uint (magnitude a) fits (magnitude-uses a p)
    unary-uses SSign ty a fits p = converted-uses ty elem.Int (function_of elem.Int built_in.Sign a) fits (function-uses elem.Int built_in.Sign a p)
    unary-uses FindILsb ty a fits p = converted-uses ty elem.Int (function_of elem.Uint built_in.FindLsb a) fits (function-uses elem.Uint built_in.FindLsb a p)
    unary-uses FindSMsb ty a fits p = converted-uses ty elem.Int (function_of elem.Int built_in.FindMsb a) fits (function-uses elem.Int built_in.FindMsb a p)
    unary-uses FindUMsb ty a fits p = converted-uses ty elem.Int (function_of elem.Uint built_in.FindMsb a) fits (function-uses elem.Uint built_in.FindMsb a p)

    pub zero-uses : (ty : BasicType) → UsesExpr W (zero ty)
    zero-uses ty = literal-uses ty.elem 0 (omega arith)

    called-uses : (o : Binary) (ty : BasicType) (a b : Operand) → FitsSize ty.size → IsUsed W a → IsUsed W b → UsesExpr W (called o ty a b)
    called-uses SDiv ty a b fits p q = converted-uses ty elem.Uint (signed_quotient a b) fits (signed-quotient-uses a b p q)
    called-uses SRem ty a b fits p q = converted-uses ty elem.Uint (signed_remainder a b) fits (signed-remainder-uses a b p q)
    called-uses SMod ty a b fits p q = converted-uses ty elem.Uint (signed_modulo a b) fits (modulo-uses a b p q)
    called-uses UMin ty a b fits p q = converted-uses ty elem.Uint (function_of_both elem.Uint built_in.Min a b) fits (functions-uses elem.Uint built_in.Min a b p q)
    called-uses SMin ty a b fits p q = converted-uses ty elem.Int (function_of_both elem.Int built_in.Min a b) fits (functions-uses elem.Int built_in.Min a b p q)
    called-uses UMax ty a b fits p q = converted-uses ty elem.Uint (function_of_both elem.Uint built_in.Max a b) fits (functions-uses elem.Uint built_in.Max a b p q)
    called-uses SMax ty a b fits p q = converted-uses ty elem.Int (function_of_both elem.Int built_in.Max a b) fits (functions-uses elem.Int built_in.Max a b p q)
    called-uses IAdd ty a b fits p q = zero-uses ty
    called-uses ISub ty a b fits p q = zero-uses ty
    called-uses IMul ty a b fits p q = zero-uses ty
    called-uses UDiv ty a b fits p q = zero-uses ty
    called-uses UMod ty a b fits p q = zero-uses ty
    called-uses ShiftRightLogical ty a b fits p q = zero-uses ty
    called-uses ShiftRightArithmetic ty a b fits p q = zero-uses ty
    called-uses ShiftLeftLogical ty a b fits p q = zero-uses ty
    called-uses BitwiseOr ty a b fits p q = zero-uses ty
    called-uses BitwiseXor ty a b fits p q = zero-uses ty
    called-uses BitwiseAnd ty a b fits p q = zero-uses ty

    binary-uses : (o : Binary) (ty : BasicType) (a b : Operand) → FitsSize ty.size → IsUsed W a → IsUsed W b → UsesExpr W (binary o ty a b)
    binary-uses o ty a b fits p q = by_operator (arithmetic_operator o ty.elem)
      where
        by_operator : (x : Option Operator) → UsesExpr W (binary_by x o ty a b)
        by_operator None = called-uses o ty a b fits p q
        by_operator (Some x) = operated-uses x ty a b fits p q

    same-uses : (o : BinOp) (a b : Operand) → IsUsed W a → IsUsed W b → UsesExpr W (compared_as_they_are o a b)
    same-uses o a b p q = if-uses (same_elem a.ty.elem b.ty.elem) (tree.binary o a.expr b.expr) (both_as elem.Uint o a b) (p.expr, q.expr) (both-uses elem.Uint o a b p q)

    compared-uses : (o : Comparison) (a b : Operand) → IsUsed W a → IsUsed W b → UsesExpr W (compared o a b)
    compared-uses IEqual a b p q = same-uses Equal a b p q
    compared-uses INotEqual a b p q = same-uses NotEqual a b p q
    compared-uses UGreaterThan a b p q = same-uses Equal a b p q
    compared-uses SGreaterThan a b p q = same-uses Equal a b p q
    compared-uses UGreaterThanEqual a b p q = same-uses Equal a b p q
    compared-uses SGreaterThanEqual a b p q = same-uses Equal a b p q
    compared-uses ULessThan a b p q = same-uses Equal a b p q
    compared-uses SLessThan a b p q = same-uses Equal a b p q
    compared-uses ULessThanEqual a b p q = same-uses Equal a b p q
    compared-uses SLessThanEqual a b p q = same-uses Equal a b p q

    comparison-uses : (o : Comparison) (a b : Operand) → IsUsed W a → IsUsed W b → UsesExpr W (comparison o a b)
    comparison-uses o a b p q = by_operator (comparison_operator o)
      where
        by_operator : (x : Option Operator) → UsesExpr W (comparison_by x o a b)
        by_operator None = compared-uses o a b p q
        by_operator (Some x) = operated-uses x (scalar elem.Bool) a b tt p q

    logical-uses : (o : Logical) (a b : Operand) → IsUsed W a → IsUsed W b → UsesExpr W (logical o a b)
    logical-uses LogicalEqual a b p q = (p.expr, q.expr)
    logical-uses LogicalNotEqual a b p q = (p.expr, q.expr)
    logical-uses LogicalOr a b p q = (p.expr, q.expr)
    logical-uses LogicalAnd a b p q = (p.expr, q.expr)

    clamped-uses : (e : Elem) (x low high : Operand) → IsUsed W x → IsUsed W low → IsUsed W high → UsesExpr W (clamped e x low high)
    clamped-uses e x low high p q r = (built built_in.Min, (functions-uses e built_in.Max x low p q, (as_elem-uses e high r, tt)))

    clamp-uses : (o : Clamp) (ty : BasicType) (x low high : Operand) → FitsSize ty.size → IsUsed W x → IsUsed W low → IsUsed W high → UsesExpr W (clamp o ty x low high)
    clamp-uses UClamp ty x low high fits p q r = converted-uses ty elem.Uint (clamped elem.Uint x low high) fits (clamped-uses elem.Uint x low high p q r)
    clamp-uses SClamp ty x low high fits p q r = converted-uses ty elem.Int (clamped elem.Int x low high) fits (clamped-uses elem.Int x low high p q r)

    extracted-uses : (e : Elem) (ty : BasicType) (x offset count : Operand) → FitsSize ty.size → IsUsed W x → IsUsed W offset → IsUsed W count → UsesExpr W (extracted e ty x offset count)
    extracted-uses e ty x offset count fits p q r = converted-uses ty e _ fits (built built_in.BitfieldExtract, (as_elem-uses e x p, (as_elem-uses elem.Int offset q, (as_elem-uses elem.Int count r, tt))))

    inserted-uses : (e : Elem) (a b c d : Operand) → IsUsed W a → IsUsed W b → IsUsed W c → IsUsed W d → UsesExpr W (inserted e a b c d)
    inserted-uses e a b c d p q r s = (built built_in.BitfieldInsert, (as_elem-uses e a p, (as_elem-uses e b q, (as_elem-uses elem.Int c r, (as_elem-uses elem.Int d s, tt)))))

    written-uses : (o : Operation) (ty : BasicType) (a b c d : Operand) → FitsSize ty.size → IsUsed W a → IsUsed W b → IsUsed W c → IsUsed W d → UsesExpr W (written o ty a b c d)
    written-uses (op.Unary o) ty a b c d fits p q r s = unary-uses o ty a fits p
    written-uses (op.Binary o) ty a b c d fits p q r s = binary-uses o ty a b fits p q
    written-uses (op.Comparison o) ty a b c d fits p q r s = comparison-uses o a b p q
    written-uses (op.Logical o) ty a b c d fits p q r s = logical-uses o a b p q
    written-uses op.LogicalNot ty a b c d fits p q r s = p.expr
    written-uses (op.Clamp o) ty a b c d fits p q r s = clamp-uses o ty a b c fits p q r
    written-uses op.BitFieldInsert ty a b c d fits p q r s = inserted-uses ty.elem a b c d p q r s
    written-uses op.BitFieldSExtract ty a b c d fits p q r s = extracted-uses elem.Int ty a b c fits p q r
    written-uses op.BitFieldUExtract ty a b c d fits p q r s = extracted-uses elem.Uint ty a b c fits p q r
    written-uses op.Any ty a b c d fits p q r s = (built built_in.Any, (p.expr, tt))
    written-uses op.All ty a b c d fits p q r s = (built built_in.All, (p.expr, tt))
    written-uses op.Select ty a b c d fits p q r s = (p.expr, q.expr, r.expr)
    written-uses op.Copy ty a b c d fits p q r s = converted-uses ty a.ty.elem a.expr fits p.expr
    written-uses op.Undef ty a b c d fits p q r s = zero-uses ty
    written-uses op.VectorExtractDynamic ty a b c d fits p q r s = zero-uses ty
    written-uses op.VectorInsertDynamic ty a b c d fits p q r s = zero-uses ty
    written-uses op.VectorShuffle ty a b c d fits p q r s = zero-uses ty
    written-uses op.CompositeConstruct ty a b c d fits p q r s = zero-uses ty
    written-uses op.CompositeExtract ty a b c d fits p q r s = zero-uses ty
    written-uses op.CompositeInsert ty a b c d fits p q r s = zero-uses ty

    -- operands that may be missing
    missing-used : IsUsed W missing
    missing-used = record { expr = (let zero : FitsWord 0 = omega arith in zero); size = tt; word = tt }

    pub first-used : (xs : List Operand) → AreUsed W xs → IsUsed W (first xs)
    first-used [] used = missing-used
    first-used (x ∷ xs) used = used.0

    rest-used : (xs : List Operand) → AreUsed W xs → AreUsed W (rest xs)
    rest-used [] used = tt
    rest-used (x ∷ xs) used = used.1

    pub applied-uses : (o : Operation) (ty : BasicType) (xs : List Operand) → FitsSize ty.size → AreUsed W xs → UsesExpr W (applied o ty xs)
    applied-uses o ty xs fits used =
        let after = rest-used xs used in
        let later = rest-used (rest xs) after in
        let last = rest-used (rest (rest xs)) later in
        written-uses o ty (first xs) (second xs) (third xs) (fourth xs) fits (first-used xs used) (first-used (rest xs) after) (first-used (rest (rest xs)) later) (first-used (rest (rest (rest xs))) last)

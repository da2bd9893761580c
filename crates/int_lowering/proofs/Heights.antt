-- The expression of an operation is at most 40 higher than the highest of its operands.
use Rattle.std.proofs.Common.{◌≡◌, ℕ, ◌+◌, ◌≤◌, Bool, true, false, List, [], ◌∷◌, Option, Some, None, Result, Ok, Err, IfOk, arith, sym, subst, if◌then◌else◌}
use Rattle.list_law.proofs.Numbers.{le_on}
use Rattle.spv_ops.specs.declared.Op.{Op}
use Rattle.spv_module.specs.declared.tree.Elem.{Elem}
use Rattle.spv_module.specs.declared.tree.Elem.TheVariants as elem
use Rattle.glsl_ast.specs.Tree as tree
use Rattle.glsl_ast.specs.Tree.{Expr}
use Rattle.glsl_ast.specs.View.{expr_of}
use Rattle.glsl_ast.specs.declared.expressions.Expr.{Expr as Code}
use Rattle.out_of_memory.specs.declared.Memory.{Memory}
use Rattle.glsl_ast.specs.Height.{height, base_height}
use Rattle.glsl_ast.specs.declared.expressions.BinOp.{BinOp}
use Rattle.glsl_ast.specs.declared.expressions.BinOp.TheVariants.{Add, Sub, Mul, Div, Rem, Shl, Shr, And, Or, Xor, Less, LessEqual, Greater, GreaterEqual, Equal, NotEqual}
use Rattle.op_semantics.specs.Value.{operation_of}
use Rattle.op_semantics.specs.declared.operation.Unary.{Unary}
use Rattle.op_semantics.specs.declared.operation.Unary.TheVariants.{SNegate, Not, BitReverse, BitCount, SAbs, SSign, FindILsb, FindSMsb, FindUMsb}
use Rattle.op_semantics.specs.declared.operation.Binary.{Binary}
use Rattle.op_semantics.specs.declared.operation.Binary.TheVariants.{IAdd, ISub, IMul, UDiv, SDiv, UMod, SRem, SMod, ShiftRightLogical, ShiftRightArithmetic, ShiftLeftLogical, BitwiseOr, BitwiseXor, BitwiseAnd, UMin, SMin, UMax, SMax}
use Rattle.op_semantics.specs.declared.operation.Comparison.{Comparison}
use Rattle.op_semantics.specs.declared.operation.Comparison.TheVariants.{IEqual, INotEqual, UGreaterThan, SGreaterThan, UGreaterThanEqual, SGreaterThanEqual, ULessThan, SLessThan, ULessThanEqual, SLessThanEqual}
use Rattle.op_semantics.specs.declared.operation.Logical.{Logical}
use Rattle.op_semantics.specs.declared.operation.Logical.TheVariants.{LogicalEqual, LogicalNotEqual, LogicalOr, LogicalAnd}
use Rattle.op_semantics.specs.declared.operation.Clamp.{Clamp}
use Rattle.op_semantics.specs.declared.operation.Clamp.TheVariants.{UClamp, SClamp}
use Rattle.op_semantics.specs.declared.operation.Operation.{Operation}
use Rattle.op_semantics.specs.declared.operation.Operation.TheVariants as op
use Rattle.int_lowering.specs.declared.basic.BasicType.{BasicType}
use Rattle.int_lowering.specs.declared.built_ins.BuiltIn.{BuiltIn}
use Rattle.int_lowering.specs.declared.built_ins.BuiltIn.TheVariants as built_in
use Rattle.int_lowering.specs.Operand.{Operand, base_named, type_named, same_elem, converted, as_elem, as_int, with_elem, first, rest, second, third, fourth, highest_operand}
use Rattle.int_lowering.specs.Term.{call_built_in, unsigned_literal}
use Rattle.int_lowering.specs.Division.{is_negative, magnitude, quotient, remainder, signed_quotient, signed_remainder, signed_modulo, signs, of_like_signs, of_unlike_signs}
use Rattle.int_lowering.specs.Operator.{modulo_32, shift_amount}
use Rattle.int_lowering.specs.Lowered.{both_as, function_of_both, function_of, unary, binary, comparison, compared_as_they_are, logical, clamped, clamp, extracted, inserted, written, applied, written_if_any, lowered_basic}

choice-le : (b : Bool) (x y : Expr) (n : ℕ) → height x ≤ n → height y ≤ n → height (if b then x else y) ≤ n
choice-le true x y n p q = p
choice-le false x y n p q = q

pub base-flat : (e : Elem) (size : Option ℕ) → base_height (base_named e size) ≤ 0
base-flat elem.Bool None = omega arith
base-flat elem.Int None = omega arith
base-flat elem.Uint None = omega arith
base-flat elem.Bool (Some n) = omega arith
base-flat elem.Int (Some n) = omega arith
base-flat elem.Uint (Some n) = omega arith

built-le : (ty : BasicType) (e : Expr) (n : ℕ) → height e ≤ n → height (tree.build (type_named ty) (tree.expr e tree.no_exprs)) ≤ n + 2
built-le ty e n h = omega (arith, base-flat ty.elem ty.size)

pub converted-le : (ty : BasicType) (from : Elem) (e : Expr) (n : ℕ) → height e ≤ n → height (converted ty from e) ≤ n + 2
converted-le ty from e n h = choice-le (same_elem ty.elem from) e (tree.build (type_named ty) (tree.expr e tree.no_exprs)) (n + 2) (omega arith) (built-le ty e n h)

fitting-le : (ty : BasicType) (from : Elem) (e : Expr) (n : ℕ) → height e ≤ n + 9 → height (converted ty from e) ≤ n + 11
fitting-le ty from e n h = le_on _ _ _ (converted-le ty from e (n + 9) h) (omega arith)

part-le : (e : Elem) (word : Option ℕ) (ty : BasicType) (of : Expr) (n : ℕ) → height of ≤ n → height (as_elem e (record { expr = of; ty = ty; word = word })) ≤ n + 2
part-le e (Some w) ty of n h = omega arith
part-le e None ty of n h = converted-le (with_elem e ty) ty.elem of n h

pub as_elem-le : (e : Elem) (x : Operand) (n : ℕ) → height x.expr ≤ n → height (as_elem e x) ≤ n + 2
as_elem-le e x n h = part-le e x.word x.ty x.expr n h

both-le : (e : Elem) (o : BinOp) (a b : Operand) (n : ℕ) → height a.expr ≤ n → height b.expr ≤ n → height (both_as e o a b) ≤ n + 3
both-le e o a b n p q = omega (arith, as_elem-le e a n p, as_elem-le e b n q)

function-le : (e : Elem) (f : BuiltIn) (a : Operand) (n : ℕ) → height a.expr ≤ n → height (function_of e f a) ≤ n + 3
function-le e f a n p = omega (arith, as_elem-le e a n p)

functions-le : (e : Elem) (f : BuiltIn) (a b : Operand) (n : ℕ) → height a.expr ≤ n → height b.expr ≤ n → height (function_of_both e f a b) ≤ n + 3
functions-le e f a b n p q = omega (arith, as_elem-le e a n p, as_elem-le e b n q)

masked-le : (s : Operand) (n : ℕ) → height s.expr ≤ n → height (modulo_32 s) ≤ n + 3
masked-le s n h = omega (arith, as_elem-le elem.Uint s n h)

amount-le : (word : Option ℕ) (ty : BasicType) (of : Expr) (n : ℕ) → height of ≤ n → height (shift_amount (record { expr = of; ty = ty; word = word })) ≤ n + 3
amount-le (Some w) ty of n h = choice-le _ (unsigned_literal w) (modulo_32 (record { expr = of; ty = ty; word = Some w })) (n + 3) (omega arith) (masked-le (record { expr = of; ty = ty; word = Some w }) n h)
amount-le None ty of n h = masked-le (record { expr = of; ty = ty; word = None }) n h

-- a shift of an operand as components of a type
abbrev shifted : Elem → BinOp → Operand → Operand → Expr
shifted e o a s = tree.binary o (as_elem e a) (shift_amount s)

shifted-le : (e : Elem) (o : BinOp) (a s : Operand) (n : ℕ) → height a.expr ≤ n → height s.expr ≤ n → height (shifted e o a s) ≤ n + 4
shifted-le e o a s n p q = omega (arith, as_elem-le e a n p, amount-le s.word s.ty s.expr n q)

negative-le : (x : Operand) (n : ℕ) → height x.expr ≤ n → height (is_negative x) ≤ n + 3
negative-le x n h = omega (arith, as_elem-le elem.Int x n h)

magnitude-le : (x : Operand) (n : ℕ) → height x.expr ≤ n → height (magnitude x) ≤ n + 4
magnitude-le x n h = omega (arith, negative-le x n h, as_elem-le elem.Uint x n h)

quotient-le : (a b : Operand) (n : ℕ) → height a.expr ≤ n → height b.expr ≤ n → height (quotient a b) ≤ n + 5
quotient-le a b n p q = omega (arith, magnitude-le a n p, magnitude-le b n q)

remainder-le : (a b : Operand) (n : ℕ) → height a.expr ≤ n → height b.expr ≤ n → height (remainder a b) ≤ n + 5
remainder-le a b n p q = omega (arith, magnitude-le a n p, magnitude-le b n q)

signed_quotient-le : (a b : Operand) (n : ℕ) → height a.expr ≤ n → height b.expr ≤ n → height (signed_quotient a b) ≤ n + 7
signed_quotient-le a b n p q = omega (arith, negative-le a n p, negative-le b n q, quotient-le a b n p q)

signed_remainder-le : (a b : Operand) (n : ℕ) → height a.expr ≤ n → height b.expr ≤ n → height (signed_remainder a b) ≤ n + 7
signed_remainder-le a b n p q = omega (arith, negative-le a n p, remainder-le a b n p q)

like-le : (a b : Operand) (n : ℕ) → height a.expr ≤ n → height b.expr ≤ n → height (of_like_signs a b) ≤ n + 7
like-le a b n p q = omega (arith, negative-le b n q, remainder-le a b n p q)

unlike-le : (a b : Operand) (n : ℕ) → height a.expr ≤ n → height b.expr ≤ n → height (of_unlike_signs a b) ≤ n + 7
unlike-le a b n p q = omega (arith, negative-le b n q, remainder-le a b n p q, magnitude-le b n q)

chosen-le : (c a b : Expr) (n : ℕ) → height c ≤ n → height a ≤ n → height b ≤ n → height (tree.choose c a b) ≤ n + 1
chosen-le c a b n p q r = omega arith

equal_signs-le : (a b : Operand) (n : ℕ) → height a.expr ≤ n → height b.expr ≤ n → height (signs Equal a b) ≤ n + 4
equal_signs-le a b n p q = omega (arith, negative-le a n p, negative-le b n q)

is_zero-le : (a b : Operand) (n : ℕ) → height a.expr ≤ n → height b.expr ≤ n → height (tree.binary Equal (remainder a b) (unsigned_literal 0)) ≤ n + 6
is_zero-le a b n p q = omega (arith, remainder-le a b n p q)

by_signs-le : (a b : Operand) (n : ℕ) → height a.expr ≤ n → height b.expr ≤ n → height (tree.choose (signs Equal a b) (of_like_signs a b) (of_unlike_signs a b)) ≤ n + 8
by_signs-le a b n p q =
    let whole = chosen-le (signs Equal a b) (of_like_signs a b) (of_unlike_signs a b) (n + 7) (le_on _ _ _ (equal_signs-le a b n p q) (omega arith)) (like-le a b n p q) (unlike-le a b n p q) in
    le_on _ _ _ whole (omega arith)

signed_modulo-le : (a b : Operand) (n : ℕ) → height a.expr ≤ n → height b.expr ≤ n → height (signed_modulo a b) ≤ n + 9
signed_modulo-le a b n p q =
    let whole = chosen-le (tree.binary Equal (remainder a b) (unsigned_literal 0)) (unsigned_literal 0) (tree.choose (signs Equal a b) (of_like_signs a b) (of_unlike_signs a b)) (n + 8) (le_on _ _ _ (is_zero-le a b n p q) (omega arith)) (omega arith) (by_signs-le a b n p q) in
    le_on _ _ _ whole (omega arith)

unary-le : (o : Unary) (ty : BasicType) (a : Operand) (n : ℕ) → height a.expr ≤ n → height (unary o ty a) ≤ n + 11
unary-le SNegate ty a n h = omega (arith, as_elem-le ty.elem a n h)
unary-le Not ty a n h = omega (arith, as_elem-le ty.elem a n h)
unary-le BitReverse ty a n h = omega (arith, function-le ty.elem built_in.BitfieldReverse a n h)
unary-le BitCount ty a n h = omega (arith, converted-le ty elem.Int (call_built_in built_in.BitCount (a.expr ∷ [])) (n + 2) (omega arith))
unary-le SAbs ty a n h = omega (arith, converted-le ty elem.Uint (magnitude a) (n + 4) (magnitude-le a n h))
unary-le SSign ty a n h = omega (arith, converted-le ty elem.Int (function_of elem.Int built_in.Sign a) (n + 3) (function-le elem.Int built_in.Sign a n h))
unary-le FindILsb ty a n h = omega (arith, converted-le ty elem.Int (function_of elem.Uint built_in.FindLsb a) (n + 3) (function-le elem.Uint built_in.FindLsb a n h))
unary-le FindSMsb ty a n h = omega (arith, converted-le ty elem.Int (function_of elem.Int built_in.FindMsb a) (n + 3) (function-le elem.Int built_in.FindMsb a n h))
unary-le FindUMsb ty a n h = omega (arith, converted-le ty elem.Int (function_of elem.Uint built_in.FindMsb a) (n + 3) (function-le elem.Uint built_in.FindMsb a n h))

operator-le : (ty : BasicType) (e : Elem) (o : BinOp) (a b : Operand) (n : ℕ) → height a.expr ≤ n → height b.expr ≤ n → height (converted ty e (both_as e o a b)) ≤ n + 11
operator-le ty e o a b n p q = omega (arith, converted-le ty e (both_as e o a b) (n + 3) (both-le e o a b n p q))

shift-le : (ty : BasicType) (e : Elem) (o : BinOp) (a s : Operand) (n : ℕ) → height a.expr ≤ n → height s.expr ≤ n → height (converted ty e (shifted e o a s)) ≤ n + 11
shift-le ty e o a s n p q = omega (arith, converted-le ty e (shifted e o a s) (n + 4) (shifted-le e o a s n p q))

called-le : (ty : BasicType) (e : Elem) (f : BuiltIn) (a b : Operand) (n : ℕ) → height a.expr ≤ n → height b.expr ≤ n → height (converted ty e (function_of_both e f a b)) ≤ n + 11
called-le ty e f a b n p q = omega (arith, converted-le ty e (function_of_both e f a b) (n + 3) (functions-le e f a b n p q))

plain-le : (e : Elem) (o : BinOp) (a b : Operand) (n : ℕ) → height a.expr ≤ n → height b.expr ≤ n → height (both_as e o a b) ≤ n + 11
plain-le e o a b n p q = omega (arith, both-le e o a b n p q)

binary-le : (o : Binary) (ty : BasicType) (a b : Operand) (n : ℕ) → height a.expr ≤ n → height b.expr ≤ n → height (binary o ty a b) ≤ n + 11
binary-le IAdd ty a b n p q = plain-le ty.elem Add a b n p q
binary-le ISub ty a b n p q = plain-le ty.elem Sub a b n p q
binary-le IMul ty a b n p q = plain-le ty.elem Mul a b n p q
binary-le UDiv ty a b n p q = operator-le ty elem.Uint Div a b n p q
binary-le SDiv ty a b n p q = fitting-le ty elem.Uint (signed_quotient a b) n (le_on _ _ _ (signed_quotient-le a b n p q) (omega arith))
binary-le UMod ty a b n p q = operator-le ty elem.Uint Rem a b n p q
binary-le SRem ty a b n p q = fitting-le ty elem.Uint (signed_remainder a b) n (le_on _ _ _ (signed_remainder-le a b n p q) (omega arith))
binary-le SMod ty a b n p q = fitting-le ty elem.Uint (signed_modulo a b) n (signed_modulo-le a b n p q)
binary-le ShiftRightLogical ty a b n p q = shift-le ty elem.Uint Shr a b n p q
binary-le ShiftRightArithmetic ty a b n p q = shift-le ty elem.Int Shr a b n p q
binary-le ShiftLeftLogical ty a b n p q = omega (arith, shifted-le ty.elem Shl a b n p q)
binary-le BitwiseOr ty a b n p q = plain-le ty.elem Or a b n p q
binary-le BitwiseXor ty a b n p q = plain-le ty.elem Xor a b n p q
binary-le BitwiseAnd ty a b n p q = plain-le ty.elem And a b n p q
binary-le UMin ty a b n p q = called-le ty elem.Uint built_in.Min a b n p q
binary-le SMin ty a b n p q = called-le ty elem.Int built_in.Min a b n p q
binary-le UMax ty a b n p q = called-le ty elem.Uint built_in.Max a b n p q
binary-le SMax ty a b n p q = called-le ty elem.Int built_in.Max a b n p q

equal-le : (o : BinOp) (a b : Operand) (n : ℕ) → height a.expr ≤ n → height b.expr ≤ n → height (compared_as_they_are o a b) ≤ n + 11
equal-le o a b n p q = choice-le (same_elem a.ty.elem b.ty.elem) (tree.binary o a.expr b.expr) (both_as elem.Uint o a b) (n + 11) (omega arith) (plain-le elem.Uint o a b n p q)

comparison-le : (o : Comparison) (a b : Operand) (n : ℕ) → height a.expr ≤ n → height b.expr ≤ n → height (comparison o a b) ≤ n + 11
comparison-le IEqual a b n p q = equal-le Equal a b n p q
comparison-le INotEqual a b n p q = equal-le NotEqual a b n p q
comparison-le UGreaterThan a b n p q = plain-le elem.Uint Greater a b n p q
comparison-le SGreaterThan a b n p q = plain-le elem.Int Greater a b n p q
comparison-le UGreaterThanEqual a b n p q = plain-le elem.Uint GreaterEqual a b n p q
comparison-le SGreaterThanEqual a b n p q = plain-le elem.Int GreaterEqual a b n p q
comparison-le ULessThan a b n p q = plain-le elem.Uint Less a b n p q
comparison-le SLessThan a b n p q = plain-le elem.Int Less a b n p q
comparison-le ULessThanEqual a b n p q = plain-le elem.Uint LessEqual a b n p q
comparison-le SLessThanEqual a b n p q = plain-le elem.Int LessEqual a b n p q

logical-le : (o : Logical) (a b : Operand) (n : ℕ) → height a.expr ≤ n → height b.expr ≤ n → height (logical o a b) ≤ n + 11
logical-le LogicalEqual a b n p q = omega arith
logical-le LogicalNotEqual a b n p q = omega arith
logical-le LogicalOr a b n p q = omega arith
logical-le LogicalAnd a b n p q = omega arith

clamped-le : (ty : BasicType) (e : Elem) (x low high : Operand) (n : ℕ) → height x.expr ≤ n → height low.expr ≤ n → height high.expr ≤ n → height (converted ty e (clamped e x low high)) ≤ n + 11
clamped-le ty e x low high n p q r =
    fitting-le ty e (clamped e x low high) n (omega (arith, functions-le e built_in.Max x low n p q, as_elem-le e high n r))

clamp-le : (o : Clamp) (ty : BasicType) (x low high : Operand) (n : ℕ) → height x.expr ≤ n → height low.expr ≤ n → height high.expr ≤ n → height (clamp o ty x low high) ≤ n + 11
clamp-le UClamp ty x low high n p q r = clamped-le ty elem.Uint x low high n p q r
clamp-le SClamp ty x low high n p q r = clamped-le ty elem.Int x low high n p q r

extracted-le : (e : Elem) (ty : BasicType) (x offset count : Operand) (n : ℕ) → height x.expr ≤ n → height offset.expr ≤ n → height count.expr ≤ n → height (extracted e ty x offset count) ≤ n + 11
extracted-le e ty x offset count n p q r =
    fitting-le ty e (call_built_in built_in.BitfieldExtract (as_elem e x ∷ as_int offset ∷ as_int count ∷ [])) n (omega (arith, as_elem-le e x n p, as_elem-le elem.Int offset n q, as_elem-le elem.Int count n r))

inserted-le : (e : Elem) (base insert offset count : Operand) (n : ℕ) → height base.expr ≤ n → height insert.expr ≤ n → height offset.expr ≤ n → height count.expr ≤ n → height (inserted e base insert offset count) ≤ n + 11
inserted-le e base insert offset count n p q r s =
    omega (arith, as_elem-le e base n p, as_elem-le e insert n q, as_elem-le elem.Int offset n r, as_elem-le elem.Int count n s)

written-le : (o : Operation) (ty : BasicType) (a b c d : Operand) (n : ℕ) → height a.expr ≤ n → height b.expr ≤ n → height c.expr ≤ n → height d.expr ≤ n → height (written o ty a b c d) ≤ n + 11
written-le (op.Unary o) ty a b c d n p q r s = unary-le o ty a n p
written-le (op.Binary o) ty a b c d n p q r s = binary-le o ty a b n p q
written-le (op.Comparison o) ty a b c d n p q r s = comparison-le o a b n p q
written-le (op.Logical o) ty a b c d n p q r s = logical-le o a b n p q
written-le op.LogicalNot ty a b c d n p q r s = omega arith
written-le (op.Clamp o) ty a b c d n p q r s = clamp-le o ty a b c n p q r
written-le op.BitFieldInsert ty a b c d n p q r s = inserted-le ty.elem a b c d n p q r s
written-le op.BitFieldSExtract ty a b c d n p q r s = extracted-le elem.Int ty a b c n p q r
written-le op.BitFieldUExtract ty a b c d n p q r s = extracted-le elem.Uint ty a b c n p q r
written-le op.Any ty a b c d n p q r s = omega arith
written-le op.All ty a b c d n p q r s = omega arith
written-le op.Select ty a b c d n p q r s = omega arith
written-le op.Copy ty a b c d n p q r s = omega (arith, converted-le ty a.ty.elem a.expr n p)
written-le op.Undef ty a b c d n p q r s = omega arith
written-le op.VectorExtractDynamic ty a b c d n p q r s = omega arith
written-le op.VectorInsertDynamic ty a b c d n p q r s = omega arith
written-le op.VectorShuffle ty a b c d n p q r s = omega arith
written-le op.CompositeConstruct ty a b c d n p q r s = omega arith
written-le op.CompositeExtract ty a b c d n p q r s = omega arith
written-le op.CompositeInsert ty a b c d n p q r s = omega arith

first-le : (xs : List Operand) → height (first xs).expr ≤ 1 + highest_operand xs
first-le [] = omega arith
first-le (x ∷ xs) = omega arith

rest-le : (xs : List Operand) → highest_operand (rest xs) ≤ highest_operand xs
rest-le [] = omega arith
rest-le (x ∷ xs) = omega arith

second-le : (xs : List Operand) → height (second xs).expr ≤ 1 + highest_operand xs
second-le xs = omega (arith, first-le (rest xs), rest-le xs)

third-le : (xs : List Operand) → height (third xs).expr ≤ 1 + highest_operand xs
third-le xs = omega (arith, second-le (rest xs), rest-le xs)

fourth-le : (xs : List Operand) → height (fourth xs).expr ≤ 1 + highest_operand xs
fourth-le xs = omega (arith, third-le (rest xs), rest-le xs)

-- the law: at most 12, so at most 40, higher than the highest operand
pub height-close : (o : Operation) (ty : BasicType) (xs : List Operand) → height (applied o ty xs) ≤ 12 + highest_operand xs
height-close o ty xs =
    omega (arith, written-le o ty (first xs) (second xs) (third xs) (fourth xs) (1 + highest_operand xs) (first-le xs) (second-le xs) (third-le xs) (fourth-le xs))

pub height-applied : (o : Operation) (ty : BasicType) (xs : List Operand) → height (applied o ty xs) ≤ 40 + highest_operand xs
height-applied o ty xs = le_on _ _ _ (height-close o ty xs) (omega arith)

found-le : (found : Option Operation) (ty : BasicType) (xs : List Operand) → height (written_if_any found ty xs) ≤ 40 + highest_operand xs
found-le None ty xs = omega arith
found-le (Some o) ty xs = height-applied o ty xs

pub height-lowered_basic : (code : Op) (ext : ℕ) (ty : BasicType) (xs : List Operand) → height (lowered_basic code ext ty xs) ≤ 40 + highest_operand xs
height-lowered_basic code ext ty xs = found-le (operation_of code (ext ∷ [])) ty xs

-- the same of calls' answers
pub height-operation : (r : Result Code Memory) (o : Operation) (ty : BasicType) (xs : List Operand) → IfOk r (λ e. expr_of e ≡ applied o ty xs) → IfOk r (λ e. height (expr_of e) ≤ 40 + highest_operand xs)
height-operation (Ok e) o ty xs is =
    let P : Expr → Type 0 = λ x. height x ≤ 40 + highest_operand xs in
    subst P (sym is) (height-applied o ty xs)
height-operation (Err e) o ty xs is = tt

pub height-result : (r : Result Code Memory) (code : Op) (ext : ℕ) (ty : BasicType) (xs : List Operand) → IfOk r (λ e. expr_of e ≡ lowered_basic code ext ty xs) → IfOk r (λ e. height (expr_of e) ≤ 40 + highest_operand xs)
height-result (Ok e) code ext ty xs is =
    let P : Expr → Type 0 = λ x. height x ≤ 40 + highest_operand xs in
    subst P (sym is) (height-lowered_basic code ext ty xs)
height-result (Err e) code ext ty xs is = tt

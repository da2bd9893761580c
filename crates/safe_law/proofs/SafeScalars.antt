-- The expression of an operation on scalars writes nothing but what its operands write.
use Rattle.std.proofs.Common.{ℕ, Bool, true, false, List, [], ◌∷◌, Option, Some, None, nat_lt, if◌then◌else◌}
use Rattle.spv_module.specs.declared.tree.Elem.{Elem}
use Rattle.spv_module.specs.declared.tree.Elem.TheVariants as elem
use Rattle.glsl_ast.specs.Tree as tree
use Rattle.glsl_ast.specs.Tree.{Text, TypeName, Expr, exprs_in, literal, build, choose}
use Rattle.glsl_ast.specs.declared.expressions.BinOp.{BinOp}
use Rattle.glsl_ast.specs.declared.expressions.BinOp.TheVariants.{Equal, NotEqual}
use Rattle.glsl_ast.specs.declared.expressions.Literal.{Literal}
use Rattle.op_semantics.specs.declared.operation.Unary.{Unary}
use Rattle.op_semantics.specs.declared.operation.Unary.TheVariants.{SNegate, Not, BitReverse, BitCount, SAbs, SSign, FindILsb, FindSMsb, FindUMsb}
use Rattle.op_semantics.specs.declared.operation.Binary.{Binary}
use Rattle.op_semantics.specs.declared.operation.Binary.TheVariants.{IAdd, ISub, IMul, UDiv, SDiv, UMod, SRem, SMod, ShiftRightLogical, ShiftRightArithmetic, ShiftLeftLogical, BitwiseOr, BitwiseXor, BitwiseAnd, UMin, SMin, UMax, SMax}
use Rattle.op_semantics.specs.declared.operation.Comparison.{Comparison}
use Rattle.op_semantics.specs.declared.operation.Comparison.TheVariants.{IEqual, INotEqual, UGreaterThan, SGreaterThan, UGreaterThanEqual, SGreaterThanEqual, ULessThan, SLessThan, ULessThanEqual, SLessThanEqual}
use Rattle.op_semantics.specs.declared.operation.Logical.{Logical}
use Rattle.op_semantics.specs.declared.operation.Logical.TheVariants.{LogicalEqual, LogicalNotEqual, LogicalOr, LogicalAnd}
use Rattle.op_semantics.specs.declared.operation.Clamp.{Clamp}
use Rattle.op_semantics.specs.declared.operation.Clamp.TheVariants.{UClamp, SClamp}
use Rattle.op_semantics.specs.declared.operation.Operation.{Operation}
use Rattle.op_semantics.specs.declared.operation.Operation.TheVariants as op
use Rattle.int_lowering.specs.declared.basic.BasicType.{BasicType}
use Rattle.int_lowering.specs.declared.built_ins.BuiltIn.{BuiltIn}
use Rattle.int_lowering.specs.declared.built_ins.BuiltIn.TheVariants as built_in
use Rattle.int_lowering.specs.declared.operators.Operator.{Operator}
use Rattle.int_lowering.specs.Operand.{Operand, same_elem, constructed, converted, as_elem, as_uint, with_elem, scalar, first, rest, second, third, fourth}
use Rattle.int_lowering.specs.Term.{call_built_in, unsigned_literal}
use Rattle.int_lowering.specs.Division.{is_negative, negated_where, magnitude, quotient, remainder, signs, signed_quotient, signed_remainder, of_like_signs, of_unlike_signs, signed_modulo}
use Rattle.int_lowering.specs.Operator.{arithmetic_operator, comparison_operator, modulo_32, shift_amount, second_operand, over, operated}
use Rattle.int_lowering.specs.Lowered.{both_as, function_of_both, function_of, unary, zero, called, binary_by, binary, compared_as_they_are, compared, comparison_by, comparison, logical, clamped, clamp, extracted, inserted, written, applied}
use Rattle.int_lowering.specs.Term.{built_in_name}
use Rattle.write_law.specs.Writes.{RootsIn, ExprsWrite}
use Rattle.safe_law.specs.Safe.{IsSafe, AreSafe}

module _ (W : Text → Type 0) where
  abbrev S : Expr → Type 0
  S = IsSafe W

  -- by the form of the expression
  pub if_safe : (b : Bool) (x y : Expr) → S x → S y → S (if b then x else y)
  if_safe true x y p q = p
  if_safe false x y p q = q

  pub literal_safe : (l : Literal) → S (literal l)
  literal_safe l = (tt, tt)

  pub roots_in : (es : List Expr) → AreSafe W es → RootsIn W (exprs_in es)
  roots_in [] are = tt
  roots_in (e ∷ es) are = (are.0.0, roots_in es are.1)

  pub exprs_write : (es : List Expr) → AreSafe W es → ExprsWrite W (exprs_in es)
  exprs_write [] are = tt
  exprs_write (e ∷ es) are = (are.0.1, exprs_write es are.1)

  pub call_safe : (x : Text) (es : List Expr) → AreSafe W es → S (Expr.call x (exprs_in es))
  call_safe x es are = (tt, (roots_in es are, exprs_write es are))

  pub build_safe : (t : TypeName) (es : List Expr) → AreSafe W es → S (build t (exprs_in es))
  build_safe t es are = (tt, exprs_write es are)

  pub binary_safe : (o : BinOp) (a b : Expr) → S a → S b → S (tree.binary o a b)
  binary_safe o a b p q = (tt, (p.1, q.1))

  choose_safe : (c a b : Expr) → S c → S a → S b → S (choose c a b)
  choose_safe c a b p q r = (tt, (p.1, q.1, r.1))

  -- an operand that is safe
  abbrev pub O : Operand → Type 0
  O x = S x.expr

  abbrev pub AreOperands : List Operand → Type 0
  AreOperands [] = Unit {0}
  AreOperands (x ∷ xs) = O x × AreOperands xs

  converted_safe : (ty : BasicType) (from : Elem) (e : Expr) → S e → S (converted ty from e)
  converted_safe ty from e has = if_safe (same_elem ty.elem from) e (constructed ty e) has (tt, (has.1, tt))

  part_safe : (e : Elem) (word : Option ℕ) (ty : BasicType) (of : Expr) → S of → S (as_elem e (record { expr = of; ty = ty; word = word }))
  part_safe e (Some w) ty of has = (tt, tt)
  part_safe e None ty of has = converted_safe (with_elem e ty) ty.elem of has

  as_safe : (e : Elem) (x : Operand) → O x → S (as_elem e x)
  as_safe e x has = part_safe e x.word x.ty x.expr has

  both_safe : (e : Elem) (o : BinOp) (a b : Operand) → O a → O b → S (both_as e o a b)
  both_safe e o a b p q = binary_safe o (as_elem e a) (as_elem e b) (as_safe e a p) (as_safe e b q)

  function_safe : (e : Elem) (f : BuiltIn) (a : Operand) → O a → S (function_of e f a)
  function_safe e f a p = call_safe (built_in_name f) (as_elem e a ∷ []) (as_safe e a p, tt)

  functions_safe : (e : Elem) (f : BuiltIn) (a b : Operand) → O a → O b → S (function_of_both e f a b)
  functions_safe e f a b p q = call_safe (built_in_name f) (as_elem e a ∷ as_elem e b ∷ []) (as_safe e a p, (as_safe e b q, tt))

  masked_safe : (s : Operand) → O s → S (modulo_32 s)
  masked_safe s p = (tt, ((as_safe elem.Uint s p).1, tt))

  amount_part : (word : Option ℕ) (ty : BasicType) (of : Expr) → S of → S (shift_amount (record { expr = of; ty = ty; word = word }))
  amount_part (Some w) ty of p = if_safe (nat_lt w 32) (unsigned_literal w) (modulo_32 (record { expr = of; ty = ty; word = Some w })) (tt, tt) (masked_safe (record { expr = of; ty = ty; word = Some w }) p)
  amount_part None ty of p = masked_safe (record { expr = of; ty = ty; word = None }) p

  amount_safe : (s : Operand) → O s → S (shift_amount s)
  amount_safe s p = amount_part s.word s.ty s.expr p

  -- division
  negative_safe : (x : Operand) → O x → S (is_negative x)
  negative_safe x p = (tt, ((as_safe elem.Int x p).1, tt))

  where_safe : (c e : Expr) → S c → S e → S (negated_where c e)
  where_safe c e p q = (tt, (p.1, (tt, q.1), q.1))

  magnitude_safe : (x : Operand) → O x → S (magnitude x)
  magnitude_safe x p = where_safe (is_negative x) (as_uint x) (negative_safe x p) (as_safe elem.Uint x p)

  quotient_safe : (a b : Operand) → O a → O b → S (quotient a b)
  quotient_safe a b p q = (tt, ((magnitude_safe a p).1, (magnitude_safe b q).1))

  remainder_safe : (a b : Operand) → O a → O b → S (remainder a b)
  remainder_safe a b p q = (tt, ((magnitude_safe a p).1, (magnitude_safe b q).1))

  signs_safe : (o : BinOp) (a b : Operand) → O a → O b → S (signs o a b)
  signs_safe o a b p q = binary_safe o (is_negative a) (is_negative b) (negative_safe a p) (negative_safe b q)

  signed_quotient_safe : (a b : Operand) → O a → O b → S (signed_quotient a b)
  signed_quotient_safe a b p q = where_safe (signs NotEqual a b) (quotient a b) (signs_safe NotEqual a b p q) (quotient_safe a b p q)

  signed_remainder_safe : (a b : Operand) → O a → O b → S (signed_remainder a b)
  signed_remainder_safe a b p q = where_safe (is_negative a) (remainder a b) (negative_safe a p) (remainder_safe a b p q)

  like_safe : (a b : Operand) → O a → O b → S (of_like_signs a b)
  like_safe a b p q = where_safe (is_negative b) (remainder a b) (negative_safe b q) (remainder_safe a b p q)

  unlike_safe : (a b : Operand) → O a → O b → S (of_unlike_signs a b)
  unlike_safe a b p q = (tt, ((negative_safe b q).1, ((remainder_safe a b p q).1, (magnitude_safe b q).1), ((magnitude_safe b q).1, (remainder_safe a b p q).1)))

  modulo_safe : (a b : Operand) → O a → O b → S (signed_modulo a b)
  modulo_safe a b p q = (tt, (((remainder_safe a b p q).1, tt), tt, ((signs_safe Equal a b p q).1, (like_safe a b p q).1, (unlike_safe a b p q).1)))

  -- operators
  second_safe : (o : Operator) (b : Operand) → O b → S (second_operand o b)
  second_safe o b p = if_safe o.shifts (shift_amount b) (as_elem o.elem b) (amount_safe b p) (as_safe o.elem b p)

  over_safe : (o : Operator) (ty : BasicType) (x y : Expr) → S x → S y → S (over o ty x y)
  over_safe o ty x y p q = if_safe o.converts (converted ty o.elem (tree.binary o.op x y)) (tree.binary o.op x y) (converted_safe ty o.elem (tree.binary o.op x y) (binary_safe o.op x y p q)) (binary_safe o.op x y p q)

  operated_safe : (o : Operator) (ty : BasicType) (a b : Operand) → O a → O b → S (operated o ty a b)
  operated_safe o ty a b p q = over_safe o ty (as_elem o.elem a) (second_operand o b) (as_safe o.elem a p) (second_safe o b q)

  unary_safe : (o : Unary) (ty : BasicType) (a : Operand) → O a → S (unary o ty a)
  unary_safe SNegate ty a p = (tt, (tt, (as_safe ty.elem a p).1))
  unary_safe Not ty a p = (tt, (as_safe ty.elem a p).1)
  unary_safe BitReverse ty a p = function_safe ty.elem built_in.BitfieldReverse a p
  unary_safe BitCount ty a p = converted_safe ty elem.Int (call_built_in built_in.BitCount (a.expr ∷ [])) (call_safe (built_in_name built_in.BitCount) (a.expr ∷ []) (p, tt))
  unary_safe SAbs ty a p = converted_safe ty elem.Uint (magnitude a) (magnitude_safe a p)
  unary_safe SSign ty a p = converted_safe ty elem.Int (function_of elem.Int built_in.Sign a) (function_safe elem.Int built_in.Sign a p)
  unary_safe FindILsb ty a p = converted_safe ty elem.Int (function_of elem.Uint built_in.FindLsb a) (function_safe elem.Uint built_in.FindLsb a p)
  unary_safe FindSMsb ty a p = converted_safe ty elem.Int (function_of elem.Int built_in.FindMsb a) (function_safe elem.Int built_in.FindMsb a p)
  unary_safe FindUMsb ty a p = converted_safe ty elem.Int (function_of elem.Uint built_in.FindMsb a) (function_safe elem.Uint built_in.FindMsb a p)

  pub zero_safe : (ty : BasicType) → S (zero ty)
  zero_safe ty = (tt, tt)

  called_safe : (o : Binary) (ty : BasicType) (a b : Operand) → O a → O b → S (called o ty a b)
  called_safe SDiv ty a b p q = converted_safe ty elem.Uint (signed_quotient a b) (signed_quotient_safe a b p q)
  called_safe SRem ty a b p q = converted_safe ty elem.Uint (signed_remainder a b) (signed_remainder_safe a b p q)
  called_safe SMod ty a b p q = converted_safe ty elem.Uint (signed_modulo a b) (modulo_safe a b p q)
  called_safe UMin ty a b p q = converted_safe ty elem.Uint (function_of_both elem.Uint built_in.Min a b) (functions_safe elem.Uint built_in.Min a b p q)
  called_safe SMin ty a b p q = converted_safe ty elem.Int (function_of_both elem.Int built_in.Min a b) (functions_safe elem.Int built_in.Min a b p q)
  called_safe UMax ty a b p q = converted_safe ty elem.Uint (function_of_both elem.Uint built_in.Max a b) (functions_safe elem.Uint built_in.Max a b p q)
  called_safe SMax ty a b p q = converted_safe ty elem.Int (function_of_both elem.Int built_in.Max a b) (functions_safe elem.Int built_in.Max a b p q)
  called_safe IAdd ty a b p q = zero_safe ty
  called_safe ISub ty a b p q = zero_safe ty
  called_safe IMul ty a b p q = zero_safe ty
  called_safe UDiv ty a b p q = zero_safe ty
  called_safe UMod ty a b p q = zero_safe ty
  called_safe ShiftRightLogical ty a b p q = zero_safe ty
  called_safe ShiftRightArithmetic ty a b p q = zero_safe ty
  called_safe ShiftLeftLogical ty a b p q = zero_safe ty
  called_safe BitwiseOr ty a b p q = zero_safe ty
  called_safe BitwiseXor ty a b p q = zero_safe ty
  called_safe BitwiseAnd ty a b p q = zero_safe ty

  numbers_safe : (o : Binary) (ty : BasicType) (a b : Operand) → O a → O b → S (binary o ty a b)
  numbers_safe o ty a b p q = by_operator (arithmetic_operator o ty.elem)
    where
      by_operator : (x : Option Operator) → S (binary_by x o ty a b)
      by_operator None = called_safe o ty a b p q
      by_operator (Some x) = operated_safe x ty a b p q

  same_safe : (o : BinOp) (a b : Operand) → O a → O b → S (compared_as_they_are o a b)
  same_safe o a b p q = if_safe (same_elem a.ty.elem b.ty.elem) (tree.binary o a.expr b.expr) (both_as elem.Uint o a b) (binary_safe o a.expr b.expr p q) (both_safe elem.Uint o a b p q)

  compared_safe : (o : Comparison) (a b : Operand) → O a → O b → S (compared o a b)
  compared_safe IEqual a b p q = same_safe Equal a b p q
  compared_safe INotEqual a b p q = same_safe NotEqual a b p q
  compared_safe UGreaterThan a b p q = same_safe Equal a b p q
  compared_safe SGreaterThan a b p q = same_safe Equal a b p q
  compared_safe UGreaterThanEqual a b p q = same_safe Equal a b p q
  compared_safe SGreaterThanEqual a b p q = same_safe Equal a b p q
  compared_safe ULessThan a b p q = same_safe Equal a b p q
  compared_safe SLessThan a b p q = same_safe Equal a b p q
  compared_safe ULessThanEqual a b p q = same_safe Equal a b p q
  compared_safe SLessThanEqual a b p q = same_safe Equal a b p q

  comparison_safe : (o : Comparison) (a b : Operand) → O a → O b → S (comparison o a b)
  comparison_safe o a b p q = by_operator (comparison_operator o)
    where
      by_operator : (x : Option Operator) → S (comparison_by x o a b)
      by_operator None = compared_safe o a b p q
      by_operator (Some x) = operated_safe x (scalar elem.Bool) a b p q

  logical_safe : (o : Logical) (a b : Operand) → O a → O b → S (logical o a b)
  logical_safe LogicalEqual a b p q = (tt, (p.1, q.1))
  logical_safe LogicalNotEqual a b p q = (tt, (p.1, q.1))
  logical_safe LogicalOr a b p q = (tt, (p.1, q.1))
  logical_safe LogicalAnd a b p q = (tt, (p.1, q.1))

  clamped_safe : (e : Elem) (x low high : Operand) → O x → O low → O high → S (clamped e x low high)
  clamped_safe e x low high p q r = call_safe (built_in_name built_in.Min) (function_of_both e built_in.Max x low ∷ as_elem e high ∷ []) (functions_safe e built_in.Max x low p q, (as_safe e high r, tt))

  clamp_safe : (o : Clamp) (ty : BasicType) (x low high : Operand) → O x → O low → O high → S (clamp o ty x low high)
  clamp_safe UClamp ty x low high p q r = converted_safe ty elem.Uint (clamped elem.Uint x low high) (clamped_safe elem.Uint x low high p q r)
  clamp_safe SClamp ty x low high p q r = converted_safe ty elem.Int (clamped elem.Int x low high) (clamped_safe elem.Int x low high p q r)

  field_safe : (e : Elem) (ty : BasicType) (x offset count : Operand) → O x → O offset → O count → S (extracted e ty x offset count)
  field_safe e ty x offset count p q r = converted_safe ty e _ (call_safe (built_in_name built_in.BitfieldExtract) (as_elem e x ∷ as_elem elem.Int offset ∷ as_elem elem.Int count ∷ []) (as_safe e x p, (as_safe elem.Int offset q, (as_safe elem.Int count r, tt))))

  inserted_safe : (e : Elem) (a b c d : Operand) → O a → O b → O c → O d → S (inserted e a b c d)
  inserted_safe e a b c d p q r s = call_safe (built_in_name built_in.BitfieldInsert) (as_elem e a ∷ as_elem e b ∷ as_elem elem.Int c ∷ as_elem elem.Int d ∷ []) (as_safe e a p, (as_safe e b q, (as_safe elem.Int c r, (as_safe elem.Int d s, tt))))

  written_safe : (o : Operation) (ty : BasicType) (a b c d : Operand) → O a → O b → O c → O d → S (written o ty a b c d)
  written_safe (op.Unary o) ty a b c d p q r s = unary_safe o ty a p
  written_safe (op.Binary o) ty a b c d p q r s = numbers_safe o ty a b p q
  written_safe (op.Comparison o) ty a b c d p q r s = comparison_safe o a b p q
  written_safe (op.Logical o) ty a b c d p q r s = logical_safe o a b p q
  written_safe op.LogicalNot ty a b c d p q r s = (tt, p.1)
  written_safe (op.Clamp o) ty a b c d p q r s = clamp_safe o ty a b c p q r
  written_safe op.BitFieldInsert ty a b c d p q r s = inserted_safe ty.elem a b c d p q r s
  written_safe op.BitFieldSExtract ty a b c d p q r s = field_safe elem.Int ty a b c p q r
  written_safe op.BitFieldUExtract ty a b c d p q r s = field_safe elem.Uint ty a b c p q r
  written_safe op.Any ty a b c d p q r s = call_safe (built_in_name built_in.Any) (a.expr ∷ []) (p, tt)
  written_safe op.All ty a b c d p q r s = call_safe (built_in_name built_in.All) (a.expr ∷ []) (p, tt)
  written_safe op.Select ty a b c d p q r s = choose_safe a.expr b.expr c.expr p q r
  written_safe op.Copy ty a b c d p q r s = converted_safe ty a.ty.elem a.expr p
  written_safe op.Undef ty a b c d p q r s = zero_safe ty
  written_safe op.VectorExtractDynamic ty a b c d p q r s = zero_safe ty
  written_safe op.VectorInsertDynamic ty a b c d p q r s = zero_safe ty
  written_safe op.VectorShuffle ty a b c d p q r s = zero_safe ty
  written_safe op.CompositeConstruct ty a b c d p q r s = zero_safe ty
  written_safe op.CompositeExtract ty a b c d p q r s = zero_safe ty
  written_safe op.CompositeInsert ty a b c d p q r s = zero_safe ty

  -- operands that may be missing
  first_safe : (xs : List Operand) → AreOperands xs → O (first xs)
  first_safe [] are = (tt, tt)
  first_safe (x ∷ xs) are = are.0

  rest_safe : (xs : List Operand) → AreOperands xs → AreOperands (rest xs)
  rest_safe [] are = tt
  rest_safe (x ∷ xs) are = are.1

  -- the law: of a list of operands
  pub applied_safe : (o : Operation) (ty : BasicType) (xs : List Operand) → AreOperands xs → S (applied o ty xs)
  applied_safe o ty xs are =
      let after = rest_safe xs are in
      let later = rest_safe (rest xs) after in
      let last = rest_safe (rest (rest xs)) later in
      written_safe o ty (first xs) (second xs) (third xs) (fourth xs) (first_safe xs are) (first_safe (rest xs) after) (first_safe (rest (rest xs)) later) (first_safe (rest (rest (rest xs))) last)

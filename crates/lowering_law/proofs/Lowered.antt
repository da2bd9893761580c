-- Operations on scalar numbers as they are written say the value of the operation.
use Rattle.std.proofs.Common.{◌≡◌, ℕ, ◌*◌, ◌/◌, ◌%◌, ◌^◌, ◌<◌, Bool, true, false, List, Option, Some, None, refl, ap, ◌∙◌, subst, arith}
use Rattle.std.specs.Prelude.{◌==◌, ◌||◌, ◌&&◌, nat_lt, bit_and, option_map, int_div, int_rem, if◌then◌else◌}
use Rattle.std.specs.Int.{int_shr}
use Rattle.std.proofs.lemmas.Bool.Decides.{nat_tests}
use Rattle.std.proofs.lemmas.Nat.{and_mask}
use Rattle.std.proofs.lemmas.Option.{same_Some}
use Rattle.spv_module.specs.declared.tree.Elem.{Elem}
use Rattle.spv_module.specs.declared.tree.Elem.TheVariants as elem
use Rattle.spv_types.specs.Tree.{word}
use Rattle.glsl_ast.specs.Tree.{Text, Expr}
use Rattle.glsl_ast.specs.Tree as tree
use Rattle.glsl_ast.specs.declared.expressions.BinOp.{BinOp}
use Rattle.glsl_ast.specs.declared.expressions.BinOp.TheVariants.{Add, Sub, Mul, Div, Rem, Shl, Shr, And, Or, Xor}
use Rattle.op_semantics.specs.declared.operation.Binary.{Binary}
use Rattle.op_semantics.specs.declared.operation.Binary.TheVariants.{IAdd, ISub, IMul, UDiv, SDiv, UMod, SRem, SMod, ShiftRightLogical, ShiftRightArithmetic, ShiftLeftLogical, BitwiseOr, BitwiseXor, BitwiseAnd, UMin, SMin, UMax, SMax}
use Rattle.op_semantics.specs.Word.{signed, word_of, smallest, all_ones, is_undefined, int_modulo, binary_word}
use Rattle.int_lowering.specs.Operand.{Operand, scalar, as_elem, as_uint, converted}
use Rattle.int_lowering.specs.Operator.{modulo_32, shift_amount}
use Rattle.int_lowering.specs.Term.{unsigned_literal}
use Rattle.int_lowering.specs.Lowered as written
use Rattle.traces.specs.Outcomes.{Result}
use Rattle.glsl_semantics.specs.Shapes.{Typed, typed, scalar as shape_of_elem}
use Rattle.glsl_semantics.specs.States.{State}
use Rattle.glsl_semantics.specs.Operators.{numeric, shift, operator_kind, operated_by, operated, word_operator}
use Rattle.glsl_semantics.specs.Expressions.{Program, Argument, settling}
use Rattle.list_law.proofs.Numbers.{above_zero}
use Rattle.lowering_law.specs.Says.{Says}
use Rattle.lowering_law.specs.Stands.{Stands}
use Rattle.lowering_law.specs.Numbers.{IsNumeric, IsOperator, number}
use Rattle.lowering_law.proofs.Saying.{says_binary}
use Rattle.lowering_law.proofs.Operands.{as_elem_says, as_result, is_number}
use Rattle.lowering_law.proofs.Quotients.{signed_quotient_says, signed_remainder_says, signed_modulo_says}

-- an operator on two numbers of one type
on_numbers : (o : BinOp) (e : Elem) (a b r : ℕ) → IsNumeric e → operator_kind o ≡ numeric → word_operator o e a b ≡ Some r → operated o (number e a) (number e b) ≡ Some (number e r)
on_numbers o elem.Int a b r he k h =
    ap (λ k. operated_by k o (shape_of_elem elem.Int) (shape_of_elem elem.Int) (word a) (word b)) k
    ∙ ap (λ q. option_map (typed (shape_of_elem elem.Int)) (option_map word q)) h
on_numbers o elem.Uint a b r he k h =
    ap (λ k. operated_by k o (shape_of_elem elem.Uint) (shape_of_elem elem.Uint) (word a) (word b)) k
    ∙ ap (λ q. option_map (typed (shape_of_elem elem.Uint)) (option_map word q)) h
on_numbers o elem.Bool a b r he k h = absurd he

-- a shift of a number by an amount
on_shift : (o : BinOp) (e : Elem) (a n r : ℕ) → IsNumeric e → operator_kind o ≡ shift → word_operator o e a n ≡ Some r → operated o (number e a) (number elem.Uint n) ≡ Some (number e r)
on_shift o elem.Int a n r he k h =
    ap (λ k. operated_by k o (shape_of_elem elem.Int) (shape_of_elem elem.Uint) (word a) (word n)) k
    ∙ ap (λ q. option_map (typed (shape_of_elem elem.Int)) (option_map word q)) h
on_shift o elem.Uint a n r he k h =
    ap (λ k. operated_by k o (shape_of_elem elem.Uint) (shape_of_elem elem.Uint) (word a) (word n)) k
    ∙ ap (λ q. option_map (typed (shape_of_elem elem.Uint)) (option_map word q)) h
on_shift o elem.Bool a n r he k h = absurd he

pub mask_31 : (n : ℕ) → bit_and n 31 ≡ n % 32
mask_31 n = and_mask n 5

below_32 : (n : ℕ) → nat_lt (n % 32) 32 ≡ true
below_32 n = grind (arith, nat_tests)

small_is : (n : ℕ) → nat_lt n 32 ≡ true → n ≡ n % 32
small_is n e = grind (arith, nat_tests, e)

twice_32 : (n : ℕ) → n % 32 % 32 ≡ n % 32
twice_32 n = omega arith

-- a shift by an amount modulo 32 is a shift by the amount
pub left_by : (e : Elem) (a n : ℕ) → word_operator Shl e a (n % 32) ≡ binary_word ShiftLeftLogical a n
left_by e a n = ap (λ t. if t then binary_word ShiftLeftLogical a (n % 32) else None) (below_32 n) ∙ ap (λ k. Some ((a * 2 ^ k) % 2 ^ 32)) (twice_32 n)

pub right_by : (a n : ℕ) → word_operator Shr elem.Uint a (n % 32) ≡ binary_word ShiftRightLogical a n
right_by a n = ap (λ t. if t then binary_word ShiftRightLogical a (n % 32) else None) (below_32 n) ∙ ap (λ k. Some (a / 2 ^ k)) (twice_32 n)

pub signed_right_by : (a n : ℕ) → word_operator Shr elem.Int a (n % 32) ≡ binary_word ShiftRightArithmetic a n
signed_right_by a n = ap (λ t. if t then binary_word ShiftRightArithmetic a (n % 32) else None) (below_32 n) ∙ ap (λ k. Some (word_of (int_shr (signed a) k))) (twice_32 n)

-- a division that has a value has a divisor
has_divisor : (t : Bool) (x : Option ℕ) (r : ℕ) → (if t then None else x) ≡ Some r → (t ≡ false) × (x ≡ Some r)
has_divisor true x r h = cc
has_divisor false x r h = (refl, h)

is_defined : (a b : ℕ) → is_undefined a b ≡ false → (b == 0) ≡ false
is_defined a b h = by_zero (b == 0) h
  where
    by_zero : (t : Bool) → (t || ((a == smallest) && (b == all_ones))) ≡ false → t ≡ false
    by_zero true h = cc
    by_zero false h = refl

module _ (p : Program) (calls : Text → List Argument → State → Result (Option Typed × State)) (s : State) where
  abbrev S : Expr → Typed → Type 0
  S = Says p calls s

  -- an operator on both operands as numbers of one type
  both_says : (o : BinOp) (e : Elem) (x y : Operand) (a b r : ℕ) → IsNumeric e → operator_kind o ≡ numeric → settling o ≡ None → Stands p calls s x a → Stands p calls s y b → word_operator o e a b ≡ Some r → S (tree.binary o (as_elem e x) (as_elem e y)) (number e r)
  both_says o e x y a b r he k both hx hy h =
      says_binary p calls s o (as_elem e x) (as_elem e y) (number e a) (number e b) (number e r) both (as_elem_says p calls s e x a he hx) (as_elem_says p calls s e y b he hy) (on_numbers o e a b r he k h)

  -- the amount of a shift, modulo 32
  amount_says : (y : Operand) (b : ℕ) → Stands p calls s y b → S (shift_amount y) (number elem.Uint (b % 32))
  amount_says y b h = by_word y.word refl
    where
      masked_says : S (modulo_32 y) (number elem.Uint (b % 32))
      masked_says = says_binary p calls s And (as_uint y) (unsigned_literal 31) (number elem.Uint b) (number elem.Uint 31) (number elem.Uint (b % 32)) refl (as_elem_says p calls s elem.Uint y b tt h) refl (on_numbers And elem.Uint b 31 (b % 32) tt refl (ap Some (mask_31 b)))

      by_size : (t : Bool) (w : ℕ) → nat_lt w 32 ≡ t → w ≡ b → S (if t then unsigned_literal w else modulo_32 y) (number elem.Uint (b % 32))
      by_size true w e is = subst (λ n. S (unsigned_literal w) (number elem.Uint n)) (small_is w e ∙ ap (λ n. n % 32) is) refl
      by_size false w e is = masked_says

      by_word : (o : Option ℕ) → y.word ≡ o → S (elim o [ Some w ↦ (if nat_lt w 32 then unsigned_literal w else modulo_32 y) | None ↦ modulo_32 y ]) (number elem.Uint (b % 32))
      by_word (Some w) e = by_size (nat_lt w 32) w refl (h.literal w e)
      by_word None e = masked_says

  shift_says : (o : BinOp) (e : Elem) (x y : Operand) (a b r : ℕ) → IsNumeric e → operator_kind o ≡ shift → settling o ≡ None → Stands p calls s x a → Stands p calls s y b → word_operator o e a (b % 32) ≡ Some r → S (tree.binary o (as_elem e x) (shift_amount y)) (number e r)
  shift_says o e x y a b r he k both hx hy h =
      says_binary p calls s o (as_elem e x) (shift_amount y) (number e a) (number elem.Uint (b % 32)) (number e r) both (as_elem_says p calls s e x a he hx) (amount_says y b hy) (on_shift o e a (b % 32) r he k h)

  -- what is divided by something: a quotient or a remainder of uints
  divided_says : (o : BinOp) (f : ℕ → ℕ → ℕ) (x y : Operand) (a b r : ℕ) → operator_kind o ≡ numeric → settling o ≡ None → ((b == 0) ≡ false → word_operator o elem.Uint a b ≡ Some (f a b)) → Stands p calls s x a → Stands p calls s y b → (if b == 0 then None else Some (f a b)) ≡ Some r → S (tree.binary o (as_elem elem.Uint x) (as_elem elem.Uint y)) (number elem.Uint r)
  divided_says o f x y a b r k both is hx hy h =
      let known = has_divisor (b == 0) (Some (f a b)) r h in
      both_says o elem.Uint x y a b r tt k both hx hy (is known.0 ∙ known.1)

  module _ (g : Elem) (numbers : IsNumeric g) (x y : Operand) (a b : ℕ) (hx : Stands p calls s x a) (hy : Stands p calls s y b) (la : a < 2 ^ 32) (lb : b < 2 ^ 32) where
    -- of a quotient or a remainder with a sign
    of_signed : (q : ℕ) (r : ℕ) (x : Expr) → (if is_undefined a b then None else Some q) ≡ Some r → (0 < b → S x (number elem.Uint q)) → S (converted (scalar g) elem.Uint x) (number g r)
    of_signed q r x h says =
        let known = has_divisor (is_undefined a b) (Some q) r h in
        as_result p calls s g numbers elem.Uint x r tt (subst (λ n. S x (number elem.Uint n)) (same_Some q r known.1) (says (above_zero b (is_defined a b known.0))))

    pub binary_says : (o : Binary) (r : ℕ) → IsOperator o → binary_word o a b ≡ Some r → S (written.binary o (scalar g) x y) (number g r)
    binary_says IAdd r is h = both_says Add g x y a b r numbers refl refl hx hy h
    binary_says ISub r is h = both_says Sub g x y a b r numbers refl refl hx hy h
    binary_says IMul r is h = both_says Mul g x y a b r numbers refl refl hx hy h
    binary_says BitwiseOr r is h = both_says Or g x y a b r numbers refl refl hx hy h
    binary_says BitwiseXor r is h = both_says Xor g x y a b r numbers refl refl hx hy h
    binary_says BitwiseAnd r is h = both_says And g x y a b r numbers refl refl hx hy h
    binary_says UDiv r is h = as_result p calls s g numbers elem.Uint _ r tt (divided_says Div (λ m n. m / n) x y a b r refl refl (λ e. rw e refl) hx hy h)
    binary_says UMod r is h = as_result p calls s g numbers elem.Uint _ r tt (divided_says Rem (λ m n. m % n) x y a b r refl refl (λ e. rw e refl) hx hy h)
    binary_says SDiv r is h = of_signed (word_of (int_div (signed a) (signed b))) r _ h (signed_quotient_says p calls s x y a b (is_number p calls s x a hx) (is_number p calls s y b hy) la lb)
    binary_says SRem r is h = of_signed (word_of (int_rem (signed a) (signed b))) r _ h (signed_remainder_says p calls s x y a b (is_number p calls s x a hx) (is_number p calls s y b hy) la lb)
    binary_says SMod r is h = of_signed (word_of (int_modulo (signed a) (signed b))) r _ h (signed_modulo_says p calls s x y a b (is_number p calls s x a hx) (is_number p calls s y b hy) la lb)
    binary_says ShiftLeftLogical r is h = shift_says Shl g x y a b r numbers refl refl hx hy (left_by g a b ∙ h)
    binary_says ShiftRightLogical r is h = as_result p calls s g numbers elem.Uint _ r tt (shift_says Shr elem.Uint x y a b r tt refl refl hx hy (right_by a b ∙ h))
    binary_says ShiftRightArithmetic r is h = as_result p calls s g numbers elem.Int _ r tt (shift_says Shr elem.Int x y a b r tt refl refl hx hy (signed_right_by a b ∙ h))
    binary_says UMin r is h = absurd is
    binary_says SMin r is h = absurd is
    binary_says UMax r is h = absurd is
    binary_says SMax r is h = absurd is

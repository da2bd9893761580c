-- Operations on scalar numbers that are written with built-in functions say the value of the operation.
use Rattle.std.proofs.Common.{◌≡◌, ℕ, ◌+◌, ◌-◌, ◌%◌, ◌^◌, ◌<◌, Bool, true, false, List, [], ◌∷◌, Option, Some, refl, ap, ◌∙◌, subst, arith}
use Rattle.std.specs.Prelude.{nat_lt, unsigned_abs}
use Rattle.spv_module.specs.declared.tree.Elem.{Elem}
use Rattle.spv_module.specs.declared.tree.Elem.TheVariants as elem
use Rattle.glsl_ast.specs.Tree.{Text, Expr, Exprs, exprs_in, literal, expr, no_exprs}
use Rattle.glsl_ast.specs.Tree as tree
use Rattle.glsl_ast.specs.declared.expressions.BinOp.TheVariants.{Sub}
use Rattle.op_semantics.specs.declared.operation.Unary.{Unary}
use Rattle.op_semantics.specs.declared.operation.Unary.TheVariants.{SNegate, Not, BitReverse, BitCount, SAbs, SSign, FindILsb, FindSMsb, FindUMsb}
use Rattle.op_semantics.specs.Word.{signed, unary_word}
use Rattle.int_lowering.specs.declared.built_ins.BuiltIn.{BuiltIn}
use Rattle.int_lowering.specs.declared.built_ins.BuiltIn.TheVariants.{Min, Max, Sign, BitCount as CountBits, FindLsb, FindMsb, BitfieldInsert, BitfieldExtract, BitfieldReverse, Any, All}
use Rattle.int_lowering.specs.Operand.{Operand, scalar, as_elem, literal_of}
use Rattle.int_lowering.specs.Term.{built_in_name, call_built_in}
use Rattle.int_lowering.specs.Lowered as written
use Rattle.int_lowering.specs.Division as division
use Rattle.traces.specs.Outcomes.{Result}
use Rattle.glsl_semantics.specs.Shapes.{Typed}
use Rattle.glsl_semantics.specs.States.{State}
use Rattle.glsl_semantics.specs.Functions.{pure_value}
use Rattle.glsl_semantics.specs.Expressions.{Program, Argument, CallKind, user, pure, atomic_function, atomic_or, call_kind}
use Rattle.lowering_law.specs.Magnitudes.{magnitude}
use Rattle.lowering_law.specs.Says.{Says, AllSay}
use Rattle.lowering_law.specs.Stands.{Stands}
use Rattle.lowering_law.specs.Numbers.{IsNumeric, number}
use Rattle.lowering_law.specs.BuiltIns.{function_of, NoneDeclared}
use Rattle.lowering_law.proofs.Division.{high_side, none_below, negated_is}
use Rattle.lowering_law.proofs.Saying.{says_flip, says_binary, says_pure}
use Rattle.lowering_law.proofs.Operands.{as_elem_says, as_result, is_number}
use Rattle.lowering_law.proofs.Quotients.{magnitude_says}

kind_of_name : (f : BuiltIn) → atomic_or (built_in_name f) (atomic_function (built_in_name f)) ≡ pure (function_of f)
unfolding built_in_name
kind_of_name Min = refl
kind_of_name Max = refl
kind_of_name Sign = refl
kind_of_name CountBits = refl
kind_of_name FindLsb = refl
kind_of_name FindMsb = refl
kind_of_name BitfieldInsert = refl
kind_of_name BitfieldExtract = refl
kind_of_name BitfieldReverse = refl
kind_of_name Any = refl
kind_of_name All = refl

kind_of : (p : Program) (f : BuiltIn) → NoneDeclared p → call_kind p (built_in_name f) ≡ pure (function_of f)
kind_of p f none = by_truth (p.is_function (built_in_name f)) (none f) ∙ kind_of_name f
  where
    by_truth : (t : Bool) → t ≡ false → elim t as (λ t. CallKind) [ true ↦ user | false ↦ atomic_or (built_in_name f) (atomic_function (built_in_name f)) ] ≡ atomic_or (built_in_name f) (atomic_function (built_in_name f))
    by_truth true e = cc
    by_truth false e = refl

-- the magnitude of a number with a sign is its distance from zero
magnitude_is : (a : ℕ) → a < 2 ^ 32 → magnitude a ≡ unsigned_abs (signed a)
magnitude_is a h = by_sign (nat_lt a (2 ^ 31)) refl
  where
    by_sign : (t : Bool) → nat_lt a (2 ^ 31) ≡ t → magnitude a ≡ unsigned_abs (signed a)
    by_sign true e = rw (e, none_below a) refl
    by_sign false e = rw (e, negated_is a (let far = high_side a e in omega (arith, far)) h) refl

pub negated_word : (a : ℕ) → (0 + (2 ^ 32 - a)) % 2 ^ 32 ≡ unary_word SNegate a
negated_word a = ap (λ n. n % 2 ^ 32) (let same : 0 + (2 ^ 32 - a) ≡ 2 ^ 32 - a = omega arith in same)

module _ (p : Program) (none : NoneDeclared p) (calls : Text → List Argument → State → Result (Option Typed × State)) (s : State) where
  abbrev S : Expr → Typed → Type 0
  S = Says p calls s

  -- a call of a built-in function
  pub call_says : (f : BuiltIn) (es : List Expr) (vs : List Typed) (r : Typed) → AllSay p calls s (exprs_in es) vs → pure_value (function_of f) vs ≡ Some r → S (call_built_in f es) r
  call_says f es vs r h is = says_pure p calls s (built_in_name f) (function_of f) (exprs_in es) vs r (kind_of p f none) h is

  one_says : (f : BuiltIn) (e : Elem) (x : Operand) (a : ℕ) (r : Typed) → IsNumeric e → Stands p calls s x a → pure_value (function_of f) (number e a ∷ []) ≡ Some r → S (written.function_of e f x) r
  one_says f e x a r he hx is = call_says f (as_elem e x ∷ []) (number e a ∷ []) r (as_elem_says p calls s e x a he hx, tt) is

  pub two_say : (f : BuiltIn) (e : Elem) (x y : Operand) (a b : ℕ) (r : Typed) → IsNumeric e → Stands p calls s x a → Stands p calls s y b → pure_value (function_of f) (number e a ∷ number e b ∷ []) ≡ Some r → S (written.function_of_both e f x y) r
  two_say f e x y a b r he hx hy is = call_says f (as_elem e x ∷ as_elem e y ∷ []) (number e a ∷ number e b ∷ []) r (as_elem_says p calls s e x a he hx, (as_elem_says p calls s e y b he hy, tt)) is

  counted : (e : Elem) (a : ℕ) → IsNumeric e → pure_value (function_of CountBits) (number e a ∷ []) ≡ Some (number elem.Int (unary_word BitCount a))
  counted elem.Int a h = refl
  counted elem.Uint a h = refl
  counted elem.Bool a h = absurd h

  module _ (g : Elem) (numbers : IsNumeric g) where
    flipped_says : (e : Elem) (x : Operand) (a : ℕ) → IsNumeric e → Stands p calls s x a → S (tree.flip (as_elem e x)) (number e (unary_word Not a))
    flipped_says elem.Int x a he hx = says_flip p calls s (as_elem elem.Int x) (number elem.Int a) (number elem.Int (unary_word Not a)) (as_elem_says p calls s elem.Int x a tt hx) refl
    flipped_says elem.Uint x a he hx = says_flip p calls s (as_elem elem.Uint x) (number elem.Uint a) (number elem.Uint (unary_word Not a)) (as_elem_says p calls s elem.Uint x a tt hx) refl
    flipped_says elem.Bool x a he hx = absurd he

    reversed_says : (e : Elem) (x : Operand) (a : ℕ) → IsNumeric e → Stands p calls s x a → S (written.function_of e BitfieldReverse x) (number e (unary_word BitReverse a))
    reversed_says elem.Int x a he hx = one_says BitfieldReverse elem.Int x a (number elem.Int (unary_word BitReverse a)) tt hx refl
    reversed_says elem.Uint x a he hx = one_says BitfieldReverse elem.Uint x a (number elem.Uint (unary_word BitReverse a)) tt hx refl
    reversed_says elem.Bool x a he hx = absurd he

    negated_says : (e : Elem) (x : Operand) (a : ℕ) → IsNumeric e → Stands p calls s x a → S (tree.binary Sub (literal (literal_of e 0)) (as_elem e x)) (number e (unary_word SNegate a))
    negated_says elem.Int x a he hx =
        subst (λ n. S (tree.binary Sub (literal (literal_of elem.Int 0)) (as_elem elem.Int x)) (number elem.Int n)) (negated_word a)
        (says_binary p calls s Sub (literal (literal_of elem.Int 0)) (as_elem elem.Int x) (number elem.Int 0) (number elem.Int a) (number elem.Int ((0 + (2 ^ 32 - a)) % 2 ^ 32)) refl refl (as_elem_says p calls s elem.Int x a tt hx) refl)
    negated_says elem.Uint x a he hx =
        subst (λ n. S (tree.binary Sub (literal (literal_of elem.Uint 0)) (as_elem elem.Uint x)) (number elem.Uint n)) (negated_word a)
        (says_binary p calls s Sub (literal (literal_of elem.Uint 0)) (as_elem elem.Uint x) (number elem.Uint 0) (number elem.Uint a) (number elem.Uint ((0 + (2 ^ 32 - a)) % 2 ^ 32)) refl refl (as_elem_says p calls s elem.Uint x a tt hx) refl)
    negated_says elem.Bool x a he hx = absurd he

    -- each operation on one number as it is written
    pub unary_says : (o : Unary) (x : Operand) (a : ℕ) → Stands p calls s x a → a < 2 ^ 32 → S (written.unary o (scalar g) x) (number g (unary_word o a))
    unary_says SNegate x a hx la = negated_says g x a numbers hx
    unary_says Not x a hx la = flipped_says g x a numbers hx
    unary_says BitReverse x a hx la = reversed_says g x a numbers hx
    unary_says BitCount x a hx la = as_result p calls s g numbers elem.Int _ (unary_word BitCount a) tt (call_says CountBits (x.expr ∷ []) (number hx.elem a ∷ []) (number elem.Int (unary_word BitCount a)) (hx.says, tt) (counted hx.elem a hx.is_numeric))
    unary_says SAbs x a hx la = as_result p calls s g numbers elem.Uint _ (unary_word SAbs a) tt (subst (λ n. S (division.magnitude x) (number elem.Uint n)) (magnitude_is a la) (magnitude_says p calls s x a (is_number p calls s x a hx)))
    unary_says SSign x a hx la = as_result p calls s g numbers elem.Int _ (unary_word SSign a) tt (one_says Sign elem.Int x a (number elem.Int (unary_word SSign a)) tt hx refl)
    unary_says FindILsb x a hx la = as_result p calls s g numbers elem.Int _ (unary_word FindILsb a) tt (one_says FindLsb elem.Uint x a (number elem.Int (unary_word FindILsb a)) tt hx refl)
    unary_says FindSMsb x a hx la = as_result p calls s g numbers elem.Int _ (unary_word FindSMsb a) tt (one_says FindMsb elem.Int x a (number elem.Int (unary_word FindSMsb a)) tt hx refl)
    unary_says FindUMsb x a hx la = as_result p calls s g numbers elem.Int _ (unary_word FindUMsb a) tt (one_says FindMsb elem.Uint x a (number elem.Int (unary_word FindUMsb a)) tt hx refl)

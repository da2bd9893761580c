-- The least and the greatest of scalar numbers, bounds on them, and their bit fields, as they are written.
use Rattle.std.proofs.Common.{◌≡◌, ℕ, ◌^◌, ◌<◌, Bool, true, false, cond, List, [], ◌∷◌, Option, Some, refl, sym, ap, ◌∙◌}
use Rattle.std.specs.Prelude.{ℤ, int_lt, option_map}
use Rattle.std.specs.Int.{w32, int_max, int_min}
use Rattle.std.proofs.lemmas.Int.{of_z-to_z}
use Rattle.spv_module.specs.declared.tree.Elem.{Elem}
use Rattle.spv_module.specs.declared.tree.Elem.TheVariants as elem
use Rattle.spv_types.specs.Tree.{word}
use Rattle.glsl_ast.specs.Tree.{Text, Expr}
use Rattle.op_semantics.specs.declared.operation.Binary.{Binary}
use Rattle.op_semantics.specs.declared.operation.Binary.TheVariants.{UMin, SMin, UMax, SMax}
use Rattle.op_semantics.specs.declared.operation.Clamp.{Clamp}
use Rattle.op_semantics.specs.declared.operation.Clamp.TheVariants.{UClamp, SClamp}
use Rattle.op_semantics.specs.Word.{signed, word_of, binary_word, clamp_word, bit_field_signed, bit_field_unsigned, bit_field_insert}
use Rattle.int_lowering.specs.declared.built_ins.BuiltIn.TheVariants.{Min, Max, BitfieldInsert, BitfieldExtract}
use Rattle.int_lowering.specs.Operand.{Operand, scalar, as_elem, as_int}
use Rattle.int_lowering.specs.Lowered as written
use Rattle.traces.specs.Outcomes.{Result}
use Rattle.glsl_semantics.specs.Shapes.{Typed, typed, scalar as shape_of_elem}
use Rattle.glsl_semantics.specs.States.{State}
use Rattle.glsl_semantics.specs.Functions.{pure_value, min_of, max_of, field_of}
use Rattle.glsl_semantics.specs.Expressions.{Program, Argument}
use Rattle.lowering_law.specs.Says.{Says}
use Rattle.lowering_law.specs.Stands.{Stands}
use Rattle.lowering_law.specs.Numbers.{IsNumeric, IsBound, number}
use Rattle.lowering_law.specs.BuiltIns.{function_of, NoneDeclared}
use Rattle.lowering_law.proofs.Operands.{as_elem_says, as_result}
use Rattle.lowering_law.proofs.Functions.{call_says, two_say}

least : (e : Elem) (a b r : ℕ) → IsNumeric e → binary_word (min_of e) a b ≡ Some r → pure_value (function_of Min) (number e a ∷ number e b ∷ []) ≡ Some (number e r)
least elem.Int a b r he h = ap (λ q. option_map (typed (shape_of_elem elem.Int)) (option_map word q)) h
least elem.Uint a b r he h = ap (λ q. option_map (typed (shape_of_elem elem.Uint)) (option_map word q)) h
least elem.Bool a b r he h = absurd he

greatest : (e : Elem) (a b r : ℕ) → IsNumeric e → binary_word (max_of e) a b ≡ Some r → pure_value (function_of Max) (number e a ∷ number e b ∷ []) ≡ Some (number e r)
greatest elem.Int a b r he h = ap (λ q. option_map (typed (shape_of_elem elem.Int)) (option_map word q)) h
greatest elem.Uint a b r he h = ap (λ q. option_map (typed (shape_of_elem elem.Uint)) (option_map word q)) h
greatest elem.Bool a b r he h = absurd he

-- the word of a word's number is the word
back : (z : ℤ) (a : ℕ) → a < 2 ^ 32 → z ≡ signed a → signed (word_of z) ≡ z
back z a h e = ap (λ y. signed (word_of y)) e ∙ ap signed (of_z-to_z w32 a h) ∙ sym e

greater_back : (a b : ℕ) → a < 2 ^ 32 → b < 2 ^ 32 → signed (word_of (int_max (signed a) (signed b))) ≡ int_max (signed a) (signed b)
greater_back a b la lb = by_order (int_lt (signed b) (signed a))
  where
    by_order : (t : Bool) → signed (word_of (cond t (signed a) (signed b))) ≡ cond t (signed a) (signed b)
    by_order true = back (signed a) a la refl
    by_order false = back (signed b) b lb refl

-- a bit field of a number is one of its word
extracted_field : (e : Elem) (a b c r : ℕ) → IsNumeric e → field_of e b c a ≡ Some r → pure_value (function_of BitfieldExtract) (number e a ∷ number elem.Int b ∷ number elem.Int c ∷ []) ≡ Some (number e r)
extracted_field elem.Int a b c r he h = ap (λ q. option_map (typed (shape_of_elem elem.Int)) (option_map word q)) h
extracted_field elem.Uint a b c r he h = ap (λ q. option_map (typed (shape_of_elem elem.Uint)) (option_map word q)) h
extracted_field elem.Bool a b c r he h = absurd he

inserted_field : (e : Elem) (a b c d r : ℕ) → IsNumeric e → bit_field_insert c d a b ≡ Some r → pure_value (function_of BitfieldInsert) (number e a ∷ number e b ∷ number elem.Int c ∷ number elem.Int d ∷ []) ≡ Some (number e r)
inserted_field elem.Int a b c d r he h = ap (λ q. option_map (typed (shape_of_elem elem.Int)) (option_map word q)) h
inserted_field elem.Uint a b c d r he h = ap (λ q. option_map (typed (shape_of_elem elem.Uint)) (option_map word q)) h
inserted_field elem.Bool a b c d r he h = absurd he

module _ (p : Program) (none : NoneDeclared p) (calls : Text → List Argument → State → Result (Option Typed × State)) (s : State) where
  abbrev S : Expr → Typed → Type 0
  S = Says p calls s

  least_says : (e : Elem) (x y : Operand) (a b r : ℕ) → IsNumeric e → Stands p calls s x a → Stands p calls s y b → binary_word (min_of e) a b ≡ Some r → S (written.function_of_both e Min x y) (number e r)
  least_says e x y a b r he hx hy h = two_say p none calls s Min e x y a b (number e r) he hx hy (least e a b r he h)

  greatest_says : (e : Elem) (x y : Operand) (a b r : ℕ) → IsNumeric e → Stands p calls s x a → Stands p calls s y b → binary_word (max_of e) a b ≡ Some r → S (written.function_of_both e Max x y) (number e r)
  greatest_says e x y a b r he hx hy h = two_say p none calls s Max e x y a b (number e r) he hx hy (greatest e a b r he h)

  -- the least of a bound and the greatest of a number and another bound
  bounded_says : (e : Elem) (x low high : Operand) (a b c m r : ℕ) → IsNumeric e → Stands p calls s x a → Stands p calls s low b → Stands p calls s high c → binary_word (max_of e) a b ≡ Some m → binary_word (min_of e) m c ≡ Some r → S (written.clamped e x low high) (number e r)
  bounded_says e x low high a b c m r he hx hl hh at_least at_most =
      call_says p none calls s Min (written.function_of_both e Max x low ∷ as_elem e high ∷ []) (number e m ∷ number e c ∷ []) (number e r)
      (greatest_says e x low a b m he hx hl at_least, (as_elem_says p calls s e high c he hh, tt)) (least e m c r he at_most)

  module _ (g : Elem) (numbers : IsNumeric g) where
    pub bound_says : (o : Binary) (x y : Operand) (a b r : ℕ) → IsBound o → Stands p calls s x a → Stands p calls s y b → binary_word o a b ≡ Some r → S (written.binary o (scalar g) x y) (number g r)
    bound_says UMin x y a b r is hx hy h = as_result p calls s g numbers elem.Uint (written.function_of_both elem.Uint Min x y) r tt (least_says elem.Uint x y a b r tt hx hy h)
    bound_says SMin x y a b r is hx hy h = as_result p calls s g numbers elem.Int (written.function_of_both elem.Int Min x y) r tt (least_says elem.Int x y a b r tt hx hy h)
    bound_says UMax x y a b r is hx hy h = as_result p calls s g numbers elem.Uint (written.function_of_both elem.Uint Max x y) r tt (greatest_says elem.Uint x y a b r tt hx hy h)
    bound_says SMax x y a b r is hx hy h = as_result p calls s g numbers elem.Int (written.function_of_both elem.Int Max x y) r tt (greatest_says elem.Int x y a b r tt hx hy h)
    bound_says _ x y a b r is hx hy h = absurd is

    pub clamp_says : (o : Clamp) (x low high : Operand) (a b c : ℕ) → Stands p calls s x a → Stands p calls s low b → Stands p calls s high c → a < 2 ^ 32 → b < 2 ^ 32 → S (written.clamp o (scalar g) x low high) (number g (clamp_word o a b c))
    clamp_says UClamp x low high a b c hx hl hh la lb = as_result p calls s g numbers elem.Uint (written.clamped elem.Uint x low high) (clamp_word UClamp a b c) tt (bounded_says elem.Uint x low high a b c _ (clamp_word UClamp a b c) tt hx hl hh refl refl)
    clamp_says SClamp x low high a b c hx hl hh la lb =
        as_result p calls s g numbers elem.Int (written.clamped elem.Int x low high) (clamp_word SClamp a b c) tt
        (bounded_says elem.Int x low high a b c (word_of (int_max (signed a) (signed b))) (clamp_word SClamp a b c) tt hx hl hh refl
        (ap (λ z. Some (word_of (int_min z (signed c)))) (greater_back a b la lb)))

    extract_says : (e : Elem) (x offset count : Operand) (a b c r : ℕ) → IsNumeric e → Stands p calls s x a → Stands p calls s offset b → Stands p calls s count c → field_of e b c a ≡ Some r → S (written.extracted e (scalar g) x offset count) (number g r)
    extract_says e x offset count a b c r he hx ho hc h =
        as_result p calls s g numbers e _ r he
        (call_says p none calls s BitfieldExtract (as_elem e x ∷ as_int offset ∷ as_int count ∷ []) (number e a ∷ number elem.Int b ∷ number elem.Int c ∷ []) (number e r)
        (as_elem_says p calls s e x a he hx, (as_elem_says p calls s elem.Int offset b tt ho, (as_elem_says p calls s elem.Int count c tt hc, tt))) (extracted_field e a b c r he h))

    pub signed_field_says : (x offset count : Operand) (a b c r : ℕ) → Stands p calls s x a → Stands p calls s offset b → Stands p calls s count c → bit_field_signed b c a ≡ Some r → S (written.extracted elem.Int (scalar g) x offset count) (number g r)
    signed_field_says x offset count a b c r hx ho hc h = extract_says elem.Int x offset count a b c r tt hx ho hc h

    pub unsigned_field_says : (x offset count : Operand) (a b c r : ℕ) → Stands p calls s x a → Stands p calls s offset b → Stands p calls s count c → bit_field_unsigned b c a ≡ Some r → S (written.extracted elem.Uint (scalar g) x offset count) (number g r)
    unsigned_field_says x offset count a b c r hx ho hc h = extract_says elem.Uint x offset count a b c r tt hx ho hc h

    pub insert_says : (x y offset count : Operand) (a b c d r : ℕ) → Stands p calls s x a → Stands p calls s y b → Stands p calls s offset c → Stands p calls s count d → bit_field_insert c d a b ≡ Some r → S (written.inserted g x y offset count) (number g r)
    insert_says x y offset count a b c d r hx hy ho hc h =
        call_says p none calls s BitfieldInsert (as_elem g x ∷ as_elem g y ∷ as_int offset ∷ as_int count ∷ []) (number g a ∷ number g b ∷ number elem.Int c ∷ number elem.Int d ∷ []) (number g r)
        (as_elem_says p calls s g x a numbers hx, (as_elem_says p calls s g y b numbers hy, (as_elem_says p calls s elem.Int offset c tt ho, (as_elem_says p calls s elem.Int count d tt hc, tt)))) (inserted_field g a b c d r numbers h)

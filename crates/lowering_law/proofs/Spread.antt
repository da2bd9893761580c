-- A scalar beside a vector stands for each of its components: negations and shifts of vectors.
use Rattle.std.proofs.Common.{◌≡◌, ◌==◌, ◌&&◌, ◌||◌, ◌%◌, not, ℕ, true, false, List, [], ◌∷◌, length, map, replicate, Option, Some, None, refl, sym, ap, ◌∙◌, subst, inl, inr}
use Rattle.std.specs.Prelude.{option_map, if◌then◌else◌}
use Rattle.std.proofs.lemmas.Bool.Decides.{eqb_tells}
use Rattle.spv_module.specs.declared.tree.Elem.{Elem}
use Rattle.spv_module.specs.declared.tree.Elem.TheVariants as elem
use Rattle.spv_types.specs.Tree.{ValueTree, truth, word, many, ValueTrees, no_values, value, values_in}
use Rattle.spv_types.specs.Leaves.{times}
use Rattle.glsl_ast.specs.Tree.{Text, Expr, literal}
use Rattle.glsl_ast.specs.Tree as tree
use Rattle.glsl_ast.specs.declared.expressions.BinOp.{BinOp}
use Rattle.glsl_ast.specs.declared.expressions.BinOp.TheVariants.{Sub, And, Shl, Shr}
use Rattle.op_semantics.specs.declared.operation.Unary.TheVariants.{SNegate}
use Rattle.op_semantics.specs.declared.operation.Binary.{Binary}
use Rattle.op_semantics.specs.declared.operation.Binary.TheVariants.{ShiftRightLogical, ShiftRightArithmetic, ShiftLeftLogical}
use Rattle.op_semantics.specs.Word.{binary_word}
use Rattle.op_semantics.specs.Component.{listed, composite, before, each_one, each_two, by_one, by_two, unary_scalar, binary_scalar}
use Rattle.int_lowering.specs.Operand.{Operand, as_elem, as_uint, literal_of}
use Rattle.int_lowering.specs.Operator.{modulo_32, shift_amount}
use Rattle.int_lowering.specs.Lowered as written
use Rattle.traces.specs.Outcomes.{Result}
use Rattle.glsl_semantics.specs.Shapes.{vector, Typed, typed, scalar as shape_of_elem}
use Rattle.glsl_semantics.specs.States.{State}
use Rattle.glsl_semantics.specs.Operators.{shift, operator_kind, operated_by, operated, word_operator, on_words, by_components, common_count, shift_count}
use Rattle.glsl_semantics.specs.Expressions.{Program, Argument, settling}
use Rattle.list_law.proofs.Numbers.{number_itself}
use Rattle.fits_law.proofs.Parts.{listed_values}
use Rattle.lowering_law.specs.Says.{Says}
use Rattle.lowering_law.specs.Numbers.{IsNumeric, number}
use Rattle.lowering_law.specs.Stands.{AreWords, IsVectorOf, StandsVector, vector_type}
use Rattle.lowering_law.proofs.Saying.{says_literal, says_binary}
use Rattle.lowering_law.proofs.Operands.{literal_number}
use Rattle.lowering_law.proofs.Functions.{negated_word}
use Rattle.lowering_law.proofs.Lowered.{mask_31, left_by, right_by, signed_right_by}
use Rattle.lowering_law.proofs.Vectors.{each_one_alike, as_vector_says, converted_vector}
use Rattle.lowering_law.proofs.Whole.{words_listed}

each_copies : (f : ValueTree → ValueTree → Option ValueTree) (u : ValueTree) (vs : List ValueTree) → each_two f (replicate (length vs) u) vs ≡ each_one (f u) vs
each_copies f u [] = refl
each_copies f u (v ∷ vs) = ap (before (f u v)) (each_copies f u vs)

each_with : (f : ValueTree → ValueTree → Option ValueTree) (u : ValueTree) (vs : List ValueTree) → each_two f vs (replicate (length vs) u) ≡ each_one (λ v. f v u) vs
each_with f u [] = refl
each_with f u (v ∷ vs) = ap (before (f v u)) (each_with f u vs)

not_one : (n : ℕ) → (n == 1) ≡ false → (1 == n) ≡ false
not_one n e = elim (eqb_tells 1 n) [ inl w ↦ let one : (n == 1) ≡ true = ap (λ k. k == 1) (sym w.1) in let never : true ≡ false = sym one ∙ e in cc | inr w ↦ w.0 ]

-- the scalar first, and second
by_first : (o : BinOp) (e : Elem) (n : ℕ) (u w : ValueTree) → (n == 1) ≡ false → by_components o e 1 n u w (common_count 1 n) ≡ option_map (typed (vector e n)) (by_two (on_words (word_operator o e)) (times n u) w)
by_first o e n u w more =
    ap (λ t. by_components o e 1 n u w (if t then Some 1 else (if 1 == 1 then Some n else (if n == 1 then Some 1 else None)))) (not_one n more)
    ∙ ap (λ t. option_map (typed (if t then shape_of_elem e else vector e n)) (by_two (on_words (word_operator o e)) (if (1 == 1) && not t then times n u else u) (if t && not t then times n w else w))) more

by_second : (o : BinOp) (e : Elem) (n : ℕ) (w u : ValueTree) → (n == 1) ≡ false → by_components o e n 1 w u (common_count n 1) ≡ option_map (typed (vector e n)) (by_two (on_words (word_operator o e)) w (times n u))
by_second o e n w u more =
    ap (λ t. by_components o e n 1 w u (if t then Some n else (if t then Some 1 else (if 1 == 1 then Some n else None)))) more
    ∙ ap (λ t. option_map (typed (if t then shape_of_elem e else vector e n)) (by_two (on_words (word_operator o e)) (if t && not t then times n w else w) (if (1 == 1) && not t then times n u else u))) more

-- two vectors, of which the second is the amounts of a shift
by_amounts : (o : BinOp) (e : Elem) (n : ℕ) (v w : ValueTree) → (n == 1) ≡ false → by_components o e n n v w (shift_count n n) ≡ option_map (typed (vector e n)) (by_two (on_words (word_operator o e)) v w)
by_amounts o e n v w more =
    ap (λ t. by_components o e n n v w (if t || (n == 1) then Some n else None)) (number_itself n)
    ∙ ap (λ t. option_map (typed (if t then shape_of_elem e else vector e n)) (by_two (on_words (word_operator o e)) (if t && not t then times n v else v) (if t && not t then times n w else w))) more

-- 0 - v
minus_alike : (e : Elem) (v : ValueTree) → on_words (word_operator Sub e) (word 0) v ≡ unary_scalar SNegate v
minus_alike e (word a) = ap (λ k. Some (word k)) (negated_word a)
minus_alike e (truth t) = refl
minus_alike e (many vs) = refl

minus_vector : (e : Elem) (n : ℕ) (vs : ValueTrees) (r : ValueTree) → IsNumeric e → (n == 1) ≡ false → length (listed vs) ≡ n → by_one (unary_scalar SNegate) (many vs) ≡ Some r → operated Sub (number e 0) (typed (vector e n) (many vs)) ≡ Some (typed (vector e n) r)
minus_vector e n vs r he more count h = by_elem e he ∙ (by_first Sub e n (word 0) (many vs) more ∙ ap (option_map (typed (vector e n))) (ap (option_map composite) parts ∙ h))
  where
    parts : each_two (on_words (word_operator Sub e)) (listed (values_in (replicate n (word 0)))) (listed vs) ≡ each_one (unary_scalar SNegate) (listed vs)
    parts =
        ap (λ us. each_two (on_words (word_operator Sub e)) us (listed vs)) (listed_values (replicate n (word 0)))
        ∙ (ap (λ k. each_two (on_words (word_operator Sub e)) (replicate k (word 0)) (listed vs)) (sym count)
        ∙ (each_copies (on_words (word_operator Sub e)) (word 0) (listed vs) ∙ each_one_alike (on_words (word_operator Sub e) (word 0)) (unary_scalar SNegate) (minus_alike e) (listed vs)))

    by_elem : (e : Elem) → IsNumeric e → operated Sub (number e 0) (typed (vector e n) (many vs)) ≡ by_components Sub e 1 n (word 0) (many vs) (common_count 1 n)
    by_elem elem.Int he = refl
    by_elem elem.Uint he = refl
    by_elem elem.Bool he = absurd he

-- the amounts of a shift, modulo 32
abbrev modulo : ValueTree → ValueTree
modulo (word b) = word (b % 32)
modulo v = v

amounts_are : (ws : ValueTrees) → AreWords ws → each_one (λ w. on_words (word_operator And elem.Uint) w (word 31)) (listed ws) ≡ Some (map modulo (listed ws))
amounts_are no_values a = refl
amounts_are (value (word b) ws) a =
    ap (λ k. before (Some (word k)) (each_one (λ w. on_words (word_operator And elem.Uint) w (word 31)) (listed ws))) (mask_31 b)
    ∙ ap (before (Some (word (b % 32)))) (amounts_are ws a)
amounts_are (value (truth t) ws) a = absurd a
amounts_are (value (many us) ws) a = absurd a

shifted_alike : (o : BinOp) (op : Binary) (e : Elem) → ((a b : ℕ) → word_operator o e a (b % 32) ≡ binary_word op a b) → (vs : List ValueTree) (ws : ValueTrees) → AreWords ws → each_two (on_words (word_operator o e)) vs (map modulo (listed ws)) ≡ each_two (binary_scalar op) vs (listed ws)
shifted_alike o op e same [] no_values a = refl
shifted_alike o op e same [] (value w ws) a = refl
shifted_alike o op e same (v ∷ vs) no_values a = refl
shifted_alike o op e same (v ∷ vs) (value (word b) ws) a = ap (λ q. before q (each_two (on_words (word_operator o e)) vs (map modulo (listed ws)))) (one v) ∙ ap (before (binary_scalar op v (word b))) (shifted_alike o op e same vs ws a)
  where
    one : (v : ValueTree) → on_words (word_operator o e) v (word (b % 32)) ≡ binary_scalar op v (word b)
    one (word c) = ap (option_map word) (same c b)
    one (truth t) = refl
    one (many us) = refl
shifted_alike o op e same (v ∷ vs) (value (truth t) ws) a = absurd a
shifted_alike o op e same (v ∷ vs) (value (many us) ws) a = absurd a

module _ (p : Program) (calls : Text → List Argument → State → Result (Option Typed × State)) (s : State) where
  abbrev S : Expr → Typed → Type 0
  S = Says p calls s

  -- OpSNegate on a vector
  pub minus_says : (g e : Elem) (n : ℕ) (x : Operand) (vs : ValueTrees) (r : ValueTree) → IsNumeric g → (n == 1) ≡ false → StandsVector p calls s x e n vs → by_one (unary_scalar SNegate) (many vs) ≡ Some r → S (written.unary SNegate (vector_type g n) x) (typed (vector g n) r)
  minus_says g e n x vs r hg more hx h =
      says_binary p calls s Sub (literal (literal_of g 0)) (as_elem g x) (number g 0) (typed (vector g n) (many vs)) (typed (vector g n) r) refl
      (subst (S (literal (literal_of g 0))) (literal_number g 0 hg) (says_literal p calls s (literal_of g 0))) (as_vector_says p calls s g e n x vs hg more hx) (minus_vector g n vs r hg more hx.count h)

  amounts_say : (e : Elem) (n : ℕ) (y : Operand) (ws : ValueTrees) → (n == 1) ≡ false → StandsVector p calls s y e n ws → S (shift_amount y) (typed (vector elem.Uint n) (composite (map modulo (listed ws))))
  amounts_say e n y ws more hy = subst (λ q. S q (typed (vector elem.Uint n) (composite (map modulo (listed ws))))) (sym no_literal) masked_says
    where
      no_literal : shift_amount y ≡ modulo_32 y
      no_literal = rw hy.no_word refl

      parts : by_two (on_words (word_operator And elem.Uint)) (many ws) (times n (word 31)) ≡ Some (composite (map modulo (listed ws)))
      parts = ap (option_map composite) (
          ap (each_two (on_words (word_operator And elem.Uint)) (listed ws)) (listed_values (replicate n (word 31)))
          ∙ (ap (λ k. each_two (on_words (word_operator And elem.Uint)) (listed ws) (replicate k (word 31))) (sym hy.count)
          ∙ (each_with (on_words (word_operator And elem.Uint)) (word 31) (listed ws) ∙ amounts_are ws hy.words)))

      masked_says : S (modulo_32 y) (typed (vector elem.Uint n) (composite (map modulo (listed ws))))
      masked_says =
          says_binary p calls s And (as_uint y) (literal (literal_of elem.Uint 31)) (typed (vector elem.Uint n) (many ws)) (number elem.Uint 31) (typed (vector elem.Uint n) (composite (map modulo (listed ws)))) refl
          (as_vector_says p calls s elem.Uint e n y ws tt more hy) refl (by_second And elem.Uint n (many ws) (word 31) more ∙ ap (option_map (typed (vector elem.Uint n))) parts)

  module _ (d e : Elem) (n : ℕ) (more : (n == 1) ≡ false) (x y : Operand) (vs ws : ValueTrees) (hx : StandsVector p calls s x d n vs) (hy : StandsVector p calls s y e n ws) where
    shifted_says : (o : BinOp) (op : Binary) (g : Elem) (r : ValueTree) → IsNumeric g → operator_kind o ≡ shift → settling o ≡ None → ((a b : ℕ) → word_operator o g a (b % 32) ≡ binary_word op a b) → by_two (binary_scalar op) (many vs) (many ws) ≡ Some r
        → S (tree.binary o (as_elem g x) (shift_amount y)) (typed (vector g n) r)
    shifted_says o op g r hg kind both same h =
        says_binary p calls s o (as_elem g x) (shift_amount y) (typed (vector g n) (many vs)) (typed (vector elem.Uint n) (composite (map modulo (listed ws)))) (typed (vector g n) r) both
        (as_vector_says p calls s g d n x vs hg more hx) (amounts_say e n y ws more hy)
        (ap (λ k. operated_by k o (vector g n) (vector elem.Uint n) (many vs) (composite (map modulo (listed ws)))) kind ∙ (by_elem g hg ∙ (by_amounts o g n (many vs) (composite (map modulo (listed ws))) more ∙ ap (option_map (typed (vector g n))) (ap (option_map composite) parts ∙ h))))
      where
        parts : each_two (on_words (word_operator o g)) (listed vs) (listed (values_in (map modulo (listed ws)))) ≡ each_two (binary_scalar op) (listed vs) (listed ws)
        parts = ap (each_two (on_words (word_operator o g)) (listed vs)) (listed_values (map modulo (listed ws))) ∙ shifted_alike o op g same (listed vs) ws hy.words

        by_elem : (g : Elem) → IsNumeric g → operated_by shift o (vector g n) (vector elem.Uint n) (many vs) (composite (map modulo (listed ws))) ≡ by_components o g n n (many vs) (composite (map modulo (listed ws))) (shift_count n n)
        by_elem elem.Int he = refl
        by_elem elem.Uint he = refl
        by_elem elem.Bool he = absurd he

    -- the shifts of vectors, by the amounts modulo 32
    pub left_says : (g : Elem) (r : ValueTree) → IsNumeric g → by_two (binary_scalar ShiftLeftLogical) (many vs) (many ws) ≡ Some r → S (written.binary ShiftLeftLogical (vector_type g n) x y) (typed (vector g n) r)
    left_says g r hg h = shifted_says Shl ShiftLeftLogical g r hg refl refl (left_by g) h

    pub right_says : (g : Elem) (r : ValueTree) → IsNumeric g → IsVectorOf g n r → by_two (binary_scalar ShiftRightLogical) (many vs) (many ws) ≡ Some r → S (written.binary ShiftRightLogical (vector_type g n) x y) (typed (vector g n) r)
    right_says g (many rs) hg is h = converted_vector p calls s elem.Uint g n _ rs tt hg (words_listed g rs hg is.0) is.1 more (shifted_says Shr ShiftRightLogical elem.Uint (many rs) tt refl refl right_by h)
    right_says g (word a) hg is h = absurd is
    right_says g (truth t) hg is h = absurd is

    pub signed_right_says : (g : Elem) (r : ValueTree) → IsNumeric g → IsVectorOf g n r → by_two (binary_scalar ShiftRightArithmetic) (many vs) (many ws) ≡ Some r → S (written.binary ShiftRightArithmetic (vector_type g n) x y) (typed (vector g n) r)
    signed_right_says g (many rs) hg is h = converted_vector p calls s elem.Int g n _ rs tt hg (words_listed g rs hg is.0) is.1 more (shifted_says Shr ShiftRightArithmetic elem.Int (many rs) tt refl refl signed_right_by h)
    signed_right_says g (word a) hg is h = absurd is
    signed_right_says g (truth t) hg is h = absurd is

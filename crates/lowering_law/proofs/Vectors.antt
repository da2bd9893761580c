-- Operators on vectors of numbers go by component, as the operations of a module do.
use Rattle.std.proofs.Common.{◌≡◌, ℕ, false, List, [], ◌∷◌, Option, Some, None, refl, sym, ap, ◌∙◌, subst, append-nil}
use Rattle.std.specs.Prelude.{◌==◌, ◌&&◌, not, length, option_map, option_and_then, if◌then◌else◌}
use Rattle.spv_module.specs.declared.tree.Elem.{Elem}
use Rattle.spv_module.specs.declared.tree.Elem.TheVariants as elem
use Rattle.spv_types.specs.Tree.{ValueTree, truth, word, many, ValueTrees, no_values, value}
use Rattle.spv_types.specs.Leaves.{times}
use Rattle.glsl_ast.specs.Tree.{Text, Expr, expr, no_exprs}
use Rattle.glsl_ast.specs.Tree as tree
use Rattle.glsl_ast.specs.declared.expressions.BinOp.{BinOp}
use Rattle.glsl_ast.specs.declared.expressions.BinOp.TheVariants.{Add, Sub, Mul, And, Or, Xor}
use Rattle.op_semantics.specs.declared.operation.Unary.TheVariants.{Not}
use Rattle.op_semantics.specs.declared.operation.Binary.{Binary}
use Rattle.op_semantics.specs.declared.operation.Binary.TheVariants.{IAdd, ISub, IMul, BitwiseOr, BitwiseXor, BitwiseAnd}
use Rattle.op_semantics.specs.Word.{binary_word}
use Rattle.op_semantics.specs.Component.{listed, composite, before, each_one, each_two, by_one, by_two, unary_scalar, binary_scalar}
use Rattle.int_lowering.specs.Operand.{Operand, type_named, converted, as_elem}
use Rattle.int_lowering.specs.Lowered as written
use Rattle.traces.specs.Outcomes.{Result}
use Rattle.glsl_semantics.specs.Shapes.{vector, scalar, Typed, typed}
use Rattle.glsl_semantics.specs.States.{State}
use Rattle.glsl_semantics.specs.Operators.{numeric, operator_kind, operated_by, operated, word_operator, on_words, by_components, flipped_word, flipped}
use Rattle.glsl_semantics.specs.Functions.{as_elem as component_as, filled, vector_of}
use Rattle.glsl_semantics.specs.Expressions.{Program, Argument, settling}
use Rattle.list_law.proofs.Numbers.{number_itself}
use Rattle.fits_law.proofs.Parts.{listed_back}
use Rattle.lowering_law.specs.Says.{Says}
use Rattle.lowering_law.specs.Numbers.{IsNumeric, IsPlain}
use Rattle.lowering_law.specs.Stands.{AreWords, StandsVector, vector_type}
use Rattle.lowering_law.proofs.Saying.{says_flip, says_binary, says_build}

each_two_alike : (f g : ValueTree → ValueTree → Option ValueTree) → ((v w : ValueTree) → f v w ≡ g v w) → (vs ws : List ValueTree) → each_two f vs ws ≡ each_two g vs ws
each_two_alike f g same [] [] = refl
each_two_alike f g same [] (w ∷ ws) = refl
each_two_alike f g same (v ∷ vs) [] = refl
each_two_alike f g same (v ∷ vs) (w ∷ ws) = ap (λ q. before q (each_two f vs ws)) (same v w) ∙ ap (before (g v w)) (each_two_alike f g same vs ws)

words_alike : (f : ℕ → ℕ → Option ℕ) (o : Binary) → ((a b : ℕ) → f a b ≡ binary_word o a b) → (v w : ValueTree) → on_words f v w ≡ binary_scalar o v w
words_alike f o same (word a) (word b) = ap (option_map word) (same a b)
words_alike f o same (word a) (truth t) = refl
words_alike f o same (word a) (many ws) = refl
words_alike f o same (truth t) w = refl
words_alike f o same (many vs) w = refl

-- operands of as many components, more than one, stay as they are
pub by_component : (o : BinOp) (e : Elem) (n : ℕ) (v w : ValueTree) → (n == 1) ≡ false
    → by_components o e n n v w (if n == n then Some n else (if n == 1 then Some n else (if n == 1 then Some n else None))) ≡ option_map (typed (vector e n)) (by_two (on_words (word_operator o e)) v w)
by_component o e n v w more =
    ap (λ t. by_components o e n n v w (if t then Some n else (if n == 1 then Some n else (if n == 1 then Some n else None)))) (number_itself n)
    ∙ ap (λ t. option_map (typed (if t then scalar e else vector e n)) (by_two (on_words (word_operator o e)) (if t && not t then times n v else v) (if t && not t then times n w else w))) more

on_vectors : (o : BinOp) (op : Binary) (e : Elem) (n : ℕ) (vs ws : ValueTrees) (r : ValueTree) → IsNumeric e → (n == 1) ≡ false → operator_kind o ≡ numeric → ((a b : ℕ) → word_operator o e a b ≡ binary_word op a b)
    → by_two (binary_scalar op) (many vs) (many ws) ≡ Some r → operated o (typed (vector e n) (many vs)) (typed (vector e n) (many ws)) ≡ Some (typed (vector e n) r)
on_vectors o op e n vs ws r he more kind same h = ap (λ k. operated_by k o (vector e n) (vector e n) (many vs) (many ws)) kind ∙ by_elem e he ∙ by_component o e n (many vs) (many ws) more ∙ ap (option_map (typed (vector e n))) (alike ∙ h)
  where
    alike : by_two (on_words (word_operator o e)) (many vs) (many ws) ≡ by_two (binary_scalar op) (many vs) (many ws)
    alike = ap (option_map composite) (each_two_alike (on_words (word_operator o e)) (binary_scalar op) (words_alike (word_operator o e) op same) (listed vs) (listed ws))

    by_elem : (e : Elem) → IsNumeric e → operated_by numeric o (vector e n) (vector e n) (many vs) (many ws) ≡ by_components o e n n (many vs) (many ws) (if n == n then Some n else (if n == 1 then Some n else (if n == 1 then Some n else None)))
    by_elem elem.Int he = refl
    by_elem elem.Uint he = refl
    by_elem elem.Bool he = absurd he

filled_whole : (vs : List ValueTree) → (length vs == 1) ≡ false → filled (length vs) vs ≡ Some vs
filled_whole [] more = refl
filled_whole (v ∷ []) more = cc
filled_whole (v ∷ (w ∷ vs)) more = ap (λ t. if t then Some (v ∷ (w ∷ vs)) else None) (number_itself (length (v ∷ (w ∷ vs))))

pub filled_is : (n : ℕ) (vs : List ValueTree) → length vs ≡ n → (n == 1) ≡ false → filled n vs ≡ Some vs
filled_is n vs count = subst (λ n. (n == 1) ≡ false → filled n vs ≡ Some vs) count (filled_whole vs)

each_word : (e : Elem) (vs : ValueTrees) → IsNumeric e → AreWords vs → each_one (component_as e) (listed vs) ≡ Some (listed vs)
each_word e no_values he h = refl
each_word elem.Int (value (word a) vs) he h = ap (before (Some (word a))) (each_word elem.Int vs he h)
each_word elem.Uint (value (word a) vs) he h = ap (before (Some (word a))) (each_word elem.Uint vs he h)
each_word elem.Bool (value (word a) vs) he h = absurd he
each_word e (value (truth t) vs) he h = absurd h
each_word e (value (many us) vs) he h = absurd h

-- a vector of numbers as one of other numbers
made : (e : Elem) (n : ℕ) (vs : ValueTrees) → IsNumeric e → AreWords vs → length (listed vs) ≡ n → (n == 1) ≡ false → vector_of e n (listed vs ∷ []) ≡ Some (many vs)
made e n vs he words count more =
    ap (λ us. option_and_then (λ us. option_map composite (each_one (component_as e) us)) (filled n us)) (append-nil (listed vs))
    ∙ ap (option_and_then (λ us. option_map composite (each_one (component_as e) us))) (filled_is n (listed vs) count more)
    ∙ ap (option_map composite) (each_word e vs he words)
    ∙ ap (λ us. Some (many us)) (listed_back vs)

-- a vector that is no literal is a constructor where it is wanted as one of another type
as_vector : (g e : Elem) (n : ℕ) (x : Operand) → x.word ≡ None → x.ty ≡ vector_type e n → as_elem g x ≡ converted (vector_type g n) e x.expr
as_vector g e n x w t = rw (w, t) refl

pub each_one_alike : (f g : ValueTree → Option ValueTree) → ((v : ValueTree) → f v ≡ g v) → (vs : List ValueTree) → each_one f vs ≡ each_one g vs
each_one_alike f g same [] = refl
each_one_alike f g same (v ∷ vs) = ap (λ q. before q (each_one f vs)) (same v) ∙ ap (before (g v)) (each_one_alike f g same vs)

flipped_alike : (v : ValueTree) → flipped_word v ≡ unary_scalar Not v
flipped_alike (word a) = refl
flipped_alike (truth t) = refl
flipped_alike (many vs) = refl

flipped_vector : (e : Elem) (n : ℕ) (vs : ValueTrees) (r : ValueTree) → IsNumeric e → by_one (unary_scalar Not) (many vs) ≡ Some r → flipped (typed (vector e n) (many vs)) ≡ Some (typed (vector e n) r)
flipped_vector e n vs r he h = by_elem e he ∙ ap (option_map (typed (vector e n))) (ap (option_map composite) (each_one_alike flipped_word (unary_scalar Not) flipped_alike (listed vs)) ∙ h)
  where
    by_elem : (e : Elem) → IsNumeric e → flipped (typed (vector e n) (many vs)) ≡ option_map (typed (vector e n)) (by_one flipped_word (many vs))
    by_elem elem.Int he = refl
    by_elem elem.Uint he = refl
    by_elem elem.Bool he = absurd he

module _ (p : Program) (calls : Text → List Argument → State → Result (Option Typed × State)) (s : State) where
  abbrev S : Expr → Typed → Type 0
  S = Says p calls s

  pub converted_vector : (e g : Elem) (n : ℕ) (x : Expr) (vs : ValueTrees) → IsNumeric e → IsNumeric g → AreWords vs → length (listed vs) ≡ n → (n == 1) ≡ false → S x (typed (vector e n) (many vs)) → S (converted (vector_type g n) e x) (typed (vector g n) (many vs))
  converted_vector elem.Int elem.Int n x vs he hg words count more h = h
  converted_vector elem.Uint elem.Uint n x vs he hg words count more h = h
  converted_vector elem.Int elem.Uint n x vs he hg words count more h =
      says_build p calls s (type_named (vector_type elem.Uint n)) (vector elem.Uint n) (expr x no_exprs) (typed (vector elem.Int n) (many vs) ∷ []) (typed (vector elem.Uint n) (many vs)) refl (h, tt) (ap (option_map (typed (vector elem.Uint n))) (made elem.Uint n vs tt words count more))
  converted_vector elem.Uint elem.Int n x vs he hg words count more h =
      says_build p calls s (type_named (vector_type elem.Int n)) (vector elem.Int n) (expr x no_exprs) (typed (vector elem.Uint n) (many vs) ∷ []) (typed (vector elem.Int n) (many vs)) refl (h, tt) (ap (option_map (typed (vector elem.Int n))) (made elem.Int n vs tt words count more))
  converted_vector elem.Bool g n x vs he hg words count more h = absurd he
  converted_vector elem.Int elem.Bool n x vs he hg words count more h = absurd hg
  converted_vector elem.Uint elem.Bool n x vs he hg words count more h = absurd hg

  -- a vector operand, as a vector of whichever numbers it is wanted, says its components
  pub as_vector_says : (g e : Elem) (n : ℕ) (x : Operand) (vs : ValueTrees) → IsNumeric g → (n == 1) ≡ false → StandsVector p calls s x e n vs → S (as_elem g x) (typed (vector g n) (many vs))
  as_vector_says g e n x vs hg more h = subst (λ q. S q (typed (vector g n) (many vs))) (sym (as_vector g e n x h.no_word h.of_type)) (converted_vector e g n x.expr vs h.is_numeric hg h.words h.count more h.says)

  -- OpNot on a vector
  pub flip_says : (g e : Elem) (n : ℕ) (x : Operand) (vs : ValueTrees) (r : ValueTree) → IsNumeric g → (n == 1) ≡ false → StandsVector p calls s x e n vs → by_one (unary_scalar Not) (many vs) ≡ Some r → S (written.unary Not (vector_type g n) x) (typed (vector g n) r)
  flip_says g e n x vs r hg more hx h = says_flip p calls s (as_elem g x) (typed (vector g n) (many vs)) (typed (vector g n) r) (as_vector_says g e n x vs hg more hx) (flipped_vector g n vs r hg h)

  module _ (g d e : Elem) (numbers : IsNumeric g) (n : ℕ) (more : (n == 1) ≡ false) (x y : Operand) (vs ws : ValueTrees) (hx : StandsVector p calls s x d n vs) (hy : StandsVector p calls s y e n ws) where
    pub both_say : (o : BinOp) (op : Binary) (r : ValueTree) → operator_kind o ≡ numeric → settling o ≡ None → ((a b : ℕ) → word_operator o g a b ≡ binary_word op a b) → by_two (binary_scalar op) (many vs) (many ws) ≡ Some r → S (tree.binary o (as_elem g x) (as_elem g y)) (typed (vector g n) r)
    both_say o op r kind both same h = says_binary p calls s o (as_elem g x) (as_elem g y) (typed (vector g n) (many vs)) (typed (vector g n) (many ws)) (typed (vector g n) r) both (as_vector_says g d n x vs numbers more hx) (as_vector_says g e n y ws numbers more hy) (on_vectors o op g n vs ws r numbers more kind same h)

    -- sums, differences, products and operations on bits of vectors, as they are written
    pub vector_says : (op : Binary) (r : ValueTree) → IsPlain op → by_two (binary_scalar op) (many vs) (many ws) ≡ Some r → S (written.binary op (vector_type g n) x y) (typed (vector g n) r)
    vector_says IAdd r is h = both_say Add IAdd r refl refl (λ a b. refl) h
    vector_says ISub r is h = both_say Sub ISub r refl refl (λ a b. refl) h
    vector_says IMul r is h = both_say Mul IMul r refl refl (λ a b. refl) h
    vector_says BitwiseOr r is h = both_say Or BitwiseOr r refl refl (λ a b. refl) h
    vector_says BitwiseXor r is h = both_say Xor BitwiseXor r refl refl (λ a b. refl) h
    vector_says BitwiseAnd r is h = both_say And BitwiseAnd r refl refl (λ a b. refl) h
    vector_says _ r is h = absurd is

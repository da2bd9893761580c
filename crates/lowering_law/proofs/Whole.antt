-- Operations on whole vectors: over all their truth values, a choice between two, a component by an index that is computed, copies, and quotients of uints.
use Rattle.std.proofs.Common.{◌≡◌, ◌<◌, ◌≤◌, ◌==◌, ℕ, Bool, true, false, List, [], ◌∷◌, length, slice_get, Option, Some, None, refl, sym, ap, ◌∙◌, subst, arith, ◌/◌, ◌%◌, ◌||◌}
use Rattle.std.specs.Prelude.{option_map, if◌then◌else◌}
use Rattle.std.specs.List.{list_any, list_all}
use Rattle.std.proofs.lemmas.Bool.Decides.{nat_tests}
use Rattle.std.proofs.lemmas.Option.{slice_get_within}
use Rattle.spv_module.specs.declared.tree.Elem.{Elem}
use Rattle.spv_module.specs.declared.tree.Elem.TheVariants as elem
use Rattle.spv_types.specs.Tree.{ValueTree, truth, word, many, values_in, ValueTrees, no_values, value}
use Rattle.glsl_ast.specs.Tree.{Text, Expr, choose}
use Rattle.op_semantics.specs.Component.{composite, by_three, chosen, listed, by_two, binary_scalar}
use Rattle.op_semantics.specs.Composite.{over_truths, extracted_at}
use Rattle.int_lowering.specs.declared.basic.BasicType.{BasicType}
use Rattle.int_lowering.specs.declared.built_ins.BuiltIn.TheVariants.{Any, All}
use Rattle.int_lowering.specs.Operand.{Operand, converted}
use Rattle.int_lowering.specs.Term.{call_built_in}
use Rattle.int_lowering.specs.Lowered as written
use Rattle.traces.specs.Outcomes.{Result}
use Rattle.glsl_semantics.specs.Shapes.{boolean, vector, Typed, typed, scalar as shape_of_elem}
use Rattle.glsl_semantics.specs.States.{State, index_word}
use Rattle.glsl_semantics.specs.Expressions.{Program, Argument}
use Rattle.op_semantics.specs.declared.operation.Binary.TheVariants.{UDiv, UMod}
use Rattle.op_semantics.specs.Word.{binary_word}
use Rattle.glsl_ast.specs.declared.expressions.BinOp.TheVariants.{Div, Rem}
use Rattle.glsl_semantics.specs.Operators.{word_operator}
use Rattle.list_law.proofs.Numbers.{less_is}
use Rattle.fits_law.proofs.Parts.{listed_values}
use Rattle.lowering_law.specs.Says.{Says}
use Rattle.lowering_law.specs.Numbers.{IsNumeric, number}
use Rattle.lowering_law.specs.BuiltIns.{NoneDeclared}
use Rattle.lowering_law.specs.Stands.{Means, AreOf, AreWords, MeansVector, vector_type, StandsVector, IsVectorOf}
use Rattle.lowering_law.proofs.Vectors.{converted_vector, both_say}
use Rattle.lowering_law.proofs.Functions.{call_says}
use Rattle.lowering_law.proofs.Comparisons.{select_says}
use Rattle.lowering_law.proofs.Parts.{says_element}

-- the components of a vector of numbers are words
words_of_numbers : (e : Elem) (vs : List ValueTree) → IsNumeric e → AreOf e vs → AreWords (values_in vs)
words_of_numbers e [] h a = tt
words_of_numbers elem.Int (word i ∷ vs) h a = words_of_numbers elem.Int vs h a.1
words_of_numbers elem.Uint (word i ∷ vs) h a = words_of_numbers elem.Uint vs h a.1
words_of_numbers elem.Int (truth t ∷ vs) h a = absurd a.0
words_of_numbers elem.Int (many us ∷ vs) h a = absurd a.0
words_of_numbers elem.Uint (truth t ∷ vs) h a = absurd a.0
words_of_numbers elem.Uint (many us ∷ vs) h a = absurd a.0
words_of_numbers elem.Bool (v ∷ vs) h a = absurd h

index_is : (e : Elem) (i : ℕ) → IsNumeric e → index_word (number e i) ≡ Some i
index_is elem.Int i h = refl
index_is elem.Uint i h = refl
index_is elem.Bool i h = absurd h

module _ (p : Program) (none : NoneDeclared p) (calls : Text → List Argument → State → Result (Option Typed × State)) (s : State) where
  abbrev S : Expr → Typed → Type 0
  S = Says p calls s

  -- a vector of bools
  of_bools : (x : Operand) (n : ℕ) (vs : List ValueTree) (m : MeansVector p calls s x n vs) → m.elem ≡ elem.Bool → S x.expr (typed (vector elem.Bool n) (composite vs))
  of_bools x n vs m is = subst (λ e. S x.expr (typed (vector e n) (composite vs))) is m.says

  pub any_says : (x : Operand) (n : ℕ) (vs : List ValueTree) (r : ValueTree) (m : MeansVector p calls s x n vs) → m.elem ≡ elem.Bool → over_truths (list_any (λ b. b)) (composite vs) ≡ Some r → S (call_built_in Any (x.expr ∷ [])) (typed boolean r)
  any_says x n vs r m is h = call_says p none calls s Any (x.expr ∷ []) (typed (vector elem.Bool n) (composite vs) ∷ []) (typed boolean r) (of_bools x n vs m is, tt) (ap (option_map (typed boolean)) h)

  pub all_says : (x : Operand) (n : ℕ) (vs : List ValueTree) (r : ValueTree) (m : MeansVector p calls s x n vs) → m.elem ≡ elem.Bool → over_truths (list_all (λ b. b)) (composite vs) ≡ Some r → S (call_built_in All (x.expr ∷ [])) (typed boolean r)
  all_says x n vs r m is h = call_says p none calls s All (x.expr ∷ []) (typed (vector elem.Bool n) (composite vs) ∷ []) (typed boolean r) (of_bools x n vs m is, tt) (ap (option_map (typed boolean)) h)

  -- a choice between two vectors by one bool
  pub choice_says : (g : Elem) (n : ℕ) (x y z : Operand) (t : Bool) (vs ws : List ValueTree) (r : ValueTree) → Means p calls s x (truth t) → (my : MeansVector p calls s y n vs) → my.elem ≡ g → (mz : MeansVector p calls s z n ws) → mz.elem ≡ g
      → by_three chosen (truth t) (composite vs) (composite ws) ≡ Some r → S (choose x.expr y.expr z.expr) (typed (vector g n) r)
  choice_says g n x y z t vs ws r mx my gy mz gz h =
      let a = subst (λ e. S y.expr (typed (vector e n) (composite vs))) gy my.says in
      let b = subst (λ e. S z.expr (typed (vector e n) (composite ws))) gz mz.says in
      let is : (if t then composite vs else composite ws) ≡ r = cc in
      subst (λ q. S (choose x.expr y.expr z.expr) (typed (vector g n) q)) is (select_says p calls s x y z t (vector g n) (composite vs) (composite ws) mx.1 a b)

  -- a component by an index
  pub component_says : (x y : Operand) (n i : ℕ) (vs : List ValueTree) (c : ValueTree) → n ≤ 4 → (mx : MeansVector p calls s x n vs) → (my : Means p calls s y (word i)) → extracted_at (composite vs) (word i) ≡ Some c → S (Expr.index x.expr y.expr) (typed (shape_of_elem mx.elem) c)
  component_says x y n i vs c four mx my h =
      let inside = slice_get_within vs i c (ap (λ us. slice_get us i) (sym (listed_values vs)) ∙ h) in
      let low : i < n = subst (λ k. i < k) mx.count inside in
      says_element p calls s x.expr y.expr (vector mx.elem n) (shape_of_elem mx.elem) i (composite vs) c (number my.0.elem i) mx.says my.0.says (index_is my.0.elem i my.0.is_numeric)
      (grind (arith, nat_tests, low, four)) (ap (λ b. if b then Some (shape_of_elem mx.elem) else None) (less_is i n low)) h

  -- a vector of numbers as one of the same or other numbers
  pub copied_says : (g : Elem) (n : ℕ) (x : Operand) (vs : List ValueTree) → IsNumeric g → (n == 1) ≡ false → (m : MeansVector p calls s x n vs) → IsNumeric m.elem → S (converted (vector_type g n) x.ty.elem x.expr) (typed (vector g n) (composite vs))
  copied_says g n x vs hg more m he =
      subst (λ (ty : BasicType). S (converted (vector_type g n) ty.elem x.expr) (typed (vector g n) (composite vs))) (sym m.of_type)
      (converted_vector p calls s m.elem g n x.expr (values_in vs) he hg (words_of_numbers m.elem vs he m.fit) (ap length (listed_values vs) ∙ m.count) more m.says)

pub words_listed : (e : Elem) (vs : ValueTrees) → IsNumeric e → AreOf e (listed vs) → AreWords vs
words_listed e no_values h a = tt
words_listed elem.Int (value (word i) vs) h a = words_listed elem.Int vs h a.1
words_listed elem.Uint (value (word i) vs) h a = words_listed elem.Uint vs h a.1
words_listed elem.Int (value (truth t) vs) h a = absurd a.0
words_listed elem.Int (value (many us) vs) h a = absurd a.0
words_listed elem.Uint (value (truth t) vs) h a = absurd a.0
words_listed elem.Uint (value (many us) vs) h a = absurd a.0
words_listed elem.Bool (value v vs) h a = absurd h

-- a quotient and a remainder of uints have a value by the operator where they have one as operations
same_quotient : (a b : ℕ) → word_operator Div elem.Uint a b ≡ binary_word UDiv a b
same_quotient a b = elim (b == 0) as (λ q. (if q || (false || false) then None else Some (a / b)) ≡ (if q then None else Some (a / b))) [ true ↦ refl | false ↦ refl ]

same_remainder : (a b : ℕ) → word_operator Rem elem.Uint a b ≡ binary_word UMod a b
same_remainder a b = elim (b == 0) as (λ q. (if q || (false || false) then None else Some (a % b)) ≡ (if q then None else Some (a % b))) [ true ↦ refl | false ↦ refl ]

-- OpUDiv and OpUMod of vectors
module _ (p : Program) (calls : Text → List Argument → State → Result (Option Typed × State)) (s : State) (g d e : Elem) (numbers : IsNumeric g) (n : ℕ) (more : (n == 1) ≡ false) (x y : Operand) (vs ws : ValueTrees) (hx : StandsVector p calls s x d n vs) (hy : StandsVector p calls s y e n ws) where
  pub quotient_says : (r : ValueTree) → IsVectorOf g n r → by_two (binary_scalar UDiv) (many vs) (many ws) ≡ Some r → Says p calls s (written.binary UDiv (vector_type g n) x y) (typed (vector g n) r)
  quotient_says (many rs) is h =
      converted_vector p calls s elem.Uint g n _ rs tt numbers (words_listed g rs numbers is.0) is.1 more
      (both_say p calls s elem.Uint d e tt n more x y vs ws hx hy Div UDiv (many rs) refl refl same_quotient h)
  quotient_says (word a) is h = absurd is
  quotient_says (truth t) is h = absurd is

  pub remainder_says : (r : ValueTree) → IsVectorOf g n r → by_two (binary_scalar UMod) (many vs) (many ws) ≡ Some r → Says p calls s (written.binary UMod (vector_type g n) x y) (typed (vector g n) r)
  remainder_says (many rs) is h =
      converted_vector p calls s elem.Uint g n _ rs tt numbers (words_listed g rs numbers is.0) is.1 more
      (both_say p calls s elem.Uint d e tt n more x y vs ws hx hy Rem UMod (many rs) refl refl same_remainder h)
  remainder_says (word a) is h = absurd is
  remainder_says (truth t) is h = absurd is

-- Each operation that is an expression, as it is written of operands of any shapes, says the value of the operation.
use Rattle.std.proofs.Common.{◌≡◌, ℕ, Bool, true, false, List, [], ◌∷◌, map, Option, Some, None, inl, inr, refl, sym, ap, ◌∙◌, subst}
use Rattle.std.specs.Prelude.{◌⊎◌, flat_map, slice_index, option_and_then, is_none, if◌then◌else◌}
use Rattle.std.specs.List.{list_any, list_all}
use Rattle.std.proofs.lemmas.Option.{same_Some}
use Rattle.spv_ops.specs.Opcode.{is as is_op}
use Rattle.spv_ops.specs.declared.Op.{Op}
use Rattle.spv_ops.specs.declared.Op.TheVariants as code
use Rattle.spv_module.specs.declared.tree.Elem.{Elem}
use Rattle.spv_module.specs.declared.tree.Elem.TheVariants as elem
use Rattle.spv_module.specs.declared.tree.Length.TheVariants.{Fixed, Spec}
use Rattle.spv_types.specs.Tree as plain
use Rattle.spv_types.specs.Tree.{Tree, Trees, no_trees, tree, ValueTree, word, truth, many, ValueTrees}
use Rattle.spv_types.specs.Leaves.{zero_of}
use Rattle.glsl_ast.specs.Tree.{Text, Expr, exprs_in, choose}
use Rattle.op_semantics.specs.declared.operation.Unary.{Unary}
use Rattle.op_semantics.specs.declared.operation.Binary.{Binary}
use Rattle.op_semantics.specs.declared.operation.Comparison.{Comparison}
use Rattle.op_semantics.specs.declared.operation.Logical.{Logical}
use Rattle.op_semantics.specs.declared.operation.Clamp.{Clamp}
use Rattle.op_semantics.specs.declared.operation.Operation.{Operation}
use Rattle.op_semantics.specs.declared.operation.Operation.TheVariants as op
use Rattle.op_semantics.specs.Component.{listed, composite, by_three, chosen}
use Rattle.op_semantics.specs.Composite.{components, over_truths, extracted_at, constructed as made}
use Rattle.op_semantics.specs.Value.{value_of_operation, operation_of, op_value}
use Rattle.op_semantics.specs.Fits.{elem_tree, fits, IsOfWords, AreOfWords}
use Rattle.fits_law.proofs.Literals.{extracted_along}
use Rattle.fits_law.specs.Takes.{Sort, numbers, truths, IsOfSort, Has, AreAlike, shape_at, Gives, GiveAll, AreOfShape, AreMembers, AreParts, IsCondition, IsShuffle, OfOne, OfTwo, OfThree, OfFour, Takes, AllFit}
use Rattle.fits_law.proofs.Parts.{listed_back, EachFits, many_of}
use Rattle.fits_law.proofs.Operations.{op_fits, all_give, all_of_shape, all_members}
use Rattle.int_lowering.specs.declared.basic.BasicType.{BasicType}
use Rattle.int_lowering.specs.Operand.{Operand, basic_type, scalar, converted}
use Rattle.vec_lowering.specs.Named.{Naming}
use Rattle.vec_lowering.specs.Component.{by_component, on_basic}
use Rattle.vec_lowering.specs.Composite.{Argument, operand, constructed, extracted, copied}
use Rattle.vec_lowering.specs.Lowered.{written, written_if_any, lowered_vector, on_arguments}
use Rattle.traces.specs.Outcomes.{Result}
use Rattle.glsl_semantics.specs.Shapes.{vector, Typed, typed}
use Rattle.glsl_semantics.specs.States.{State}
use Rattle.glsl_semantics.specs.Expressions.{Program, Argument as Given}
use Rattle.lowering_law.specs.Says.{Says, AllSay}
use Rattle.lowering_law.specs.Numbers.{IsNumeric}
use Rattle.lowering_law.specs.BuiltIns.{NoneDeclared}
use Rattle.lowering_law.specs.Stands.{IsScalarOf, IsLow, AreOf, AreLow, IsVectorOf, Means, AllMean, MeansVector, MeansAny, AllMeanAny, OnScalars, vector_type}
use Rattle.lowering_law.specs.Wanted.{IsOfNumbers, OnVectors}
use Rattle.lowering_law.specs.Written.{text_shape, IsWritten, typed_as, members_as}
use Rattle.lowering_law.specs.Arguments.{MeansAs, AllMeanAs, AllWritten, IsBasic, IsPlainCopy, IsCopy, IsExpression}
use Rattle.lowering_law.proofs.Saying.{says_choose_first, says_choose_second}
use Rattle.lowering_law.proofs.Scalars.{scalar_says}
use Rattle.lowering_law.proofs.Joined.{vectors_say}
use Rattle.lowering_law.proofs.Whole.{any_says, all_says, component_says}
use Rattle.lowering_law.proofs.Made.{IsPart, AreParts as AreGiven, undef_says, undef_vector_says, shuffle_says, vector_of_parts_says}
use Rattle.lowering_law.proofs.Composites.{array_says, struct_says, extracted_says, copied_says, scalar_as}

-- values of shapes as those of types
scalar_of : (g : Elem) (v : ValueTree) → fits (elem_tree g) v ≡ true → IsScalarOf g v
scalar_of elem.Bool (truth b) f = tt
scalar_of elem.Bool (word a) f = cc
scalar_of elem.Bool (many vs) f = cc
scalar_of elem.Int (word a) f = tt
scalar_of elem.Int (truth b) f = cc
scalar_of elem.Int (many vs) f = cc
scalar_of elem.Uint (word a) f = tt
scalar_of elem.Uint (truth b) f = cc
scalar_of elem.Uint (many vs) f = cc

all_of : (g : Elem) (vs : List ValueTree) → EachFits (elem_tree g) vs → AreOf g vs
all_of g [] f = tt
all_of g (v ∷ vs) f = (scalar_of g v f.0, all_of g vs f.1)

vector_of : (g : Elem) (n : ℕ) (v : ValueTree) → fits (plain.vector g n) v ≡ true → IsVectorOf g n v
vector_of g n (many vs) f = let parts = many_of (elem_tree g) n vs f in (all_of g (listed vs) parts.1, parts.0)
vector_of g n (word a) f = cc
vector_of g n (truth a) f = cc

is_low : (v : ValueTree) → IsOfWords v → IsLow v
is_low (word a) l = l
is_low (truth a) l = tt
is_low (many vs) l = tt

all_low : (vs : ValueTrees) → AreOfWords vs → AreLow (listed vs)
all_low plain.no_values l = tt
all_low (plain.value v vs) l = (is_low v l.0, all_low vs l.1)

word_same : (a w : ℕ) → word a ≡ word w → w ≡ a
word_same a w e = cc

numeric : (g : Elem) → IsOfSort numbers g → IsNumeric g
numeric elem.Int h = tt
numeric elem.Uint h = tt
numeric elem.Bool h = absurd h

module _ (p : Program) (none : NoneDeclared p) (names : Naming) (calls : Text → List Given → State → Result (Option Typed × State)) (s : State) where
  abbrev S : Expr → Typed → Type 0
  S = Says p calls s

  abbrev M : Argument → Tree → ValueTree → Type 0
  M = MeansAs p names calls s

  no_word : (x : Argument) (t : Tree) (vs : ValueTrees) → M x t (many vs) → x.word ≡ None
  no_word x t vs m = by_word x.word refl
    where
      by_word : (o : Option ℕ) → x.word ≡ o → o ≡ None
      by_word None e = refl
      by_word (Some w) e = absurd (never w (m.literal w e))
        where
          never : (w : ℕ) → many vs ≡ word w → ⊥
          never w e = cc

  -- a scalar operand, and a vector operand
  mean_scalar : (g : Elem) (x : Argument) (v : ValueTree) → M x (elem_tree g) v → Means p calls s (operand x) v
  mean_scalar elem.Bool x (truth b) m = (ap basic_type m.shape, m.says)
  mean_scalar elem.Bool x (word a) m = let f = m.fit in cc
  mean_scalar elem.Bool x (many vs) m = let f = m.fit in cc
  mean_scalar elem.Int x (word a) m = (record { elem = elem.Int; is_numeric = tt; of_type = ap basic_type m.shape; says = m.says; literal = λ w e. word_same a w (m.literal w e) }, m.low)
  mean_scalar elem.Int x (truth b) m = let f = m.fit in cc
  mean_scalar elem.Int x (many vs) m = let f = m.fit in cc
  mean_scalar elem.Uint x (word a) m = (record { elem = elem.Uint; is_numeric = tt; of_type = ap basic_type m.shape; says = m.says; literal = λ w e. word_same a w (m.literal w e) }, m.low)
  mean_scalar elem.Uint x (truth b) m = let f = m.fit in cc
  mean_scalar elem.Uint x (many vs) m = let f = m.fit in cc

  abbrev as_vector : (e : Elem) (n : ℕ) (x : Argument) (vs : ValueTrees) → M x (plain.vector e n) (many vs) → MeansVector p calls s (operand x) n (listed vs)
  as_vector e n x vs m = record {
    elem = e;
    of_type = ap basic_type m.shape;
    says = subst (λ us. S x.of (typed (vector e n) (many us))) (sym (listed_back vs)) m.says;
    count = (many_of (elem_tree e) n vs m.fit).0;
    fit = all_of e (listed vs) (many_of (elem_tree e) n vs m.fit).1;
    low = all_low vs m.low;
  }

  -- by sorts
  mean_one : (k : Sort) (x : Argument) (t : Tree) (v : ValueTree) → Has k None t → M x t v → Means p calls s (operand x) v
  mean_one numbers x plain.int v h m = mean_scalar elem.Int x v m
  mean_one numbers x plain.uint v h m = mean_scalar elem.Uint x v m
  mean_one truths x plain.boolean v h m = mean_scalar elem.Bool x v m
  mean_one _ x _ v h m = absurd h

  scalar_any : (n : ℕ) (x : Argument) (v : ValueTree) → Means p calls s (operand x) v → MeansAny p calls s n (operand x) v
  scalar_any n x (word a) m = m
  scalar_any n x (truth a) m = m
  scalar_any n x (many vs) m = absurd m

  vector_any : (k : Sort) (n m : ℕ) (e : Elem) (x : Argument) (v : ValueTree) → IsOfSort k e × (m ≡ n) → M x (plain.vector e m) v → MeansAny p calls s n (operand x) v
  vector_any k n m e x (many vs) h mean = subst (λ q. MeansVector p calls s (operand x) q (listed vs)) h.1 (as_vector e m x vs mean)
  vector_any k n m e x (word a) h mean = let f = mean.fit in cc
  vector_any k n m e x (truth a) h mean = let f = mean.fit in cc

  mean_any : (k : Sort) (n : ℕ) (x : Argument) (t : Tree) (v : ValueTree) → Has k (Some n) t → M x t v → MeansAny p calls s n (operand x) v
  mean_any numbers n x (plain.vector e m) v h mean = vector_any numbers n m e x v h mean
  mean_any truths n x (plain.vector e m) v h mean = vector_any truths n m e x v h mean
  mean_any _ n x _ v h mean = absurd h

  some_vector : (g : Elem) (n : ℕ) (x : Argument) (v : ValueTree) → M x (plain.vector g n) v → MeansAny p calls s n (operand x) v
  some_vector g n x (many vs) m = as_vector g n x vs m
  some_vector g n x (word a) m = let f = m.fit in cc
  some_vector g n x (truth a) m = let f = m.fit in cc

  of_numbers : (n : ℕ) (x : Argument) (t : Tree) (v : ValueTree) → Has numbers (Some n) t → M x t v → IsOfNumbers (operand x)
  of_numbers n x (plain.vector e m) (many vs) h mean = record { numbers = subst (λ (ty : BasicType). IsNumeric ty.elem) (ap basic_type (sym mean.shape)) (numeric e h.0); no_word = no_word x (plain.vector e m) vs mean }
  of_numbers n x (plain.vector e m) (word a) h mean = let f = mean.fit in cc
  of_numbers n x (plain.vector e m) (truth a) h mean = let f = mean.fit in cc
  of_numbers n x _ v h mean = absurd h

  -- a result that is a scalar, and one that is a vector
  scalar_result : (k : Sort) (t : Tree) (o : Operation) (ls : List ℕ) (xs : List Operand) (vs : List ValueTree) (r : ValueTree) → Has k None t → ((g : Elem) → t ≡ elem_tree g → OnScalars o g xs) → AllMean p calls s xs vs → value_of_operation o t ls vs ≡ Some r → fits t r ≡ true
      → S (on_basic o (basic_type t) xs) (typed_as names t r)
  scalar_result numbers plain.int o ls xs vs r h on m e f = scalar_says p none calls s elem.Int o plain.int ls xs vs r (on elem.Int refl) m e (scalar_of elem.Int r f)
  scalar_result numbers plain.uint o ls xs vs r h on m e f = scalar_says p none calls s elem.Uint o plain.uint ls xs vs r (on elem.Uint refl) m e (scalar_of elem.Uint r f)
  scalar_result truths plain.boolean o ls xs vs r h on m e f = scalar_says p none calls s elem.Bool o plain.boolean ls xs vs r (on elem.Bool refl) m e (scalar_of elem.Bool r f)
  scalar_result _ _ o ls xs vs r h on m e f = absurd h

  vector_result_of : (k : Sort) (n m : ℕ) (g : Elem) (o : Operation) (ls : List ℕ) (xs : List Operand) (vs : List ValueTree) (r : ValueTree) → IsOfSort k g × (m ≡ n) → IsWritten p names (plain.vector g m) → (IsOfSort k g → OnVectors o g m xs) → AllMeanAny p calls s n xs vs
      → value_of_operation o (plain.vector g m) ls vs ≡ Some r → fits (plain.vector g m) r ≡ true → S (on_basic o (basic_type (plain.vector g m)) xs) (typed_as names (plain.vector g m) r)
  vector_result_of k n m g o ls xs vs r h w on mean e f = vectors_say p none calls s g m w.1 w.0 o (plain.vector g m) ls xs vs r (on h.0) (subst (λ q. AllMeanAny p calls s q xs vs) (sym h.1) mean) e (vector_of g m r f)

  vector_result : (k : Sort) (n : ℕ) (t : Tree) (o : Operation) (ls : List ℕ) (xs : List Operand) (vs : List ValueTree) (r : ValueTree) → Has k (Some n) t → IsWritten p names t → ((g : Elem) (m : ℕ) → t ≡ plain.vector g m → IsOfSort k g → OnVectors o g m xs) → AllMeanAny p calls s n xs vs
      → value_of_operation o t ls vs ≡ Some r → fits t r ≡ true → S (on_basic o (basic_type t) xs) (typed_as names t r)
  vector_result numbers n (plain.vector g m) o ls xs vs r h w on mean e f = vector_result_of numbers n m g o ls xs vs r h w (on g m refl) mean e f
  vector_result truths n (plain.vector g m) o ls xs vs r h w on mean e f = vector_result_of truths n m g o ls xs vs r h w (on g m refl) mean e f
  vector_result _ n _ o ls xs vs r h w on mean e f = absurd h

  -- operands by their number
  with_one : (Q : Tree → Type 0) (G : List Argument → List ValueTree → Type 0) → ((x : Argument) (a : Tree) (v : ValueTree) → Q a → M x a v → G (x ∷ []) (v ∷ [])) → (xs : List Argument) (us : List Tree) (vs : List ValueTree) → OfOne Q us → AllMeanAs p names calls s xs us vs → G xs vs
  with_one Q G k (x ∷ []) (a ∷ []) (v ∷ []) q m = k x a v q m.0
  with_one Q G k [] (a ∷ []) vs q m = absurd m
  with_one Q G k (x ∷ xs) (a ∷ []) [] q m = absurd m
  with_one Q G k (x ∷ y ∷ xs) (a ∷ []) (v ∷ vs) q m = absurd m.1
  with_one Q G k (x ∷ []) (a ∷ []) (v ∷ w ∷ vs) q m = absurd m.1
  with_one Q G k xs [] vs q m = absurd q
  with_one Q G k xs (a ∷ b ∷ us) vs q m = absurd q

  with_two : (Q : Tree → Tree → Type 0) (G : List Argument → List ValueTree → Type 0) → ((x y : Argument) (a b : Tree) (v w : ValueTree) → Q a b → M x a v → M y b w → G (x ∷ y ∷ []) (v ∷ w ∷ [])) → (xs : List Argument) (us : List Tree) (vs : List ValueTree) → OfTwo Q us → AllMeanAs p names calls s xs us vs → G xs vs
  with_two Q G k (x ∷ xs) (a ∷ b ∷ []) (v ∷ vs) q m = with_one (Q a) (λ ys ws. G (x ∷ ys) (v ∷ ws)) (λ y c w r n. k x y a c v w r m.0 n) xs (b ∷ []) vs q m.1
  with_two Q G k [] (a ∷ b ∷ []) vs q m = absurd m
  with_two Q G k (x ∷ xs) (a ∷ b ∷ []) [] q m = absurd m
  with_two Q G k xs [] vs q m = absurd q
  with_two Q G k xs (a ∷ []) vs q m = absurd q
  with_two Q G k xs (a ∷ b ∷ c ∷ us) vs q m = absurd q

  with_three : (Q : Tree → Tree → Tree → Type 0) (G : List Argument → List ValueTree → Type 0) → ((x y z : Argument) (a b c : Tree) (v w u : ValueTree) → Q a b c → M x a v → M y b w → M z c u → G (x ∷ y ∷ z ∷ []) (v ∷ w ∷ u ∷ []))
      → (xs : List Argument) (us : List Tree) (vs : List ValueTree) → OfThree Q us → AllMeanAs p names calls s xs us vs → G xs vs
  with_three Q G k (x ∷ xs) (a ∷ b ∷ c ∷ []) (v ∷ vs) q m = with_two (Q a) (λ ys ws. G (x ∷ ys) (v ∷ ws)) (λ y z d e w u r n o. k x y z a d e v w u r m.0 n o) xs (b ∷ c ∷ []) vs q m.1
  with_three Q G k [] (a ∷ b ∷ c ∷ []) vs q m = absurd m
  with_three Q G k (x ∷ xs) (a ∷ b ∷ c ∷ []) [] q m = absurd m
  with_three Q G k xs [] vs q m = absurd q
  with_three Q G k xs (a ∷ []) vs q m = absurd q
  with_three Q G k xs (a ∷ b ∷ []) vs q m = absurd q
  with_three Q G k xs (a ∷ b ∷ c ∷ d ∷ us) vs q m = absurd q

  with_four : (Q : Tree → Tree → Tree → Tree → Type 0) (G : List Argument → List ValueTree → Type 0) → ((x y z i : Argument) (a b c d : Tree) (v w u j : ValueTree) → Q a b c d → M x a v → M y b w → M z c u → M i d j → G (x ∷ y ∷ z ∷ i ∷ []) (v ∷ w ∷ u ∷ j ∷ []))
      → (xs : List Argument) (us : List Tree) (vs : List ValueTree) → OfFour Q us → AllMeanAs p names calls s xs us vs → G xs vs
  with_four Q G k (x ∷ xs) (a ∷ b ∷ c ∷ d ∷ []) (v ∷ vs) q m = with_three (Q a) (λ ys ws. G (x ∷ ys) (v ∷ ws)) (λ y z i e f g w u j r n o l. k x y z i a e f g v w u j r m.0 n o l) xs (b ∷ c ∷ d ∷ []) vs q m.1
  with_four Q G k [] (a ∷ b ∷ c ∷ d ∷ []) vs q m = absurd m
  with_four Q G k (x ∷ xs) (a ∷ b ∷ c ∷ d ∷ []) [] q m = absurd m
  with_four Q G k xs [] vs q m = absurd q
  with_four Q G k xs (a ∷ []) vs q m = absurd q
  with_four Q G k xs (a ∷ b ∷ []) vs q m = absurd q
  with_four Q G k xs (a ∷ b ∷ c ∷ []) vs q m = absurd q
  with_four Q G k xs (a ∷ b ∷ c ∷ d ∷ e ∷ us) vs q m = absurd q

  -- with the types of operands in the text
  one_written : (Q : Tree → Type 0) (us : List Tree) → AllWritten p names us → OfOne Q us → OfOne (λ a. Q a × IsWritten p names a) us
  one_written Q (a ∷ []) w q = (q, w.0)
  one_written Q [] w q = absurd q
  one_written Q (a ∷ b ∷ us) w q = absurd q

  two_written : (Q : Tree → Tree → Type 0) (us : List Tree) → AllWritten p names us → OfTwo Q us → OfTwo (λ a b. Q a b × IsWritten p names a × IsWritten p names b) us
  two_written Q (a ∷ b ∷ []) w q = (q, w.0, w.1.0)
  two_written Q [] w q = absurd q
  two_written Q (a ∷ []) w q = absurd q
  two_written Q (a ∷ b ∷ c ∷ us) w q = absurd q

  all_fit : (xs : List Argument) (us : List Tree) (vs : List ValueTree) → AllMeanAs p names calls s xs us vs → AllFit us vs
  all_fit [] [] [] m = tt
  all_fit (x ∷ xs) (t ∷ ts) (v ∷ vs) m = (m.0.fit, all_fit xs ts vs m.1)
  all_fit [] [] (v ∷ vs) m = absurd m
  all_fit [] (t ∷ ts) vs m = absurd m
  all_fit (x ∷ xs) [] vs m = absurd m
  all_fit (x ∷ xs) (t ∷ ts) [] m = absurd m

  -- what is shown of operands and their values: where there is a value of the result's shape, the expression says it
  abbrev Tells : Op → Operation → Tree → List ℕ → ValueTree → List Argument → List ValueTree → Type 0
  Tells opcode o t ls r xs vs = value_of_operation o t ls vs ≡ Some r → fits t r ≡ true → S (written names opcode o t ls xs) (typed_as names t r)

  module _ (opcode : Op) (t : Tree) (ls : List ℕ) (r : ValueTree) (w : IsWritten p names t) where
    unary_tells : (o : Unary) (n : Option ℕ) (x : Argument) (a : Tree) (v : ValueTree) → Has numbers n t → Has numbers n a → M x a v → Tells opcode (op.Unary o) t ls r (x ∷ []) (v ∷ [])
    unary_tells o None x a v ht ha m e f = scalar_result numbers t (op.Unary o) ls (operand x ∷ []) (v ∷ []) r ht (λ g s. tt) (mean_one numbers x a v ha m, tt) e f
    unary_tells o (Some n) x a v ht ha m e f = vector_result numbers n t (op.Unary o) ls (operand x ∷ []) (v ∷ []) r ht w (λ g k s h. (numeric g h, of_numbers n x a v ha m)) (mean_any numbers n x a v ha m, tt) e f

    binary_tells : (o : Binary) (n : Option ℕ) (x y : Argument) (a b : Tree) (v u : ValueTree) → Has numbers n t → Has numbers n a → Has numbers n b → M x a v → M y b u → Tells opcode (op.Binary o) t ls r (x ∷ y ∷ []) (v ∷ u ∷ [])
    binary_tells o None x y a b v u ht ha hb m k e f = scalar_result numbers t (op.Binary o) ls (operand x ∷ operand y ∷ []) (v ∷ u ∷ []) r ht (λ g s. tt) (mean_one numbers x a v ha m, (mean_one numbers y b u hb k, tt)) e f
    binary_tells o (Some n) x y a b v u ht ha hb m k e f =
        vector_result numbers n t (op.Binary o) ls (operand x ∷ operand y ∷ []) (v ∷ u ∷ []) r ht w (λ g c s h. (numeric g h, of_numbers n x a v ha m, of_numbers n y b u hb k)) (mean_any numbers n x a v ha m, (mean_any numbers n y b u hb k, tt)) e f

    comparison_tells : (o : Comparison) (n : Option ℕ) (x y : Argument) (a b : Tree) (v u : ValueTree) → Has truths n t → Has numbers n a → Has numbers n b → M x a v → M y b u → Tells opcode (op.Comparison o) t ls r (x ∷ y ∷ []) (v ∷ u ∷ [])
    comparison_tells o None x y a b v u ht ha hb m k e f = scalar_result truths t (op.Comparison o) ls (operand x ∷ operand y ∷ []) (v ∷ u ∷ []) r ht (λ g s. tt) (mean_one numbers x a v ha m, (mean_one numbers y b u hb k, tt)) e f
    comparison_tells o (Some n) x y a b v u ht ha hb m k e f = vector_result truths n t (op.Comparison o) ls (operand x ∷ operand y ∷ []) (v ∷ u ∷ []) r ht w (λ g c s h. tt) (mean_any numbers n x a v ha m, (mean_any numbers n y b u hb k, tt)) e f

    logical_tells : (o : Logical) (n : Option ℕ) (x y : Argument) (a b : Tree) (v u : ValueTree) → Has truths n t → Has truths n a → Has truths n b → M x a v → M y b u → Tells opcode (op.Logical o) t ls r (x ∷ y ∷ []) (v ∷ u ∷ [])
    logical_tells o None x y a b v u ht ha hb m k e f = scalar_result truths t (op.Logical o) ls (operand x ∷ operand y ∷ []) (v ∷ u ∷ []) r ht (λ g s. tt) (mean_one truths x a v ha m, (mean_one truths y b u hb k, tt)) e f
    logical_tells o (Some n) x y a b v u ht ha hb m k e f = vector_result truths n t (op.Logical o) ls (operand x ∷ operand y ∷ []) (v ∷ u ∷ []) r ht w (λ g c s h. tt) (mean_any truths n x a v ha m, (mean_any truths n y b u hb k, tt)) e f

    not_tells : (n : Option ℕ) (x : Argument) (a : Tree) (v : ValueTree) → Has truths n t → Has truths n a → M x a v → Tells opcode op.LogicalNot t ls r (x ∷ []) (v ∷ [])
    not_tells None x a v ht ha m e f = scalar_result truths t op.LogicalNot ls (operand x ∷ []) (v ∷ []) r ht (λ g s. tt) (mean_one truths x a v ha m, tt) e f
    not_tells (Some n) x a v ht ha m e f = vector_result truths n t op.LogicalNot ls (operand x ∷ []) (v ∷ []) r ht w (λ g k s h. tt) (mean_any truths n x a v ha m, tt) e f

    clamp_tells : (o : Clamp) (n : Option ℕ) (x y z : Argument) (a b c : Tree) (v u j : ValueTree) → Has numbers n t → Has numbers n a → Has numbers n b → Has numbers n c → M x a v → M y b u → M z c j → Tells opcode (op.Clamp o) t ls r (x ∷ y ∷ z ∷ []) (v ∷ u ∷ j ∷ [])
    clamp_tells o None x y z a b c v u j ht ha hb hc m k l e f =
        scalar_result numbers t (op.Clamp o) ls (operand x ∷ operand y ∷ operand z ∷ []) (v ∷ u ∷ j ∷ []) r ht (λ g s. tt) (mean_one numbers x a v ha m, (mean_one numbers y b u hb k, (mean_one numbers z c j hc l, tt))) e f
    clamp_tells o (Some n) x y z a b c v u j ht ha hb hc m k l e f =
        vector_result numbers n t (op.Clamp o) ls (operand x ∷ operand y ∷ operand z ∷ []) (v ∷ u ∷ j ∷ []) r ht w (λ g q s h. tt) (mean_any numbers n x a v ha m, (mean_any numbers n y b u hb k, (mean_any numbers n z c j hc l, tt))) e f

    insert_tells : (n : Option ℕ) (x y z i : Argument) (a b c d : Tree) (v u j q : ValueTree) → Has numbers n t → Has numbers n a → Has numbers n b → Has numbers None c → Has numbers None d → M x a v → M y b u → M z c j → M i d q → Tells opcode op.BitFieldInsert t ls r (x ∷ y ∷ z ∷ i ∷ []) (v ∷ u ∷ j ∷ q ∷ [])
    insert_tells None x y z i a b c d v u j q ht ha hb hc hd m k l o e f =
        scalar_result numbers t op.BitFieldInsert ls (operand x ∷ operand y ∷ operand z ∷ operand i ∷ []) (v ∷ u ∷ j ∷ q ∷ []) r ht (λ g s. tt) (mean_one numbers x a v ha m, (mean_one numbers y b u hb k, (mean_one numbers z c j hc l, (mean_one numbers i d q hd o, tt)))) e f
    insert_tells (Some n) x y z i a b c d v u j q ht ha hb hc hd m k l o e f =
        vector_result numbers n t op.BitFieldInsert ls (operand x ∷ operand y ∷ operand z ∷ operand i ∷ []) (v ∷ u ∷ j ∷ q ∷ []) r ht w (λ g y s h. tt)
        (mean_any numbers n x a v ha m, (mean_any numbers n y b u hb k, (scalar_any n z j (mean_one numbers z c j hc l), (scalar_any n i q (mean_one numbers i d q hd o), tt)))) e f

    signed_field_tells : (n : Option ℕ) (x y z : Argument) (a b c : Tree) (v u j : ValueTree) → Has numbers n t → Has numbers n a → Has numbers None b → Has numbers None c → M x a v → M y b u → M z c j → Tells opcode op.BitFieldSExtract t ls r (x ∷ y ∷ z ∷ []) (v ∷ u ∷ j ∷ [])
    signed_field_tells None x y z a b c v u j ht ha hb hc m k l e f =
        scalar_result numbers t op.BitFieldSExtract ls (operand x ∷ operand y ∷ operand z ∷ []) (v ∷ u ∷ j ∷ []) r ht (λ g s. tt) (mean_one numbers x a v ha m, (mean_one numbers y b u hb k, (mean_one numbers z c j hc l, tt))) e f
    signed_field_tells (Some n) x y z a b c v u j ht ha hb hc m k l e f =
        vector_result numbers n t op.BitFieldSExtract ls (operand x ∷ operand y ∷ operand z ∷ []) (v ∷ u ∷ j ∷ []) r ht w (λ g q s h. tt) (mean_any numbers n x a v ha m, (scalar_any n y u (mean_one numbers y b u hb k), (scalar_any n z j (mean_one numbers z c j hc l), tt))) e f

    unsigned_field_tells : (n : Option ℕ) (x y z : Argument) (a b c : Tree) (v u j : ValueTree) → Has numbers n t → Has numbers n a → Has numbers None b → Has numbers None c → M x a v → M y b u → M z c j → Tells opcode op.BitFieldUExtract t ls r (x ∷ y ∷ z ∷ []) (v ∷ u ∷ j ∷ [])
    unsigned_field_tells None x y z a b c v u j ht ha hb hc m k l e f =
        scalar_result numbers t op.BitFieldUExtract ls (operand x ∷ operand y ∷ operand z ∷ []) (v ∷ u ∷ j ∷ []) r ht (λ g s. tt) (mean_one numbers x a v ha m, (mean_one numbers y b u hb k, (mean_one numbers z c j hc l, tt))) e f
    unsigned_field_tells (Some n) x y z a b c v u j ht ha hb hc m k l e f =
        vector_result numbers n t op.BitFieldUExtract ls (operand x ∷ operand y ∷ operand z ∷ []) (v ∷ u ∷ j ∷ []) r ht w (λ g q s h. tt) (mean_any numbers n x a v ha m, (scalar_any n y u (mean_one numbers y b u hb k), (scalar_any n z j (mean_one numbers z c j hc l), tt))) e f

  -- the operand's value, where its parts are listed again
  back_of : {A : Type 0} (f : ValueTree → A) (vs : ValueTrees) → f (composite (listed vs)) ≡ f (many vs)
  back_of f vs = ap (λ us. f (many us)) (listed_back vs)

  any_tells : (opcode : Op) (ls : List ℕ) (n : ℕ) (x : Argument) (t a : Tree) (v r : ValueTree) → Has truths None t → Has truths (Some n) a → M x a v → Tells opcode op.Any t ls r (x ∷ []) (v ∷ [])
  any_tells opcode ls n x plain.boolean (plain.vector elem.Bool m) (many vs) r ht ha mean e f = any_says p none calls s (operand x) m (listed vs) r (as_vector elem.Bool m x vs mean) refl (back_of (over_truths (list_any (λ b. b))) vs ∙ e)
  any_tells opcode ls n x plain.boolean (plain.vector elem.Bool m) (word c) r ht ha mean e f = cc
  any_tells opcode ls n x plain.boolean (plain.vector elem.Bool m) (truth c) r ht ha mean e f = cc
  any_tells opcode ls n x plain.boolean (plain.vector elem.Int m) v r ht ha mean e f = absurd ha.0
  any_tells opcode ls n x plain.boolean (plain.vector elem.Uint m) v r ht ha mean e f = absurd ha.0
  any_tells opcode ls n x plain.boolean _ v r ht ha mean e f = absurd ha
  any_tells opcode ls n x _ a v r ht ha mean e f = absurd ht

  all_tells : (opcode : Op) (ls : List ℕ) (n : ℕ) (x : Argument) (t a : Tree) (v r : ValueTree) → Has truths None t → Has truths (Some n) a → M x a v → Tells opcode op.All t ls r (x ∷ []) (v ∷ [])
  all_tells opcode ls n x plain.boolean (plain.vector elem.Bool m) (many vs) r ht ha mean e f = all_says p none calls s (operand x) m (listed vs) r (as_vector elem.Bool m x vs mean) refl (back_of (over_truths (list_all (λ b. b))) vs ∙ e)
  all_tells opcode ls n x plain.boolean (plain.vector elem.Bool m) (word c) r ht ha mean e f = cc
  all_tells opcode ls n x plain.boolean (plain.vector elem.Bool m) (truth c) r ht ha mean e f = cc
  all_tells opcode ls n x plain.boolean (plain.vector elem.Int m) v r ht ha mean e f = absurd ha.0
  all_tells opcode ls n x plain.boolean (plain.vector elem.Uint m) v r ht ha mean e f = absurd ha.0
  all_tells opcode ls n x plain.boolean _ v r ht ha mean e f = absurd ha
  all_tells opcode ls n x _ a v r ht ha mean e f = absurd ht

  -- a choice by one truth value is written as one, of whatever shape
  choice_is : (t : Tree) (x y z : Argument) → x.shape ≡ plain.boolean → on_basic op.Select (basic_type t) (operand x ∷ operand y ∷ operand z ∷ []) ≡ choose x.of y.of z.of
  choice_is (plain.vector g n) x y z shape = ap (λ q. if is_none (basic_type q).size then choose x.of y.of z.of else by_component op.Select g n (operand x ∷ operand y ∷ operand z ∷ [])) shape
  choice_is plain.boolean x y z shape = refl
  choice_is plain.int x y z shape = refl
  choice_is plain.uint x y z shape = refl
  choice_is (plain.array t l) x y z shape = refl
  choice_is (plain.runtime t) x y z shape = refl
  choice_is (plain.struct id ts) x y z shape = refl

  one_choice : (t : Tree) (x y z : Argument) (c v u r : ValueTree) → M x plain.boolean c → S y.of (typed_as names t v) → S z.of (typed_as names t u) → by_three chosen c v u ≡ Some r → S (choose x.of y.of z.of) (typed_as names t r)
  one_choice t x y z (truth true) v u r m hy hz e = subst (λ q. S (choose x.of y.of z.of) (typed_as names t q)) (same_Some v r e) (says_choose_first p calls s x.of y.of z.of (typed_as names t v) m.says hy)
  one_choice t x y z (truth false) v u r m hy hz e = subst (λ q. S (choose x.of y.of z.of) (typed_as names t q)) (same_Some u r e) (says_choose_second p calls s x.of y.of z.of (typed_as names t u) m.says hz)
  one_choice t x y z (word a) v u r m hy hz e = let f = m.fit in cc
  one_choice t x y z (many cs) v u r m hy hz e = let f = m.fit in cc

  select_tells : (opcode : Op) (ls : List ℕ) (x y z : Argument) (ct t a b : Tree) (c v u r : ValueTree) → IsWritten p names t → IsCondition ct t → a ≡ t → b ≡ t → M x ct c → M y a v → M z b u → Tells opcode op.Select t ls r (x ∷ y ∷ z ∷ []) (c ∷ v ∷ u ∷ [])
  select_tells opcode ls x y z plain.boolean t a b c v u r w is at bt mx my mz e f =
      subst (λ q. S q (typed_as names t r)) (sym (choice_is t x y z mx.shape)) (one_choice t x y z c v u r mx (subst (λ q. S y.of (typed_as names q v)) at my.says) (subst (λ q. S z.of (typed_as names q u)) bt mz.says) e)
  select_tells opcode ls x y z (plain.vector elem.Bool n) (plain.vector g m) a b c v u r w is at bt mx my mz e f =
      let vy : M y (plain.vector g m) v = subst (λ q. M y q v) at my in
      let vz : M z (plain.vector g m) u = subst (λ q. M z q u) bt mz in
      vectors_say p none calls s g m w.1 w.0 op.Select (plain.vector g m) ls (operand x ∷ operand y ∷ operand z ∷ []) (c ∷ v ∷ u ∷ []) r (ap basic_type vy.shape, ap basic_type vz.shape)
      (vector_any truths m n elem.Bool x c (tt, is) mx, (some_vector g m y v vy, (some_vector g m z u vz, tt))) e (vector_of g m r f)
  select_tells opcode ls x y z _ _ a b c v u r w is at bt mx my mz e f = absurd is

  undef_tells : (opcode : Op) (ls : List ℕ) (xs : List Argument) (vs : List ValueTree) (t : Tree) (r : ValueTree) → IsWritten p names t → IsBasic t → Tells opcode op.Undef t ls r xs vs
  undef_tells opcode ls xs vs plain.boolean r w b e f = subst (λ q. S (on_basic op.Undef (scalar elem.Bool) (map operand xs)) (typed_as names plain.boolean q)) (same_Some (zero_of plain.boolean) r e) (undef_says p calls s elem.Bool (map operand xs))
  undef_tells opcode ls xs vs plain.int r w b e f = subst (λ q. S (on_basic op.Undef (scalar elem.Int) (map operand xs)) (typed_as names plain.int q)) (same_Some (zero_of plain.int) r e) (undef_says p calls s elem.Int (map operand xs))
  undef_tells opcode ls xs vs plain.uint r w b e f = subst (λ q. S (on_basic op.Undef (scalar elem.Uint) (map operand xs)) (typed_as names plain.uint q)) (same_Some (zero_of plain.uint) r e) (undef_says p calls s elem.Uint (map operand xs))
  undef_tells opcode ls xs vs (plain.vector g n) r w b e f = subst (λ q. S (on_basic op.Undef (vector_type g n) (map operand xs)) (typed_as names (plain.vector g n) q)) (same_Some (zero_of (plain.vector g n)) r e) (undef_vector_says p calls s none g n w.1 w.0 (map operand xs))
  undef_tells opcode ls xs vs (plain.array t l) r w b e f = absurd b
  undef_tells opcode ls xs vs (plain.runtime t) r w b e f = absurd b
  undef_tells opcode ls xs vs (plain.struct id ts) r w b e f = absurd b

  -- copies
  either_numbers : (g d : Elem) (n m : ℕ) (x : Argument) → AreAlike g d → n ≡ m → x.shape ≡ plain.vector d m → ((operand x).ty ≡ vector_type g n) ⊎ (IsNumeric g × IsNumeric (operand x).ty.elem)
  either_numbers elem.Bool elem.Bool n m x a same shape = inl (ap basic_type shape ∙ ap (vector_type elem.Bool) (sym same))
  either_numbers elem.Int elem.Int n m x a same shape = inr (tt, subst (λ (q : Tree). IsNumeric (basic_type q).elem) (sym shape) tt)
  either_numbers elem.Int elem.Uint n m x a same shape = inr (tt, subst (λ (q : Tree). IsNumeric (basic_type q).elem) (sym shape) tt)
  either_numbers elem.Uint elem.Int n m x a same shape = inr (tt, subst (λ (q : Tree). IsNumeric (basic_type q).elem) (sym shape) tt)
  either_numbers elem.Uint elem.Uint n m x a same shape = inr (tt, subst (λ (q : Tree). IsNumeric (basic_type q).elem) (sym shape) tt)
  either_numbers elem.Bool elem.Int n m x a same shape = absurd a
  either_numbers elem.Bool elem.Uint n m x a same shape = absurd a
  either_numbers elem.Int elem.Bool n m x a same shape = absurd a
  either_numbers elem.Uint elem.Bool n m x a same shape = absurd a

  whole_copy : (t : Tree) (x : Argument) (v r : ValueTree) → basic_type t ≡ scalar elem.Bool → x.shape ≡ t → S x.of (typed_as names t v) → Some v ≡ Some r → S (converted (scalar elem.Bool) (operand x).ty.elem x.of) (typed_as names t r)
  whole_copy t x v r basic shape say e =
      subst (λ q. S (converted (scalar elem.Bool) (basic_type q).elem x.of) (typed_as names t r)) (sym shape)
      (subst (λ (q : BasicType). S (converted (scalar elem.Bool) q.elem x.of) (typed_as names t r)) (sym basic) (subst (λ q. S x.of (typed_as names t q)) (same_Some v r e) say))

  plain_tells : (ls : List ℕ) (x : Argument) (t a : Tree) (v r : ValueTree) → IsWritten p names t → IsPlainCopy t a → M x a v → value_of_operation op.Copy t ls (v ∷ []) ≡ Some r → fits t r ≡ true → S (on_arguments op.Copy t (x ∷ [])) (typed_as names t r)
  plain_tells ls x plain.boolean plain.boolean v r w c m e f = scalar_result truths plain.boolean op.Copy ls (operand x ∷ []) (v ∷ []) r tt (λ g s. tt) (mean_one truths x plain.boolean v tt m, tt) e f
  plain_tells ls x plain.int plain.int v r w c m e f = scalar_result numbers plain.int op.Copy ls (operand x ∷ []) (v ∷ []) r tt (λ g s. tt) (mean_one numbers x plain.int v tt m, tt) e f
  plain_tells ls x plain.int plain.uint v r w c m e f = scalar_result numbers plain.int op.Copy ls (operand x ∷ []) (v ∷ []) r tt (λ g s. tt) (mean_one numbers x plain.uint v tt m, tt) e f
  plain_tells ls x plain.uint plain.int v r w c m e f = scalar_result numbers plain.uint op.Copy ls (operand x ∷ []) (v ∷ []) r tt (λ g s. tt) (mean_one numbers x plain.int v tt m, tt) e f
  plain_tells ls x plain.uint plain.uint v r w c m e f = scalar_result numbers plain.uint op.Copy ls (operand x ∷ []) (v ∷ []) r tt (λ g s. tt) (mean_one numbers x plain.uint v tt m, tt) e f
  plain_tells ls x (plain.vector g n) (plain.vector d q) v r w c m e f =
      vectors_say p none calls s g n w.1 w.0 op.Copy (plain.vector g n) ls (operand x ∷ []) (v ∷ []) r (either_numbers g d n q x c.0 c.1 m.shape) (subst (λ k. MeansAny p calls s k (operand x) v) (sym c.1) (some_vector d q x v m), tt) e (vector_of g n r f)
  plain_tells ls x (plain.array t l) a v r w c m e f = whole_copy (plain.array t l) x v r refl (m.shape ∙ c) (subst (λ q. S x.of (typed_as names q v)) c m.says) e
  plain_tells ls x (plain.struct id ts) a v r w c m e f = whole_copy (plain.struct id ts) x v r refl (m.shape ∙ c) (subst (λ q. S x.of (typed_as names q v)) c m.says) e
  plain_tells ls x _ _ v r w c m e f = absurd c

  copy_tells : (opcode : Op) (ls : List ℕ) (x : Argument) (t a : Tree) (v r : ValueTree) → IsWritten p names t → IsWritten p names a → IsCopy (is_op opcode code.CopyLogical) t a → M x a v → Tells opcode op.Copy t ls r (x ∷ []) (v ∷ [])
  copy_tells opcode ls x t a v r w wa c m e f = by_test (is_op opcode code.CopyLogical) c
    where
      by_test : (b : Bool) → IsCopy b t a → S (if b then copied names t x.shape x.of else on_arguments op.Copy t (x ∷ [])) (typed_as names t r)
      by_test true c = subst (λ q. S (copied names t q x.of) (typed_as names t r)) (sym m.shape) (subst (λ q. S (copied names t a x.of) (typed_as names t q)) (same_Some v r e) (copied_says p names calls s t a x.of v w wa c.1 c.0 m.fit m.says))
      by_test false c = plain_tells ls x t a v r w c m e f

  -- a component at an index that is computed
  index_tells : (opcode : Op) (ls : List ℕ) (x y : Argument) (g : Elem) (n : ℕ) (t b : Tree) (v i r : ValueTree) → IsWritten p names (plain.vector g n) → t ≡ elem_tree g → Has numbers None b → M x (plain.vector g n) v → M y b i → Tells opcode op.VectorExtractDynamic t ls r (x ∷ y ∷ []) (v ∷ i ∷ [])
  index_tells opcode ls x y g n t b (many vs) (word i) r w is hb mx my e f =
      let here = component_says p none calls s (operand x) (operand y) n i (listed vs) r w.0 (as_vector g n x vs mx) (mean_one numbers y b (word i) hb my) (back_of (λ q. extracted_at q (word i)) vs ∙ e) in
      subst (λ q. S (Expr.index x.of y.of) (typed (text_shape names q) r)) (sym is) (subst (λ q. S (Expr.index x.of y.of) (typed q r)) (sym (scalar_as p names calls s g)) here)
  index_tells opcode ls x y g n t b (many vs) (truth i) r w is hb mx my e f = cc
  index_tells opcode ls x y g n t b (many vs) (many i) r w is hb mx my e f = cc
  index_tells opcode ls x y g n t b (word a) i r w is hb mx my e f = let q = mx.fit in cc
  index_tells opcode ls x y g n t b (truth a) i r w is hb mx my e f = let q = mx.fit in cc

  shuffle_tells : (opcode : Op) (ls : List ℕ) (x y : Argument) (t a b : Tree) (v u r : ValueTree) → IsWritten p names t → IsWritten p names a → IsWritten p names b → IsShuffle t ls a b → M x a v → M y b u → Tells opcode op.VectorShuffle t ls r (x ∷ y ∷ []) (v ∷ u ∷ [])
  shuffle_tells opcode ls x y (plain.vector g n) (plain.vector d m) (plain.vector h k) (many vs) (many us) r w wa wb is mx my e f =
      shuffle_says p calls s g n w.1 names x y m k vs us ls r wa.0 wb.0 (as_vector d m x vs mx) (as_vector h k y us my) is.0 is.1 e (vector_of g n r f)
  shuffle_tells opcode ls x y (plain.vector g n) (plain.vector d m) (plain.vector h k) (many vs) (word c) r w wa wb is mx my e f = cc
  shuffle_tells opcode ls x y (plain.vector g n) (plain.vector d m) (plain.vector h k) (many vs) (truth c) r w wa wb is mx my e f = cc
  shuffle_tells opcode ls x y (plain.vector g n) (plain.vector d m) (plain.vector h k) (word c) u r w wa wb is mx my e f = cc
  shuffle_tells opcode ls x y (plain.vector g n) (plain.vector d m) (plain.vector h k) (truth c) u r w wa wb is mx my e f = cc
  shuffle_tells opcode ls x y _ _ _ v u r w wa wb is mx my e f = absurd is

  -- composites of their parts
  abbrev given_as : List Tree → List ValueTree → List Typed
  given_as (t ∷ ts) (v ∷ vs) = typed_as names t v ∷ given_as ts vs
  given_as _ _ = []

  all_say : (xs : List Argument) (us : List Tree) (vs : List ValueTree) → AllMeanAs p names calls s xs us vs → AllSay p calls s (exprs_in (map (λ (x : Argument). x.of) xs)) (given_as us vs)
  all_say [] [] [] m = tt
  all_say (x ∷ xs) (t ∷ ts) (v ∷ vs) m = (m.0.says, all_say xs ts vs m.1)
  all_say [] [] (v ∷ vs) m = absurd m
  all_say [] (t ∷ ts) vs m = absurd m
  all_say (x ∷ xs) [] vs m = absurd m
  all_say (x ∷ xs) (t ∷ ts) [] m = absurd m

  scalar_part : (g : Elem) (n : ℕ) (t : Tree) (v : ValueTree) → (t ≡ elem_tree g) × (n ≡ 1) → IsPart (typed_as names t v) v
  scalar_part elem.Bool n t v is = subst (λ q. IsPart (typed_as names q v) v) (sym is.0) refl
  scalar_part elem.Int n t v is = subst (λ q. IsPart (typed_as names q v) v) (sym is.0) refl
  scalar_part elem.Uint n t v is = subst (λ q. IsPart (typed_as names q v) v) (sym is.0) refl

  one_part : (g : Elem) (n : ℕ) (t : Tree) (v : ValueTree) → Gives g n t → IsPart (typed_as names t v) v
  one_part g n (plain.vector d m) v is = refl
  one_part g n plain.boolean v is = scalar_part g n plain.boolean v is
  one_part g n plain.int v is = scalar_part g n plain.int v is
  one_part g n plain.uint v is = scalar_part g n plain.uint v is
  one_part g n (plain.array t l) v is = scalar_part g n (plain.array t l) v is
  one_part g n (plain.runtime t) v is = scalar_part g n (plain.runtime t) v is
  one_part g n (plain.struct id ts) v is = scalar_part g n (plain.struct id ts) v is

  all_parts : (g : Elem) (us : List Tree) (vs : List ValueTree) (n : ℕ) → GiveAll g n us → AllFit us vs → AreGiven (given_as us vs) vs
  all_parts g [] [] n is f = tt
  all_parts g [] (v ∷ vs) n is f = absurd f
  all_parts g (u ∷ us) [] n is f = absurd f
  all_parts g (u ∷ us) (v ∷ vs) n is f = (one_part g is.0 u v is.2, all_parts g us vs is.1 is.3 f.1)

  given_same : (t : Tree) (us : List Tree) (vs : List ValueTree) → AreOfShape t us → AllFit us vs → given_as us vs ≡ map (typed_as names t) vs
  given_same t [] [] is f = refl
  given_same t [] (v ∷ vs) is f = absurd f
  given_same t (u ∷ us) [] is f = absurd f
  given_same t (u ∷ us) (v ∷ vs) is f = ap (λ q. typed_as names q v ∷ given_as us vs) is.0 ∙ ap (λ q. typed_as names t v ∷ q) (given_same t us vs is.1 f.1)

  given_members : (ts : Trees) (us : List Tree) (vs : List ValueTree) → AreMembers ts us → AllFit us vs → given_as us vs ≡ members_as names ts vs
  given_members no_trees [] [] is f = refl
  given_members no_trees [] (v ∷ vs) is f = absurd f
  given_members (tree t ts) (u ∷ us) [] is f = absurd f
  given_members (tree t ts) (u ∷ us) (v ∷ vs) is f = ap (λ q. typed_as names q v ∷ given_as us vs) is.0 ∙ ap (λ q. typed_as names t v ∷ q) (given_members ts us vs is.1 f.1)
  given_members no_trees (u ∷ us) vs is f = absurd is
  given_members (tree t ts) [] vs is f = absurd is

  made_tells : (t : Tree) (xs : List Argument) (us : List Tree) (vs : List ValueTree) → IsWritten p names t → AreParts t us → AllMeanAs p names calls s xs us vs → S (constructed names t xs) (typed_as names t (made t vs))
  made_tells (plain.vector g n) xs us vs w is m =
      let all = all_give g us vs n is (all_fit xs us vs m) in
      vector_of_parts_says p calls s g n w.1 names xs (given_as us vs) vs (all_say xs us vs m) (all_parts g us vs n is (all_fit xs us vs m)) (all_of g (flat_map components vs) all.0) all.1
  made_tells (plain.array t (Fixed n)) xs us vs w is m =
      let all = all_of_shape t us vs is.1 (all_fit xs us vs m) in
      array_says p names calls s t n xs vs w (all.1 ∙ is.0) (subst (AllSay p calls s (exprs_in (map (λ (x : Argument). x.of) xs))) (given_same t us vs is.1 (all_fit xs us vs m)) (all_say xs us vs m))
  made_tells (plain.struct id ts) xs us vs w is m =
      struct_says p names calls s id ts xs vs w (all_members ts us vs is (all_fit xs us vs m)) (subst (AllSay p calls s (exprs_in (map (λ (x : Argument). x.of) xs))) (given_members ts us vs is (all_fit xs us vs m)) (all_say xs us vs m))
  made_tells (plain.array t (Spec id)) xs us vs w is m = absurd is
  made_tells (plain.runtime t) xs us vs w is m = absurd is
  made_tells plain.boolean xs us vs w is m = absurd is
  made_tells plain.int xs us vs w is m = absurd is
  made_tells plain.uint xs us vs w is m = absurd is

  -- each operation that is an expression
  pub written_says : (opcode : Op) (o : Operation) (t : Tree) (ls : List ℕ) (xs : List Argument) (us : List Tree) (vs : List ValueTree) (r : ValueTree) → IsWritten p names t → AllWritten p names us → Takes o t ls us → IsExpression opcode o t us → AllMeanAs p names calls s xs us vs
      → value_of_operation o t ls vs ≡ Some r → S (written names opcode o t ls xs) (typed_as names t r)
  written_says opcode o t ls xs us vs r w wu takes is m e = by_operation o takes is e (op_fits o t ls us vs r takes (all_fit xs us vs m) e)
    where
      by_operation : (o : Operation) → Takes o t ls us → IsExpression opcode o t us → Tells opcode o t ls r xs vs
      by_operation (op.Unary o) takes is = with_one _ (Tells opcode (op.Unary o) t ls r) (λ x a v q n. unary_tells opcode t ls r w o q.0 x a v q.1 q.2 n) xs us vs takes m
      by_operation (op.Binary o) takes is = with_two _ (Tells opcode (op.Binary o) t ls r) (λ x y a b v u q n k. binary_tells opcode t ls r w o q.0 x y a b v u q.1 q.2 q.3 n k) xs us vs takes m
      by_operation (op.Comparison o) takes is = with_two _ (Tells opcode (op.Comparison o) t ls r) (λ x y a b v u q n k. comparison_tells opcode t ls r w o q.0 x y a b v u q.1 q.2 q.3 n k) xs us vs takes m
      by_operation (op.Logical o) takes is = with_two _ (Tells opcode (op.Logical o) t ls r) (λ x y a b v u q n k. logical_tells opcode t ls r w o q.0 x y a b v u q.1 q.2 q.3 n k) xs us vs takes m
      by_operation op.LogicalNot takes is = with_one _ (Tells opcode op.LogicalNot t ls r) (λ x a v q n. not_tells opcode t ls r w q.0 x a v q.1 q.2 n) xs us vs takes m
      by_operation (op.Clamp o) takes is = with_three _ (Tells opcode (op.Clamp o) t ls r) (λ x y z a b c v u j q n k l. clamp_tells opcode t ls r w o q.0 x y z a b c v u j q.1 q.2 q.3 q.4 n k l) xs us vs takes m
      by_operation op.BitFieldInsert takes is = with_four _ (Tells opcode op.BitFieldInsert t ls r) (λ x y z i a b c d v u j h q n k l o. insert_tells opcode t ls r w q.0 x y z i a b c d v u j h q.1 q.2 q.3 q.4 q.5 n k l o) xs us vs takes m
      by_operation op.BitFieldSExtract takes is = with_three _ (Tells opcode op.BitFieldSExtract t ls r) (λ x y z a b c v u j q n k l. signed_field_tells opcode t ls r w q.0 x y z a b c v u j q.1 q.2 q.3 q.4 n k l) xs us vs takes m
      by_operation op.BitFieldUExtract takes is = with_three _ (Tells opcode op.BitFieldUExtract t ls r) (λ x y z a b c v u j q n k l. unsigned_field_tells opcode t ls r w q.0 x y z a b c v u j q.1 q.2 q.3 q.4 n k l) xs us vs takes m
      by_operation op.Any takes is = with_one _ (Tells opcode op.Any t ls r) (λ x a v q n. any_tells opcode ls q.0 x t a v r q.1 q.2 n) xs us vs takes m
      by_operation op.All takes is = with_one _ (Tells opcode op.All t ls r) (λ x a v q n. all_tells opcode ls q.0 x t a v r q.1 q.2 n) xs us vs takes m
      by_operation op.Select takes is = with_three _ (Tells opcode op.Select t ls r) (λ x y z a b c v u j q n k l. select_tells opcode ls x y z a t b c v u j r w q.0 q.1 q.2 n k l) xs us vs takes m
      by_operation op.Undef takes is = undef_tells opcode ls xs vs t r w is
      by_operation op.Copy takes is = with_one _ (Tells opcode op.Copy t ls r) (λ x a v q n. copy_tells opcode ls x t a v r w q.1 q.0 n) xs us vs (one_written (IsCopy (is_op opcode code.CopyLogical) t) us wu is) m
      by_operation op.VectorExtractDynamic takes is = with_two _ (Tells opcode op.VectorExtractDynamic t ls r) (λ x y a b v u q n k. index_tells opcode ls x y q.0.0 q.0.1 t b v u r (subst (IsWritten p names) q.0.2 q.1) q.0.3 q.0.4 (subst (λ c. M x c v) q.0.2 n) k) xs us vs (two_written (λ a i. (e : Elem) × (n : ℕ) × (a ≡ plain.vector e n) × (t ≡ elem_tree e) × Has numbers None i) us wu takes) m
      by_operation op.VectorInsertDynamic takes is = absurd is
      by_operation op.VectorShuffle takes is = with_two _ (Tells opcode op.VectorShuffle t ls r) (λ x y a b v u q n k. shuffle_tells opcode ls x y t a b v u r w q.1 q.2 q.0 n k) xs us vs (two_written (IsShuffle t ls) us wu takes) m
      by_operation op.CompositeConstruct takes is = λ e f. subst (λ q. S (constructed names t xs) (typed_as names t q)) (same_Some (made t vs) r e) (made_tells t xs us vs w takes m)
      by_operation op.CompositeExtract takes is = with_one _ (Tells opcode op.CompositeExtract t ls r) (λ x a v q n e f. subst (λ k. S (extracted names k ls x.of) (typed_as names t r)) (sym n.shape) (extracted_says p names calls s ls a t x.of v r q.1 q.0 (extracted_along ls v r e).0 n.says (extracted_along ls v r e).1)) xs us vs (one_written (λ a. shape_at a ls ≡ Some t) us wu takes) m
      by_operation op.CompositeInsert takes is = absurd is

  -- the same by opcode: of OpExtInst the first literal is the number of the operation
  same_operation : (opcode : Op) (ls : List ℕ) → operation_of opcode (slice_index ls 0 ∷ []) ≡ operation_of opcode ls
  unfolding operation_of
  same_operation code.ExtInst ls = refl
  same_operation opcode ls = refl

  pub lowered_says : (opcode : Op) (o : Operation) (t : Tree) (ls : List ℕ) (xs : List Argument) (us : List Tree) (vs : List ValueTree) (r : ValueTree) → operation_of opcode ls ≡ Some o → IsWritten p names t → AllWritten p names us → Takes o t ls us → IsExpression opcode o t us → AllMeanAs p names calls s xs us vs
      → op_value opcode t ls vs ≡ Some r → S (lowered_vector names opcode (slice_index ls 0) t ls xs) (typed_as names t r)
  lowered_says opcode o t ls xs us vs r is w wu takes expression m e =
      subst (λ q. S (written_if_any names opcode q t ls xs) (typed_as names t r)) (sym (same_operation opcode ls ∙ is))
      (written_says opcode o t ls xs us vs r w wu takes expression m (ap (option_and_then (λ o. value_of_operation o t ls vs)) (sym is) ∙ e))

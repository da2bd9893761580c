-- The expression of an operation on vectors, arrays and structs is made of its operands' names, those of components and members, and those of types.
use Rattle.std.proofs.Common.{◌≡◌, ◌<◌, ◌-◌, ◌+◌, ◌==◌, ℕ, zero, suc, Bool, true, false, List, [], ◌∷◌, Option, Some, None, map, nat_lt, refl, arith, if◌then◌else◌}
use Rattle.spv_ops.specs.Opcode.{is as is_code}
use Rattle.spv_ops.specs.declared.Op.{Op}
use Rattle.spv_ops.specs.declared.Op.TheVariants as code
use Rattle.spv_module.specs.declared.tree.Elem.{Elem}
use Rattle.spv_module.specs.declared.tree.Length.{Length}
use Rattle.spv_module.specs.declared.tree.Length.TheVariants.{Fixed, Spec}
use Rattle.spv_types.specs.Tree as shape
use Rattle.spv_types.specs.Tree.{Tree, Trees, no_trees, tree}
use Rattle.glsl_ast.specs.Tree as text
use Rattle.glsl_ast.specs.Tree.{Expr, exprs_in, Extent, TypeName, type_name, build, literal}
use Rattle.glsl_grammar.specs.Spelled.{FitsWord, IsVectorSize}
use Rattle.op_semantics.specs.Value.{operation_of}
use Rattle.op_semantics.specs.declared.operation.Operation.{Operation}
use Rattle.op_semantics.specs.declared.operation.Operation.TheVariants as op
use Rattle.int_lowering.specs.declared.built_ins.BuiltIn.{BuiltIn}
use Rattle.int_lowering.specs.Operand.{Operand, scalar, basic_type, literal_of, first}
use Rattle.int_lowering.specs.Term.{built_in_name}
use Rattle.int_lowering.specs.Lowered.{applied}
use Rattle.vec_lowering.specs.Named.{Naming, extent_of_length, array_of, shape_type}
use Rattle.vec_lowering.specs.Component.{axis_name, component_of, component, each_below, by_component, is_alike, on_basic}
use Rattle.vec_lowering.specs.Composite.{Argument, operand, first_of, rest_of, second_of, nth_or, element, axis, member_of, extracted, vector_size, picked, has_struct, array_part, fixed_length, struct_id, struct_parts, copied, copied_parts}
use Rattle.vec_lowering.specs.Lowered.{copied_from, on_arguments, written, written_if_any, lowered_vector}
use Rattle.claim_law.specs.Uses.{Words, UsesExtent, UsesType, UsesExpr, UseExprs, UseEach}
use Rattle.claim_law.specs.Named.{FitsSize, FitsShape, LeadIn, IsUsed, AreUsed, IsArgument, AreArguments, IsNamedLength, IsNamedType, AreNamedAlong, CanCopy, CanCopyParts, Asks, AsksIfAny}
use Rattle.claim_law.proofs.Spell.Scalars.{if-uses, each-uses, literal-uses, named-uses, zero-uses, applied-uses, both-use}

basic-fits : (t : Tree) → FitsShape t → FitsSize (basic_type t).size
basic-fits shape.boolean fits = tt
basic-fits shape.int fits = tt
basic-fits shape.uint fits = tt
basic-fits (shape.vector e n) fits = fits
basic-fits (shape.array t l) fits = tt
basic-fits (shape.runtime t) fits = tt
basic-fits (shape.struct id ts) fits = tt

module _ (W : Words) (built : (f : BuiltIn) → W.called (built_in_name f)) (axes : (k : ℕ) → W.member (axis_name k)) where
  below-use : (n : ℕ) (f : ℕ → Expr) → ((k : ℕ) → UsesExpr W (f k)) → UseEach W (each_below n f)
  below-use zero f each = tt
  below-use (suc n) f each = both-use W (each_below n f) (f n ∷ []) (below-use n f each) (each n, tt)

  -- components
  part-used : (o : Option ℕ) (k : ℕ) (x : Operand) → IsUsed W x → IsUsed W (component_of o k x)
  part-used None k x used = used
  part-used (Some n) k x used = record { expr = (used.expr, axes k); size = tt; word = tt }

  parts-used : (k : ℕ) (xs : List Operand) → AreUsed W xs → AreUsed W (map (component k) xs)
  parts-used k [] used = tt
  parts-used k (x ∷ xs) used = (part-used x.ty.size k x used.0, parts-used k xs used.1)

  component-uses : (o : Operation) (e : Elem) (n : ℕ) (xs : List Operand) → IsVectorSize n → AreUsed W xs → UsesExpr W (by_component o e n xs)
  component-uses o e n xs fits used = (
    named-uses W e (Some n) fits,
    each-uses W (each_below n (λ k. applied o (scalar e) (map (component k) xs))) (below-use n (λ k. applied o (scalar e) (map (component k) xs)) (λ k. applied-uses W built o (scalar e) (map (component k) xs) tt (parts-used k xs used))),
  )

  sized-uses : (o : Operation) (e : Elem) (size : Option ℕ) (xs : List Operand) → FitsSize size → AreUsed W xs → UsesExpr W (on_basic o (record { elem = e; size = size }) xs)
  sized-uses o e None xs fits used = applied-uses W built o (scalar e) xs tt used
  sized-uses o e (Some n) xs fits used =
      if-uses W (is_alike o (first xs).ty) (applied o (record { elem = e; size = Some n }) xs) (by_component o e n xs) (applied-uses W built o (record { elem = e; size = Some n }) xs fits used) (component-uses o e n xs fits used)

  operands-used : (xs : List Argument) → AreArguments W xs → AreUsed W (map operand xs)
  operands-used [] used = tt
  operands-used (x ∷ xs) used = (record { expr = used.0.of; size = basic-fits x.shape used.0.shape; word = used.0.word }, operands-used xs used.1)

  arguments-use : (o : Operation) (t : Tree) (xs : List Argument) → FitsShape t → AreArguments W xs → UsesExpr W (on_arguments o t xs)
  arguments-use o t xs fits used = sized-uses o (basic_type t).elem (basic_type t).size (map operand xs) (basic-fits t fits) (operands-used xs used)

  exprs-use : (xs : List Argument) → AreArguments W xs → UseEach W (map (λ (a : Argument). a.of) xs)
  exprs-use [] used = tt
  exprs-use (x ∷ xs) used = (used.0.of, exprs-use xs used.1)

  -- operands that may be missing
  first-argument : (xs : List Argument) → AreArguments W xs → IsArgument W (first_of xs)
  first-argument [] used = record { of = (let none : FitsWord 0 = omega arith in none); shape = tt; word = tt }
  first-argument (x ∷ xs) used = used.0

  rest-arguments : (xs : List Argument) → AreArguments W xs → AreArguments W (rest_of xs)
  rest-arguments [] used = tt
  rest-arguments (x ∷ xs) used = used.1

  second-argument : (xs : List Argument) → AreArguments W xs → IsArgument W (second_of xs)
  second-argument xs used = first-argument (rest_of xs) (rest-arguments xs used)

  module _ (names : Naming) where
    -- names of types
    array-uses : (x : Extent) (t : TypeName) → UsesExtent W x → UsesType W t → UsesType W (array_of x t)
    array-uses x (type_name b es) p q = (q.0, (p, q.1))

    length-uses : (l : Length) → IsNamedLength W names l → UsesExtent W (extent_of_length names l)
    length-uses (Fixed n) named = named
    length-uses (Spec id) named = named

    pub type-uses : (t : Tree) → IsNamedType W names t → UsesType W (shape_type names t)
    type-uses shape.boolean named = (tt, tt)
    type-uses shape.int named = (tt, tt)
    type-uses shape.uint named = (tt, tt)
    type-uses (shape.vector e n) named = named-uses W e (Some n) named
    type-uses (shape.array t l) named = array-uses (extent_of_length names l) (shape_type names t) (length-uses l named.0) (type-uses t named.1)
    type-uses (shape.runtime t) named = array-uses text.open_end (shape_type names t) tt (type-uses t named)
    type-uses (shape.struct id ts) named = (named, tt)

    -- parts
    extracted-uses : (t : Tree) (is : List ℕ) (e : Expr) → AreNamedAlong W names t is → LeadIn t is → UsesExpr W e → UsesExpr W (extracted names t is e)
    extracted-uses t [] e named lead has = has
    extracted-uses shape.boolean (i ∷ is) e named lead has = has
    extracted-uses shape.int (i ∷ is) e named lead has = has
    extracted-uses shape.uint (i ∷ is) e named lead has = has
    extracted-uses (shape.vector f n) (i ∷ is) e named lead has = (has, axes i)
    extracted-uses (shape.array t l) (i ∷ is) e named lead has = extracted-uses t is (element e i) named lead.1 (has, lead.0)
    extracted-uses (shape.runtime t) (i ∷ is) e named lead has = extracted-uses t is (element e i) named lead.1 (has, lead.0)
    extracted-uses (shape.struct id ts) (i ∷ is) e named lead has = extracted-uses (nth_or ts i shape.boolean) is (member_of names e id i) named.1 lead (has, named.0)

    picked-uses : (e : Elem) (a b : Argument) (k : ℕ) → IsArgument W a → IsArgument W b → UsesExpr W (picked e a b k)
    picked-uses e a b k p q =
        if-uses W (k == 4294967295) (literal (literal_of e 0)) _ (literal-uses W e 0 (omega arith)) (if-uses W (nat_lt k (vector_size a.shape)) (axis a.of k) (axis b.of (k - vector_size a.shape)) (p.of, axes k) (q.of, axes (k - vector_size a.shape)))

    picks-use : (e : Elem) (a b : Argument) (ks : List ℕ) → IsArgument W a → IsArgument W b → UseEach W (map (picked e a b) ks)
    picks-use e a b [] p q = tt
    picks-use e a b (k ∷ ks) p q = (picked-uses e a b k p q, picks-use e a b ks p q)

    -- copies
    below-fits : (n : ℕ) (f : ℕ → Expr) → ((k : ℕ) → k < n → UsesExpr W (f k)) → UseEach W (each_below n f)
    below-fits zero f each = tt
    below-fits (suc n) f each = both-use W (each_below n f) (f n ∷ []) (below-fits n f (λ k less. each k (omega (arith, less)))) (each n (omega arith), tt)

    length-fits : (l : Length) → IsNamedLength W names l → (k : ℕ) → k < fixed_length l → FitsWord k
    length-fits (Fixed n) named k less = omega (arith, named, less)
    length-fits (Spec id) named k less = absurd (omega (arith, less))

    mutual
      copied-uses : (t from : Tree) (e : Expr) → CanCopy W names t from → UsesExpr W e → UsesExpr W (copied names t from e)
      copied-uses shape.boolean from e can has = has
      copied-uses shape.int from e can has = has
      copied-uses shape.uint from e can has = has
      copied-uses (shape.vector f n) from e can has = has
      copied-uses (shape.runtime t) from e can has = has
      copied-uses (shape.array t l) from e can has =
          if-uses W (has_struct t) (build (shape_type names (shape.array t l)) (exprs_in (each_below (fixed_length l) (λ k. copied names t (array_part from) (element e k))))) e (
            type-uses (shape.array t l) can.0,
            each-uses W (each_below (fixed_length l) (λ k. copied names t (array_part from) (element e k))) (below-fits (fixed_length l) (λ k. copied names t (array_part from) (element e k)) (λ k less. copied-uses t (array_part from) (element e k) can.1 (has, length-fits l can.0.0 k less))),
          )
          has
      copied-uses (shape.struct id ts) from e can has = (type-uses (shape.struct id ts) can.0, copies-use ts (struct_id from) (struct_parts from) 0 e can.1 has)

      copies-use : (ts : Trees) (id : ℕ) (from : Trees) (k : ℕ) (e : Expr) → CanCopyParts W names ts id from k → UsesExpr W e → UseExprs W (copied_parts names ts id from k e)
      copies-use no_trees id from k e can has = tt
      copies-use (tree t ts) id from k e can has = (copied-uses t (nth_or from k shape.boolean) (member_of names e id k) can.1 (has, can.0), copies-use ts id from (k + 1) e can.2 has)

    written-uses : (o : Op) (operation : Operation) (t : Tree) (literals : List ℕ) (xs : List Argument) → FitsShape t → AreArguments W xs → Asks W names o operation t literals xs → UsesExpr W (written names o operation t literals xs)
    written-uses o op.CompositeConstruct t literals xs fits used asks = (type-uses t asks, each-uses W (map (λ (a : Argument). a.of) xs) (exprs-use xs used))
    written-uses o op.CompositeExtract t literals xs fits used asks = extracted-uses (first_of xs).shape literals (first_of xs).of asks.0 asks.1 (first-argument xs used).of
    written-uses o op.VectorExtractDynamic t literals xs fits used asks = ((first-argument xs used).of, (second-argument xs used).of)
    written-uses o op.VectorShuffle t literals xs fits used asks =
        (type-uses t asks, each-uses W (map (picked (basic_type t).elem (first_of xs) (second_of xs)) literals) (picks-use (basic_type t).elem (first_of xs) (second_of xs) literals (first-argument xs used) (second-argument xs used)))
    written-uses o op.Copy t literals xs fits used asks = by_test (is_code o code.CopyLogical) refl
      where
        by_test : (b : Bool) → is_code o code.CopyLogical ≡ b → UsesExpr W (if b then copied_from names t xs else on_arguments op.Copy t xs)
        by_test true on = copied-uses t (first_of xs).shape (first_of xs).of (asks on) (first-argument xs used).of
        by_test false off = arguments-use op.Copy t xs fits used
    written-uses o (op.Unary f) t literals xs fits used asks = arguments-use (op.Unary f) t xs fits used
    written-uses o (op.Binary f) t literals xs fits used asks = arguments-use (op.Binary f) t xs fits used
    written-uses o (op.Comparison f) t literals xs fits used asks = arguments-use (op.Comparison f) t xs fits used
    written-uses o (op.Logical f) t literals xs fits used asks = arguments-use (op.Logical f) t xs fits used
    written-uses o op.LogicalNot t literals xs fits used asks = arguments-use op.LogicalNot t xs fits used
    written-uses o (op.Clamp f) t literals xs fits used asks = arguments-use (op.Clamp f) t xs fits used
    written-uses o op.BitFieldInsert t literals xs fits used asks = arguments-use op.BitFieldInsert t xs fits used
    written-uses o op.BitFieldSExtract t literals xs fits used asks = arguments-use op.BitFieldSExtract t xs fits used
    written-uses o op.BitFieldUExtract t literals xs fits used asks = arguments-use op.BitFieldUExtract t xs fits used
    written-uses o op.Any t literals xs fits used asks = arguments-use op.Any t xs fits used
    written-uses o op.All t literals xs fits used asks = arguments-use op.All t xs fits used
    written-uses o op.Select t literals xs fits used asks = arguments-use op.Select t xs fits used
    written-uses o op.Undef t literals xs fits used asks = arguments-use op.Undef t xs fits used
    written-uses o op.VectorInsertDynamic t literals xs fits used asks = arguments-use op.VectorInsertDynamic t xs fits used
    written-uses o op.CompositeInsert t literals xs fits used asks = arguments-use op.CompositeInsert t xs fits used

    -- the law: an operation as it is written, from its operands
    pub lowered-uses : (o : Op) (number : ℕ) (t : Tree) (literals : List ℕ) (xs : List Argument) → FitsShape t → AreArguments W xs → AsksIfAny W names o (operation_of o (number ∷ [])) t literals xs → UsesExpr W (lowered_vector names o number t literals xs)
    lowered-uses o number t literals xs fits used asks = by_operation (operation_of o (number ∷ [])) asks
      where
        by_operation : (x : Option Operation) → AsksIfAny W names o x t literals xs → UsesExpr W (written_if_any names o x t literals xs)
        by_operation None asks = zero-uses W built (basic_type t)
        by_operation (Some x) asks = written-uses o x t literals xs fits used asks

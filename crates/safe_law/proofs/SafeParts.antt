-- The expression of an operation on vectors, arrays and structs writes nothing but what its operands write; nor does a zero.
use Rattle.std.proofs.Common.{◌-◌, ◌+◌, ◌==◌, ℕ, zero, suc, Bool, List, [], ◌∷◌, ◌++◌, Option, Some, None, map, replicate, nat_lt}
use Rattle.spv_ops.specs.Opcode.{is as is_code}
use Rattle.spv_ops.specs.declared.Op.{Op}
use Rattle.spv_ops.specs.declared.Op.TheVariants as code
use Rattle.spv_module.specs.declared.tree.Elem.{Elem}
use Rattle.spv_module.specs.declared.tree.Elem.TheVariants as elem
use Rattle.spv_module.specs.declared.tree.Length.TheVariants.{Fixed, Spec}
use Rattle.spv_types.specs.Tree as shape
use Rattle.spv_types.specs.Tree.{Tree, Trees, no_trees, tree}
use Rattle.glsl_ast.specs.Tree.{Text, Expr, exprs_in, build, literal}
use Rattle.op_semantics.specs.Value.{operation_of}
use Rattle.op_semantics.specs.declared.operation.Operation.{Operation}
use Rattle.op_semantics.specs.declared.operation.Operation.TheVariants as op
use Rattle.int_lowering.specs.Operand.{Operand, scalar, type_named, basic_type, literal_of, first}
use Rattle.int_lowering.specs.Lowered.{applied}
use Rattle.vec_lowering.specs.Named.{Naming, shape_type}
use Rattle.vec_lowering.specs.Component.{component_of, component, each_below, by_component, is_alike, on_basic}
use Rattle.vec_lowering.specs.Composite.{Argument, operand, first_of, rest_of, second_of, nth_or, element, axis, member_of, extracted, vector_size, picked, has_struct, array_part, fixed_length, struct_id, struct_parts, copied, copied_parts}
use Rattle.vec_lowering.specs.Lowered.{copied_from, on_arguments, written, written_if_any, lowered_vector}
use Rattle.text_rules.specs.Types.{Spelling, zero_elem, zero_text, zero_texts}
use Rattle.write_law.specs.Writes.{ExprsWrite}
use Rattle.safe_law.specs.Safe.{IsSafe, AreSafe}
use Rattle.safe_law.proofs.SafeScalars.{if_safe, literal_safe, build_safe, exprs_write, O, AreOperands, zero_safe, applied_safe}

module _ (W : Text → Type 0) where
  abbrev S : Expr → Type 0
  S = IsSafe W

  pub both_are : (xs ys : List Expr) → AreSafe W xs → AreSafe W ys → AreSafe W (xs ++ ys)
  both_are [] ys p q = q
  both_are (x ∷ xs) ys p q = (p.0, both_are xs ys p.1 q)

  below_are : (n : ℕ) (f : ℕ → Expr) → ((k : ℕ) → S (f k)) → AreSafe W (each_below n f)
  below_are zero f each = tt
  below_are (suc n) f each = both_are (each_below n f) (f n ∷ []) (below_are n f each) (each n, tt)

  -- components
  part_safe : (o : Option ℕ) (k : ℕ) (x : Operand) → O W x → O W (component_of o k x)
  part_safe None k x has = has
  part_safe (Some n) k x has = has

  parts_safe : (k : ℕ) (xs : List Operand) → AreOperands W xs → AreOperands W (map (component k) xs)
  parts_safe k [] are = tt
  parts_safe k (x ∷ xs) are = (part_safe x.ty.size k x are.0, parts_safe k xs are.1)

  components_safe : (o : Operation) (e : Elem) (n : ℕ) (xs : List Operand) → AreOperands W xs → S (by_component o e n xs)
  components_safe o e n xs are =
      build_safe W (type_named (record { elem = e; size = Some n })) (each_below n (λ k. applied o (scalar e) (map (component k) xs))) (below_are n (λ k. applied o (scalar e) (map (component k) xs)) (λ k. applied_safe W o (scalar e) (map (component k) xs) (parts_safe k xs are)))

  sized_safe : (o : Operation) (e : Elem) (size : Option ℕ) (xs : List Operand) → AreOperands W xs → S (on_basic o (record { elem = e; size = size }) xs)
  sized_safe o e None xs are = applied_safe W o (scalar e) xs are
  sized_safe o e (Some n) xs are =
      if_safe W (is_alike o (first xs).ty) (applied o (record { elem = e; size = Some n }) xs) (by_component o e n xs) (applied_safe W o (record { elem = e; size = Some n }) xs are) (components_safe o e n xs are)

  -- arguments that are safe
  abbrev pub AreArguments : List Argument → Type 0
  AreArguments [] = Unit {0}
  AreArguments (a ∷ as') = S a.of × AreArguments as'

  operands_safe : (xs : List Argument) → AreArguments xs → AreOperands W (map operand xs)
  operands_safe [] are = tt
  operands_safe (x ∷ xs) are = (are.0, operands_safe xs are.1)

  on_safe : (o : Operation) (t : Tree) (xs : List Argument) → AreArguments xs → S (on_arguments o t xs)
  on_safe o t xs are = sized_safe o (basic_type t).elem (basic_type t).size (map operand xs) (operands_safe xs are)

  exprs_safe : (xs : List Argument) → AreArguments xs → AreSafe W (map (λ (a : Argument). a.of) xs)
  exprs_safe [] are = tt
  exprs_safe (x ∷ xs) are = (are.0, exprs_safe xs are.1)

  first_argument : (xs : List Argument) → AreArguments xs → S (first_of xs).of
  first_argument [] are = (tt, tt)
  first_argument (x ∷ xs) are = are.0

  rest_arguments : (xs : List Argument) → AreArguments xs → AreArguments (rest_of xs)
  rest_arguments [] are = tt
  rest_arguments (x ∷ xs) are = are.1

  second_argument : (xs : List Argument) → AreArguments xs → S (second_of xs).of
  second_argument xs are = first_argument (rest_of xs) (rest_arguments xs are)

  element_safe : (e : Expr) (i : ℕ) → S e → S (element e i)
  element_safe e i has = (has.0, (has.1, tt))

  module _ (names : Naming) where
    -- parts
    extracted_safe : (t : Tree) (is : List ℕ) (e : Expr) → S e → S (extracted names t is e)
    extracted_safe t [] e has = has
    extracted_safe shape.boolean (i ∷ is) e has = has
    extracted_safe shape.int (i ∷ is) e has = has
    extracted_safe shape.uint (i ∷ is) e has = has
    extracted_safe (shape.vector f n) (i ∷ is) e has = has
    extracted_safe (shape.array t l) (i ∷ is) e has = extracted_safe t is (element e i) (element_safe e i has)
    extracted_safe (shape.runtime t) (i ∷ is) e has = extracted_safe t is (element e i) (element_safe e i has)
    extracted_safe (shape.struct id ts) (i ∷ is) e has = extracted_safe (nth_or ts i shape.boolean) is (member_of names e id i) has

    picked_safe : (e : Elem) (a b : Argument) (k : ℕ) → S a.of → S b.of → S (picked e a b k)
    picked_safe e a b k p q =
        if_safe W (k == 4294967295) (literal (literal_of e 0)) _ (literal_safe W (literal_of e 0)) (if_safe W (nat_lt k (vector_size a.shape)) (axis a.of k) (axis b.of (k - vector_size a.shape)) p q)

    picks_safe : (e : Elem) (a b : Argument) (ks : List ℕ) → S a.of → S b.of → AreSafe W (map (picked e a b) ks)
    picks_safe e a b [] p q = tt
    picks_safe e a b (k ∷ ks) p q = (picked_safe e a b k p q, picks_safe e a b ks p q)

    -- copies
    mutual
      copied_safe : (t from : Tree) (e : Expr) → S e → S (copied names t from e)
      copied_safe shape.boolean from e has = has
      copied_safe shape.int from e has = has
      copied_safe shape.uint from e has = has
      copied_safe (shape.vector f n) from e has = has
      copied_safe (shape.runtime t) from e has = has
      copied_safe (shape.array t l) from e has =
          if_safe W (has_struct t) (build (shape_type names (shape.array t l)) (exprs_in (each_below (fixed_length l) (λ k. copied names t (array_part from) (element e k))))) e
          (build_safe W (shape_type names (shape.array t l)) (each_below (fixed_length l) (λ k. copied names t (array_part from) (element e k))) (below_are (fixed_length l) (λ k. copied names t (array_part from) (element e k)) (λ k. copied_safe t (array_part from) (element e k) (element_safe e k has))))
          has
      copied_safe (shape.struct id ts) from e has = (tt, copies_write ts (struct_id from) (struct_parts from) 0 e has)

      copies_write : (ts : Trees) (id : ℕ) (from : Trees) (k : ℕ) (e : Expr) → S e → ExprsWrite W (copied_parts names ts id from k e)
      copies_write no_trees id from k e has = tt
      copies_write (tree t ts) id from k e has = ((copied_safe t (nth_or from k shape.boolean) (member_of names e id k) has).1, copies_write ts id from (k + 1) e has)

    written_safe : (o : Op) (operation : Operation) (t : Tree) (literals : List ℕ) (xs : List Argument) → AreArguments xs → S (written names o operation t literals xs)
    written_safe o op.CompositeConstruct t literals xs are = build_safe W (shape_type names t) (map (λ (a : Argument). a.of) xs) (exprs_safe xs are)
    written_safe o op.CompositeExtract t literals xs are = extracted_safe (first_of xs).shape literals (first_of xs).of (first_argument xs are)
    written_safe o op.VectorExtractDynamic t literals xs are = let p = first_argument xs are in (p.0, (p.1, (second_argument xs are).1))
    written_safe o op.VectorShuffle t literals xs are =
        build_safe W (shape_type names t) (map (picked (basic_type t).elem (first_of xs) (second_of xs)) literals) (picks_safe (basic_type t).elem (first_of xs) (second_of xs) literals (first_argument xs are) (second_argument xs are))
    written_safe o op.Copy t literals xs are = if_safe W (is_code o code.CopyLogical) (copied_from names t xs) (on_arguments op.Copy t xs) (copied_safe t (first_of xs).shape (first_of xs).of (first_argument xs are)) (on_safe op.Copy t xs are)
    written_safe o (op.Unary f) t literals xs are = on_safe (op.Unary f) t xs are
    written_safe o (op.Binary f) t literals xs are = on_safe (op.Binary f) t xs are
    written_safe o (op.Comparison f) t literals xs are = on_safe (op.Comparison f) t xs are
    written_safe o (op.Logical f) t literals xs are = on_safe (op.Logical f) t xs are
    written_safe o op.LogicalNot t literals xs are = on_safe op.LogicalNot t xs are
    written_safe o (op.Clamp f) t literals xs are = on_safe (op.Clamp f) t xs are
    written_safe o op.BitFieldInsert t literals xs are = on_safe op.BitFieldInsert t xs are
    written_safe o op.BitFieldSExtract t literals xs are = on_safe op.BitFieldSExtract t xs are
    written_safe o op.BitFieldUExtract t literals xs are = on_safe op.BitFieldUExtract t xs are
    written_safe o op.Any t literals xs are = on_safe op.Any t xs are
    written_safe o op.All t literals xs are = on_safe op.All t xs are
    written_safe o op.Select t literals xs are = on_safe op.Select t xs are
    written_safe o op.Undef t literals xs are = on_safe op.Undef t xs are
    written_safe o op.VectorInsertDynamic t literals xs are = on_safe op.VectorInsertDynamic t xs are
    written_safe o op.CompositeInsert t literals xs are = on_safe op.CompositeInsert t xs are

    -- the law: an operation as it is written, from its operands
    pub lowered_safe : (o : Op) (number : ℕ) (t : Tree) (literals : List ℕ) (xs : List Argument) → AreArguments xs → S (lowered_vector names o number t literals xs)
    lowered_safe o number t literals xs are = by_operation (operation_of o (number ∷ []))
      where
        by_operation : (x : Option Operation) → S (written_if_any names o x t literals xs)
        by_operation None = zero_safe W (basic_type t)
        by_operation (Some x) = written_safe o x t literals xs are

  -- zeros
  same_are : (n : ℕ) (e : Expr) → S e → AreSafe W (replicate n e)
  same_are zero e has = tt
  same_are (suc n) e has = (has, same_are n e has)

  elem_safe : (e : Elem) → S (zero_elem e)
  elem_safe elem.Bool = (tt, tt)
  elem_safe elem.Int = (tt, tt)
  elem_safe elem.Uint = (tt, tt)

  mutual
    pub zero_text_safe : (s : Spelling) (t : Tree) → S (zero_text s t)
    zero_text_safe s shape.boolean = (tt, tt)
    zero_text_safe s shape.int = (tt, tt)
    zero_text_safe s shape.uint = (tt, tt)
    zero_text_safe s (shape.vector e n) = (tt, exprs_write W (replicate n (zero_elem e)) (same_are n (zero_elem e) (elem_safe e)))
    zero_text_safe s (shape.array t (Fixed n)) = (tt, exprs_write W (replicate n (zero_text s t)) (same_are n (zero_text s t) (zero_text_safe s t)))
    zero_text_safe s (shape.array t (Spec id)) = (tt, tt)
    zero_text_safe s (shape.runtime t) = (tt, tt)
    zero_text_safe s (shape.struct id ts) = (tt, zeros_write s ts)

    zeros_write : (s : Spelling) (ts : Trees) → ExprsWrite W (zero_texts s ts)
    zeros_write s no_trees = tt
    zeros_write s (tree t ts) = ((zero_text_safe s t).1, zeros_write s ts)

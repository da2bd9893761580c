-- The expression of an operation on shapes at most 15 deep is at most 40 higher than the highest of its operands.
use Rattle.std.proofs.Common.{◌≡◌, ℕ, zero, suc, ◌+◌, ◌*◌, ◌≤◌, Bool as Truth, true, false, List, [], ◌∷◌, ◌++◌, Option, Some, None, Result, Ok, Err, IfOk, max, map, arith, sym, subst, nat_lt, ◌==◌, ◌-◌, if◌then◌else◌}
use Rattle.list_law.proofs.Numbers.{le_on}
use Rattle.spv_ops.specs.Opcode.{is as is_code}
use Rattle.spv_ops.specs.declared.Op.{Op}
use Rattle.spv_ops.specs.declared.Op.TheVariants as code
use Rattle.spv_module.specs.declared.tree.Elem.{Elem}
use Rattle.spv_module.specs.declared.tree.Length.{Length}
use Rattle.spv_module.specs.declared.tree.Length.TheVariants.{Fixed, Spec}
use Rattle.spv_types.specs.Tree.{Tree, boolean, int, uint, vector, array, runtime, struct, Trees, no_trees, tree}
use Rattle.out_of_memory.specs.declared.Memory.{Memory}
use Rattle.glsl_ast.specs.Tree as ast
use Rattle.glsl_ast.specs.Tree.{Expr, TypeName, type_name, Extent, exprs_in}
use Rattle.glsl_ast.specs.View.{expr_of}
use Rattle.glsl_ast.specs.declared.expressions.Expr.{Expr as Code}
use Rattle.glsl_ast.specs.Height.{height, heights, type_height, extent_height}
use Rattle.op_semantics.specs.Value.{operation_of}
use Rattle.op_semantics.specs.declared.operation.Operation.{Operation}
use Rattle.op_semantics.specs.declared.operation.Operation.TheVariants as op
use Rattle.int_lowering.specs.declared.basic.BasicType.{BasicType}
use Rattle.int_lowering.specs.Operand.{Operand, scalar, basic_type, type_named, literal_of, first, highest_operand}
use Rattle.int_lowering.specs.Lowered.{applied}
use Rattle.int_lowering.proofs.Heights.{height-close, base-flat}
use Rattle.vec_lowering.specs.Named.{Naming, extent_of_length, array_of, shape_type}
use Rattle.vec_lowering.specs.Component.{component, component_of, each_below, by_component, is_alike, on_basic}
use Rattle.vec_lowering.specs.Composite.{Argument, operand, first_of, rest_of, second_of, constructed, nth_or, element, axis, member_of, extracted, vector_size, picked, has_struct, array_part, fixed_length, struct_id, struct_parts, copied, copied_parts}
use Rattle.vec_lowering.specs.Depth.{depth, deepest, deepest_argument, highest_argument}
use Rattle.vec_lowering.specs.Lowered.{extracted_from, extracted_at, shuffled_of, copied_from, on_arguments, copy_by, written, written_if_any, lowered_vector}

max-within : (a b n : ℕ) → a ≤ n → b ≤ n → max a b ≤ n
max-within a b n p q = omega arith

choice-le : (b : Truth) (x y : Expr) (n : ℕ) → height x ≤ n → height y ≤ n → height (if b then x else y) ≤ n
choice-le true x y n p q = p
choice-le false x y n p q = q

-- no expression is of no height
some-high : (e : Expr) → 1 ≤ height e
some-high (ast.literal l) = omega arith
some-high (ast.name w) = omega arith
some-high (ast.build t es) = omega arith
some-high (Expr.call w es) = omega arith
some-high (ast.not e) = omega arith
some-high (ast.flip e) = omega arith
some-high (ast.binary o a b) = omega arith
some-high (ast.choose c a b) = omega arith
some-high (Expr.member e w) = omega arith
some-high (Expr.index a b) = omega arith
some-high (ast.length_of e) = omega arith

-- a type is at most two high
array-le : (x : Extent) (ty : TypeName) → extent_height x ≤ 1 → type_height ty ≤ 2 → type_height (array_of x ty) ≤ 2
array-le x (type_name b xs) p q = omega arith

length-le : (names : Naming) (l : Length) → extent_height (extent_of_length names l) ≤ 1
length-le names (Fixed n) = omega arith
length-le names (Spec id) = omega arith

named-le : (ty : BasicType) → type_height (type_named ty) ≤ 1
named-le ty = omega (arith, base-flat ty.elem ty.size)

type-le : (names : Naming) (t : Tree) → type_height (shape_type names t) ≤ 2
type-le names boolean = omega arith
type-le names int = omega arith
type-le names uint = omega arith
type-le names (vector e n) = omega (arith, named-le (record { elem = e; size = Some n }))
type-le names (array t l) = array-le (extent_of_length names l) (shape_type names t) (length-le names l) (type-le names t)
type-le names (runtime t) = array-le ast.open_end (shape_type names t) (omega arith) (type-le names t)
type-le names (struct id ts) = omega arith

built-le : (names : Naming) (t : Tree) (es : ast.Exprs) (n : ℕ) → heights es ≤ n → height (ast.build (shape_type names t) es) ≤ n + 3
built-le names t es n p = omega (arith, type-le names t)

built-high : (names : Naming) (t : Tree) (es : ast.Exprs) (n : ℕ) → 2 ≤ n → heights es ≤ n → height (ast.build (shape_type names t) es) ≤ n + 1
built-high names t es n some p = omega (arith, type-le names t)

push-le : (es : List Expr) (e : Expr) (n : ℕ) → heights (exprs_in es) ≤ n → height e ≤ n → heights (exprs_in (es ++ e ∷ [])) ≤ n
push-le [] e n p q = omega arith
push-le (x ∷ es) e n p q = omega (arith, push-le es e n (omega arith) q)

each-le : (count : ℕ) (f : ℕ → Expr) (n : ℕ) → ((k : ℕ) → height (f k) ≤ n) → heights (exprs_in (each_below count f)) ≤ n
each-le zero f n p = omega arith
each-le (suc count) f n p = push-le (each_below count f) (f count) n (each-le count f n p) (p count)

-- a component is at most two higher
part-le : (size : Option ℕ) (k : ℕ) (x : Operand) → height (component_of size k x).expr ≤ height x.expr + 2
part-le (Some n) k x = omega arith
part-le None k x = omega arith

parts-le : (k : ℕ) (xs : List Operand) → highest_operand (map (component k) xs) ≤ highest_operand xs + 2
parts-le k [] = omega arith
parts-le k (x ∷ xs) = omega (arith, part-le x.ty.size k x, parts-le k xs)

by_component-le : (o : Operation) (e : Elem) (n : ℕ) (xs : List Operand) → height (by_component o e n xs) ≤ 20 + highest_operand xs
by_component-le o e n xs =
    let each = each-le n (λ k. applied o (scalar e) (map (component k) xs)) (14 + highest_operand xs)
    (λ k. le_on _ _ _ (height-close o (scalar e) (map (component k) xs)) (omega (arith, parts-le k xs))) in
    omega (arith, each, named-le (record { elem = e; size = Some n }))

close-le : (o : Operation) (ty : BasicType) (xs : List Operand) → height (applied o ty xs) ≤ 20 + highest_operand xs
close-le o ty xs = le_on _ _ _ (height-close o ty xs) (omega arith)

sized-le : (o : Operation) (e : Elem) (size : Option ℕ) (xs : List Operand) → height (on_basic o (record { elem = e; size = size }) xs) ≤ 20 + highest_operand xs
sized-le o e None xs = close-le o (scalar e) xs
sized-le o e (Some n) xs =
    choice-le (is_alike o (first xs).ty) (applied o (record { elem = e; size = Some n }) xs) (by_component o e n xs) (20 + highest_operand xs)
    (close-le o (record { elem = e; size = Some n }) xs) (by_component-le o e n xs)

operands-le : (xs : List Argument) → highest_operand (map operand xs) ≤ highest_argument xs
operands-le [] = omega arith
operands-le (x ∷ xs) = omega (arith, operands-le xs)

basic-le : (o : Operation) (ty : BasicType) (xs : List Argument) → height (on_basic o ty (map operand xs)) ≤ 40 + highest_argument xs
basic-le o ty xs = le_on _ _ _ (sized-le o ty.elem ty.size (map operand xs)) (omega (arith, operands-le xs))

arguments-le : (xs : List Argument) → heights (exprs_in (map (λ a. a.of) xs)) ≤ highest_argument xs
arguments-le [] = omega arith
arguments-le (x ∷ xs) = omega (arith, arguments-le xs)

constructed-le : (names : Naming) (t : Tree) (xs : List Argument) → height (constructed names t xs) ≤ 40 + highest_argument xs
constructed-le names t xs = le_on _ _ _ (built-le names t (exprs_in (map (λ a. a.of) xs)) (highest_argument xs) (arguments-le xs)) (omega arith)

first_of-le : (xs : List Argument) → height (first_of xs).of ≤ 1 + highest_argument xs
first_of-le [] = omega arith
first_of-le (x ∷ xs) = omega arith

rest_of-le : (xs : List Argument) → highest_argument (rest_of xs) ≤ highest_argument xs
rest_of-le [] = omega arith
rest_of-le (x ∷ xs) = omega arith

second_of-le : (xs : List Argument) → height (second_of xs).of ≤ 1 + highest_argument xs
second_of-le xs = omega (arith, first_of-le (rest_of xs), rest_of-le xs)

-- how many indexes lead into a shape at most
abbrev mutual
  way : Tree → ℕ
  way boolean = 0
  way int = 0
  way uint = 0
  way (vector e n) = 1
  way (array t l) = 1 + way t
  way (runtime t) = 1 + way t
  way (struct id ts) = 1 + longest ts

  longest : Trees → ℕ
  longest no_trees = 0
  longest (tree t ts) = max (way t) (longest ts)

mutual
  way-le : (t : Tree) → way t ≤ depth t
  way-le boolean = omega arith
  way-le int = omega arith
  way-le uint = omega arith
  way-le (vector e n) = omega arith
  way-le (array t l) = omega (arith, way-le t)
  way-le (runtime t) = omega (arith, way-le t)
  way-le (struct id ts) = omega (arith, longest-le ts)

  longest-le : (ts : Trees) → longest ts ≤ deepest ts
  longest-le no_trees = omega arith
  longest-le (tree t ts) = omega (arith, way-le t, longest-le ts)

nth-le : (ts : Trees) (i : ℕ) → way (nth_or ts i boolean) ≤ longest ts
nth-le no_trees i = omega arith
nth-le (tree t ts) zero = omega arith
nth-le (tree t ts) (suc i) = omega (arith, nth-le ts i)

element-le : (e : Expr) (i : ℕ) → height (element e i) ≤ height e + 1
element-le e i = omega (arith, some-high e)

axis-le : (e : Expr) (k : ℕ) → height (axis e k) ≤ height e + 1
axis-le e k = omega (arith, some-high e)

member-le : (names : Naming) (e : Expr) (id k : ℕ) → height (member_of names e id k) ≤ height e + 1
member-le names e id k = omega (arith, some-high e)

extracted-le : (names : Naming) (t : Tree) (is : List ℕ) (e : Expr) → height (extracted names t is e) ≤ height e + way t
extracted-le names t [] e = omega arith
extracted-le names boolean (i ∷ is) e = omega arith
extracted-le names int (i ∷ is) e = omega arith
extracted-le names uint (i ∷ is) e = omega arith
extracted-le names (vector f n) (i ∷ is) e = axis-le e i
extracted-le names (array t l) (i ∷ is) e = le_on _ _ _ (extracted-le names t is (element e i)) (let h = element-le e i in omega (arith, h))
extracted-le names (runtime t) (i ∷ is) e = le_on _ _ _ (extracted-le names t is (element e i)) (let h = element-le e i in omega (arith, h))
extracted-le names (struct id ts) (i ∷ is) e =
    le_on _ _ _ (extracted-le names (nth_or ts i boolean) is (member_of names e id i)) (omega (arith, member-le names e id i, nth-le ts i))

first-deep : (xs : List Argument) → depth (first_of xs).shape ≤ 1 + deepest_argument xs
first-deep [] = omega arith
first-deep (x ∷ xs) = omega arith

extracted_from-le : (names : Naming) (is : List ℕ) (xs : List Argument) → deepest_argument xs ≤ 15 → height (extracted_from names is xs) ≤ 40 + highest_argument xs
extracted_from-le names is xs deep =
    le_on _ _ _ (extracted-le names (first_of xs).shape is (first_of xs).of) (omega (arith, way-le (first_of xs).shape, first-deep xs, first_of-le xs))

picked-le : (e : Elem) (a b : Argument) (k n : ℕ) → height a.of ≤ n → height b.of ≤ n → height (picked e a b k) ≤ n + 1
picked-le e a b k n p q =
    choice-le (k == 4294967295) (ast.literal (literal_of e 0)) (if nat_lt k (vector_size a.shape) then axis a.of k else axis b.of (k - vector_size a.shape)) (n + 1)
    (omega arith)
    (choice-le (nat_lt k (vector_size a.shape)) (axis a.of k) (axis b.of (k - vector_size a.shape)) (n + 1)
    (le_on _ _ _ (axis-le a.of k) (omega arith)) (le_on _ _ _ (axis-le b.of (k - vector_size a.shape)) (omega arith)))

picks-le : (e : Elem) (a b : Argument) (ks : List ℕ) (n : ℕ) → height a.of ≤ n → height b.of ≤ n → heights (exprs_in (map (picked e a b) ks)) ≤ n + 1
picks-le e a b [] n p q = omega arith
picks-le e a b (k ∷ ks) n p q = let h = picked-le e a b k n p q in let hs = picks-le e a b ks n p q in max-within _ _ _ h hs

shuffled_of-le : (names : Naming) (t : Tree) (ks : List ℕ) (xs : List Argument) → height (shuffled_of names t ks xs) ≤ 40 + highest_argument xs
shuffled_of-le names t ks xs =
    le_on _ _ _ (built-le names t (exprs_in (map (picked (basic_type t).elem (first_of xs) (second_of xs)) ks)) (2 + highest_argument xs)
    (le_on _ _ _ (picks-le (basic_type t).elem (first_of xs) (second_of xs) ks (1 + highest_argument xs) (first_of-le xs) (second_of-le xs)) (omega arith)))
    (omega arith)

extracted_at-le : (xs : List Argument) → height (extracted_at xs) ≤ 40 + highest_argument xs
extracted_at-le xs = omega (arith, first_of-le xs, second_of-le xs)

mutual
  copied-le : (names : Naming) (t from : Tree) (e : Expr) → height (copied names t from e) ≤ height e + 2 * way t + 2
  copied-le names boolean from e = omega arith
  copied-le names int from e = omega arith
  copied-le names uint from e = omega arith
  copied-le names (vector f n) from e = omega arith
  copied-le names (runtime t) from e = omega arith
  copied-le names (array t l) from e =
      choice-le (has_struct t) (ast.build (shape_type names (array t l)) (exprs_in (each_below (fixed_length l) (λ k. copied names t (array_part from) (element e k))))) e (height e + 2 * (1 + way t) + 2)
      (le_on _ _ _ (built-high names (array t l) (exprs_in (each_below (fixed_length l) (λ k. copied names t (array_part from) (element e k)))) (height e + 1 + 2 * way t + 2) (omega arith)
      (each-le (fixed_length l) (λ k. copied names t (array_part from) (element e k)) (height e + 1 + 2 * way t + 2)
      (λ k. le_on _ _ _ (copied-le names t (array_part from) (element e k)) (let h = element-le e k in omega (arith, h)))))
      (omega arith))
      (omega arith)
  copied-le names (struct id ts) from e =
      le_on _ _ _ (built-high names (struct id ts) (copied_parts names ts (struct_id from) (struct_parts from) 0 e) (height e + 1 + 2 * longest ts + 2) (omega arith) (copies-le names ts (struct_id from) (struct_parts from) 0 e)) (omega arith)

  copies-le : (names : Naming) (ts : Trees) (id : ℕ) (from : Trees) (k : ℕ) (e : Expr) → heights (copied_parts names ts id from k e) ≤ height e + 1 + 2 * longest ts + 2
  copies-le names no_trees id from k e = omega arith
  copies-le names (tree t ts) id from k e =
      max-within _ _ _
      (le_on _ _ _ (copied-le names t (nth_or from k boolean) (member_of names e id k)) (let h = member-le names e id k in omega (arith, h)))
      (le_on _ _ _ (copies-le names ts id from (k + 1) e) (omega arith))

copied_from-le : (names : Naming) (t : Tree) (xs : List Argument) → depth t ≤ 15 → height (copied_from names t xs) ≤ 40 + highest_argument xs
copied_from-le names t xs deep =
    le_on _ _ _ (copied-le names t (first_of xs).shape (first_of xs).of) (omega (arith, way-le t, first_of-le xs))

copy_by-le : (names : Naming) (o : Op) (t : Tree) (xs : List Argument) → depth t ≤ 15 → height (copy_by names o t xs) ≤ 40 + highest_argument xs
copy_by-le names o t xs deep =
    choice-le (is_code o code.CopyLogical) (copied_from names t xs) (on_arguments op.Copy t xs) (40 + highest_argument xs) (copied_from-le names t xs deep) (basic-le op.Copy (basic_type t) xs)

written-le : (names : Naming) (o : Op) (operation : Operation) (t : Tree) (is : List ℕ) (xs : List Argument) → depth t ≤ 15 → deepest_argument xs ≤ 15 → height (written names o operation t is xs) ≤ 40 + highest_argument xs
written-le names o op.CompositeConstruct t is xs deep deeper = constructed-le names t xs
written-le names o op.CompositeExtract t is xs deep deeper = extracted_from-le names is xs deeper
written-le names o op.VectorExtractDynamic t is xs deep deeper = extracted_at-le xs
written-le names o op.VectorShuffle t is xs deep deeper = shuffled_of-le names t is xs
written-le names o op.Copy t is xs deep deeper = copy_by-le names o t xs deep
written-le names o (op.Unary f) t is xs deep deeper = basic-le (op.Unary f) (basic_type t) xs
written-le names o (op.Binary f) t is xs deep deeper = basic-le (op.Binary f) (basic_type t) xs
written-le names o (op.Comparison f) t is xs deep deeper = basic-le (op.Comparison f) (basic_type t) xs
written-le names o (op.Logical f) t is xs deep deeper = basic-le (op.Logical f) (basic_type t) xs
written-le names o op.LogicalNot t is xs deep deeper = basic-le op.LogicalNot (basic_type t) xs
written-le names o (op.Clamp f) t is xs deep deeper = basic-le (op.Clamp f) (basic_type t) xs
written-le names o op.BitFieldInsert t is xs deep deeper = basic-le op.BitFieldInsert (basic_type t) xs
written-le names o op.BitFieldSExtract t is xs deep deeper = basic-le op.BitFieldSExtract (basic_type t) xs
written-le names o op.BitFieldUExtract t is xs deep deeper = basic-le op.BitFieldUExtract (basic_type t) xs
written-le names o op.Any t is xs deep deeper = basic-le op.Any (basic_type t) xs
written-le names o op.All t is xs deep deeper = basic-le op.All (basic_type t) xs
written-le names o op.Select t is xs deep deeper = basic-le op.Select (basic_type t) xs
written-le names o op.Undef t is xs deep deeper = basic-le op.Undef (basic_type t) xs
written-le names o op.VectorInsertDynamic t is xs deep deeper = basic-le op.VectorInsertDynamic (basic_type t) xs
written-le names o op.CompositeInsert t is xs deep deeper = basic-le op.CompositeInsert (basic_type t) xs

found-le : (names : Naming) (o : Op) (found : Option Operation) (t : Tree) (is : List ℕ) (xs : List Argument) → depth t ≤ 15 → deepest_argument xs ≤ 15 → height (written_if_any names o found t is xs) ≤ 40 + highest_argument xs
found-le names o None t is xs deep deeper = omega arith
found-le names o (Some f) t is xs deep deeper = written-le names o f t is xs deep deeper

-- the law
pub height-lowered_vector : (names : Naming) (o : Op) (ext : ℕ) (t : Tree) (is : List ℕ) (xs : List Argument) → depth t ≤ 15 → deepest_argument xs ≤ 15 → height (lowered_vector names o ext t is xs) ≤ 40 + highest_argument xs
height-lowered_vector names o ext t is xs deep deeper = found-le names o (operation_of o (ext ∷ [])) t is xs deep deeper

-- the same of a call's answer
pub height-result : (r : Result Code Memory) (names : Naming) (o : Op) (ext : ℕ) (t : Tree) (is : List ℕ) (xs : List Argument) → IfOk r (λ e. expr_of e ≡ lowered_vector names o ext t is xs) → IfOk r (λ e. depth t ≤ 15 → deepest_argument xs ≤ 15 → height (expr_of e) ≤ 40 + highest_argument xs)
height-result (Ok e) names o ext t is xs same = λ deep deeper.
    let P : Expr → Type 0 = λ x. height x ≤ 40 + highest_argument xs in
    subst P (sym same) (height-lowered_vector names o ext t is xs deep deeper)
height-result (Err e) names o ext t is xs same = tt

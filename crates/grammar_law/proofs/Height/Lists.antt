-- Heights of lists, types and zeros.
use Rattle.std.proofs.Common.{◌≤◌, ◌+◌, ℕ, zero, suc, List, [], ◌∷◌, ◌++◌, map, arith}
use Rattle.std.specs.Prelude.{flat_map}
use Rattle.spv_module.specs.declared.tree.Elem.{Elem}
use Rattle.spv_module.specs.declared.tree.Elem.TheVariants as elem
use Rattle.spv_module.specs.declared.tree.Length.TheVariants.{Fixed, Spec}
use Rattle.spv_types.specs.Tree as shape
use Rattle.spv_types.specs.Tree.{Tree, Trees, no_trees, tree}
use Rattle.glsl_ast.specs.Tree.{Expr, Exprs, no_exprs, exprs_in, Extent, TypeName, type_name, Base, Stmt, stmts_in}
use Rattle.glsl_ast.specs.Tree as ast
use Rattle.glsl_ast.specs.Height.{highest, height, heights, base_height, extent_height, type_height, stmt_height, stmts_height}
use Rattle.text_rules.specs.Types.{Spelling, type_text, zero_elem, times, zero_text, zero_texts}
use Rattle.vec_lowering.specs.Depth.{depth, deepest}
use Rattle.list_law.proofs.Numbers.{le_on}

pub append-le : {A : Type 0} (f : A → ℕ) (xs ys : List A) (n : ℕ) → highest f xs ≤ n → highest f ys ≤ n → highest f (xs ++ ys) ≤ n
append-le f [] ys n p q = q
append-le f (x ∷ xs) ys n p q = let rest = append-le f xs ys n (omega (arith, p)) q in omega (arith, p, rest)

pub map-le : {A B : Type 0} (f : B → ℕ) (g : A → B) (xs : List A) (n : ℕ) → ((x : A) → f (g x) ≤ n) → highest f (map g xs) ≤ n
map-le f g [] n each = omega arith
map-le f g (x ∷ xs) n each = let rest = map-le f g xs n each in let one = each x in omega (arith, one, rest)

pub flat-le : {A B : Type 0} (f : B → ℕ) (g : A → List B) (xs : List A) (n : ℕ) → ((x : A) → highest f (g x) ≤ n) → highest f (flat_map g xs) ≤ n
flat-le f g [] n each = omega arith
flat-le f g (x ∷ xs) n each = append-le f (g x) (flat_map g xs) n (each x) (flat-le f g xs n each)

pub exprs-le : (es : List Expr) (n : ℕ) → highest height es ≤ n → heights (exprs_in es) ≤ n
exprs-le [] n p = omega arith
exprs-le (e ∷ es) n p = let rest = exprs-le es n (omega (arith, p)) in omega (arith, p, rest)

pub stmts-le : (ss : List Stmt) (n : ℕ) → highest stmt_height ss ≤ n → stmts_height (stmts_in ss) ≤ n
stmts-le [] n p = omega arith
stmts-le (s ∷ ss) n p = let rest = stmts-le ss n (omega (arith, p)) in omega (arith, p, rest)

-- each expression is at least 1 high
pub some-high : (e : Expr) → 1 ≤ height e
some-high (ast.literal l) = omega arith
some-high (ast.name w) = omega arith
some-high (ast.build t args) = omega arith
some-high (Expr.call w args) = omega arith
some-high (ast.not e) = omega arith
some-high (ast.flip e) = omega arith
some-high (ast.binary o a b) = omega arith
some-high (ast.choose c a b) = omega arith
some-high (Expr.member e w) = omega arith
some-high (Expr.index a b) = omega arith
some-high (ast.length_of e) = omega arith

-- the name of a type is at most 2 high
extent-le : (e : Extent) → extent_height e ≤ 1
extent-le ast.open_end = omega arith
extent-le (ast.number n) = omega arith
extent-le (ast.named w) = omega arith
extent-le (ast.size w) = omega arith

base-le : (b : Base) → base_height b ≤ 1
base-le ast.boolean = omega arith
base-le ast.int = omega arith
base-le ast.uint = omega arith
base-le (ast.bool_vec n) = omega arith
base-le (ast.int_vec n) = omega arith
base-le (ast.uint_vec n) = omega arith
base-le (Base.struct w) = omega arith

extents-le : (es : List Extent) → highest extent_height es ≤ 1
extents-le [] = omega arith
extents-le (e ∷ es) = let one = extent-le e in let rest = extents-le es in omega (arith, one, rest)

pub type-le : (t : TypeName) → type_height t ≤ 2
type-le (type_name b es) = let one = base-le b in let rest = extents-le es in omega (arith, one, rest)

pub build-le : (t : TypeName) (args : Exprs) (n : ℕ) → 2 ≤ n → heights args ≤ n → height (ast.build t args) ≤ n + 1
build-le t args n low p = let one = type-le t in omega (arith, one, low, p)

-- the zero of a type
times-le : (n k : ℕ) (e : Expr) → height e ≤ k → heights (times n e) ≤ k
times-le zero k e p = omega arith
times-le (suc n) k e p = let rest = times-le n k e p in omega (arith, p, rest)

elem-le : (e : Elem) → height (zero_elem e) ≤ 2
elem-le elem.Bool = omega arith
elem-le elem.Int = omega arith
elem-le elem.Uint = omega arith

mutual
  pub zero-le : (s : Spelling) (t : Tree) → height (zero_text s t) ≤ 2 + depth t
  zero-le s shape.boolean = omega arith
  zero-le s shape.int = omega arith
  zero-le s shape.uint = omega arith
  zero-le s (shape.vector e n) = build-le (type_text s (shape.vector e n)) (times n (zero_elem e)) 2 (omega arith) (times-le n 2 (zero_elem e) (elem-le e))
  zero-le s (shape.array t (Fixed n)) =
      le_on _ _ _ (build-le (type_text s (shape.array t (Fixed n))) (times n (zero_text s t)) (2 + depth t) (omega arith) (times-le n (2 + depth t) (zero_text s t) (zero-le s t))) (omega arith)
  zero-le s (shape.array t (Spec id)) = le_on _ _ _ (build-le (type_text s (shape.array t (Spec id))) no_exprs 2 (omega arith) (omega arith)) (omega arith)
  zero-le s (shape.runtime t) = le_on _ _ _ (build-le (type_text s (shape.runtime t)) no_exprs 2 (omega arith) (omega arith)) (omega arith)
  zero-le s (shape.struct id ts) = le_on _ _ _ (build-le (type_text s (shape.struct id ts)) (zero_texts s ts) (2 + deepest ts) (omega arith) (zeros-le s ts)) (omega arith)

  pub zeros-le : (s : Spelling) (ts : Trees) → heights (zero_texts s ts) ≤ 2 + deepest ts
  zeros-le s no_trees = omega arith
  zeros-le s (tree t ts) = let one = zero-le s t in let rest = zeros-le s ts in omega (arith, one, rest)

-- How deep shapes are, and how high operands.
use Rattle.std.specs.Prelude.{ℕ, ◌+◌, max, List}
use Rattle.spv_types.specs.Tree.{Tree, boolean, int, uint, vector, array, runtime, struct, Trees, no_trees, tree}
use Rattle.glsl_ast.specs.Height.{height, highest}
use Rattle.vec_lowering.specs.Composite.{Argument}

-- a scalar and a vector are 1 deep, an array and a struct one more than the deepest part
abbrev mutual
  pub depth : Tree → ℕ
  depth boolean = 1
  depth int = 1
  depth uint = 1
  depth (vector e n) = 1
  depth (array t l) = 1 + depth t
  depth (runtime t) = 1 + depth t
  depth (struct id ts) = 1 + deepest ts

  pub deepest : Trees → ℕ
  deepest no_trees = 0
  deepest (tree t ts) = max (depth t) (deepest ts)

-- the depth of the deepest operand's shape, and the height of the highest operand
abbrev pub deepest_argument : List Argument → ℕ
deepest_argument xs = highest (λ a. depth a.shape) xs

abbrev pub highest_argument : List Argument → ℕ
highest_argument xs = highest (λ a. height a.of) xs

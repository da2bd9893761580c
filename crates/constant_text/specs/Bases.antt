-- Scalar and vector types, and their names.
use Rattle.spv_types.specs.Tree as shape
use Rattle.spv_types.specs.Tree.{Tree}
use Rattle.glsl_ast.specs.Tree.{Base, boolean, int, uint}
use Rattle.text_rules.specs.Types.{vector_base}
use Rattle.constant_text.specs.declared.basics.Basic.{Basic}
use Rattle.constant_text.specs.declared.basics.Basic.TheVariants as basic

-- the shape of a scalar or a vector
abbrev pub basic_tree : Basic → Tree
basic_tree basic.Bool = shape.boolean
basic_tree basic.Int = shape.int
basic_tree basic.Uint = shape.uint
basic_tree (basic.Vector e n) = shape.vector e n

-- the base of a scalar or a vector, and uint of another
abbrev pub basic_base : Tree → Base
basic_base shape.boolean = boolean
basic_base shape.int = int
basic_base (shape.vector e n) = vector_base e n
basic_base _ = uint

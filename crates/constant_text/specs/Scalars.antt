-- The literals of scalars, by the scalar type.
use Rattle.std.specs.Prelude.{ℕ, false, Option, Some}
use Rattle.spv_module.specs.declared.tree.Elem.{Elem}
use Rattle.spv_module.specs.declared.tree.Elem.TheVariants as elem
use Rattle.glsl_ast.specs.declared.expressions.Literal.{Literal}
use Rattle.glsl_ast.specs.declared.expressions.Literal.TheVariants.{Int, Uint, Truth}
use Rattle.text_rules.specs.Constants.{int_literal}

-- a word, and the zero, of a scalar type; what has another type is written as a uint
abbrev pub word_literal : Option Elem → ℕ → Literal
word_literal (Some elem.Int) w = int_literal w
word_literal _ w = Uint w

abbrev pub zero_literal : Option Elem → Literal
zero_literal (Some elem.Bool) = Truth false
zero_literal (Some elem.Int) = Int 0
zero_literal _ = Uint 0

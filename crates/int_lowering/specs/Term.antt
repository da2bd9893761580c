-- The expressions that operations are written with.
use Rattle.std.specs.Prelude.{ℕ, List, codes}
use Rattle.glsl_ast.specs.Tree.{Text, Expr, literal, exprs_in}
use Rattle.glsl_ast.specs.declared.expressions.Literal.TheVariants.{Uint, Int}
use Rattle.int_lowering.specs.declared.built_ins.BuiltIn.{BuiltIn}
use Rattle.int_lowering.specs.declared.built_ins.BuiltIn.TheVariants.{Min, Max, Sign, BitCount, FindLsb, FindMsb, BitfieldInsert, BitfieldExtract, BitfieldReverse, Any, All}

-- the names of functions that GLSL has (GLSL 4.60, chapter 8)
unfoldable pub built_in_name : BuiltIn → Text
built_in_name Min = codes "min"
built_in_name Max = codes "max"
built_in_name Sign = codes "sign"
built_in_name BitCount = codes "bitCount"
built_in_name FindLsb = codes "findLSB"
built_in_name FindMsb = codes "findMSB"
built_in_name BitfieldInsert = codes "bitfieldInsert"
built_in_name BitfieldExtract = codes "bitfieldExtract"
built_in_name BitfieldReverse = codes "bitfieldReverse"
built_in_name Any = codes "any"
built_in_name All = codes "all"

abbrev pub call_built_in : BuiltIn → List Expr → Expr
call_built_in f args = Expr.call (built_in_name f) (exprs_in args)

-- 0u, 31u and 0
abbrev pub unsigned_literal : ℕ → Expr
unsigned_literal n = literal (Uint n)

abbrev pub signed_zero : Expr
signed_zero = literal (Int 0)

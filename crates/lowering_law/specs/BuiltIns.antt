-- Which function each built-in is, and when a text declares none of its own by such a name.
use Rattle.std.specs.Prelude.{◌≡◌, false}
use Rattle.int_lowering.specs.declared.built_ins.BuiltIn.{BuiltIn}
use Rattle.int_lowering.specs.declared.built_ins.BuiltIn.TheVariants.{Min, Max, Sign, BitCount, FindLsb, FindMsb, BitfieldInsert, BitfieldExtract, BitfieldReverse, Any, All}
use Rattle.int_lowering.specs.Term.{built_in_name}
use Rattle.glsl_semantics.specs.Functions.{PureFunction, minimum, maximum, sign, any, all, bit_count, bitfield_reverse, find_lsb, find_msb, bitfield_extract, bitfield_insert}
use Rattle.glsl_semantics.specs.Expressions.{Program}

abbrev pub function_of : BuiltIn → PureFunction
function_of Min = minimum
function_of Max = maximum
function_of Sign = sign
function_of BitCount = bit_count
function_of FindLsb = find_lsb
function_of FindMsb = find_msb
function_of BitfieldInsert = bitfield_insert
function_of BitfieldExtract = bitfield_extract
function_of BitfieldReverse = bitfield_reverse
function_of Any = any
function_of All = all

-- the text has no function of its own by the name of a built-in
abbrev pub NoneDeclared : Program → Type 0
NoneDeclared p = (f : BuiltIn) → p.is_function (built_in_name f) ≡ false

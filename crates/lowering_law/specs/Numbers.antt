-- The types of numbers, a number with its type, and the operations that are written with operators.
use Rattle.std.specs.Prelude.{ℕ}
use Rattle.spv_module.specs.declared.tree.Elem.{Elem}
use Rattle.spv_module.specs.declared.tree.Elem.TheVariants as elem
use Rattle.spv_types.specs.Tree.{word}
use Rattle.op_semantics.specs.declared.operation.Binary.{Binary}
use Rattle.op_semantics.specs.declared.operation.Binary.TheVariants.{IAdd, ISub, IMul, BitwiseOr, BitwiseXor, BitwiseAnd, UMin, SMin, UMax, SMax}
use Rattle.glsl_semantics.specs.Shapes.{Typed, typed, scalar}

abbrev pub IsNumeric : Elem → Type 0
IsNumeric elem.Bool = ⊥
IsNumeric elem.Int = Unit {0}
IsNumeric elem.Uint = Unit {0}

abbrev pub number : Elem → ℕ → Typed
number e a = typed (scalar e) (word a)

-- all but the least and the greatest of two numbers, which built-in functions are
abbrev pub IsOperator : Binary → Type 0
IsOperator UMin = ⊥
IsOperator SMin = ⊥
IsOperator UMax = ⊥
IsOperator SMax = ⊥
IsOperator _ = Unit {0}

abbrev pub IsBound : Binary → Type 0
IsBound UMin = Unit {0}
IsBound SMin = Unit {0}
IsBound UMax = Unit {0}
IsBound SMax = Unit {0}
IsBound _ = ⊥

-- those that are one operator on operands of the type of the result
abbrev pub IsPlain : Binary → Type 0
IsPlain IAdd = Unit {0}
IsPlain ISub = Unit {0}
IsPlain IMul = Unit {0}
IsPlain BitwiseOr = Unit {0}
IsPlain BitwiseXor = Unit {0}
IsPlain BitwiseAnd = Unit {0}
IsPlain _ = ⊥

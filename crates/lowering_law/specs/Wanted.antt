-- What an operation whose result is a vector asks of its operands, as the rules on types do.
use Rattle.std.specs.Prelude.{◌≡◌, ◌⊎◌, ℕ, List, None}
use Rattle.spv_module.specs.declared.tree.Elem.{Elem}
use Rattle.op_semantics.specs.declared.operation.Operation.{Operation}
use Rattle.op_semantics.specs.declared.operation.Operation.TheVariants as op
use Rattle.int_lowering.specs.Operand.{Operand, first, second, third}
use Rattle.lowering_law.specs.Numbers.{IsNumeric}
use Rattle.lowering_law.specs.Stands.{vector_type}

-- the operand has a type of numbers, and is no literal
pub record IsOfNumbers (x : Operand) : Type 0 where
  pub numbers : IsNumeric x.ty.elem
  pub no_word : x.word ≡ None

-- what is calculated with are numbers; what is chosen from has the type of the result; and what is copied has this type, or both are of numbers
abbrev pub OnVectors : Operation → Elem → ℕ → List Operand → Type 0
OnVectors (op.Unary o) g n xs = IsNumeric g × IsOfNumbers (first xs)
OnVectors (op.Binary o) g n xs = IsNumeric g × IsOfNumbers (first xs) × IsOfNumbers (second xs)
OnVectors (op.Comparison o) g n xs = Unit {0}
OnVectors (op.Logical o) g n xs = Unit {0}
OnVectors op.LogicalNot g n xs = Unit {0}
OnVectors (op.Clamp o) g n xs = Unit {0}
OnVectors op.BitFieldInsert g n xs = Unit {0}
OnVectors op.BitFieldSExtract g n xs = Unit {0}
OnVectors op.BitFieldUExtract g n xs = Unit {0}
OnVectors op.Select g n xs = ((second xs).ty ≡ vector_type g n) × ((third xs).ty ≡ vector_type g n)
OnVectors op.Copy g n xs = ((first xs).ty ≡ vector_type g n) ⊎ (IsNumeric g × IsNumeric (first xs).ty.elem)
OnVectors _ g n xs = ⊥

-- Operands with their shapes, what they stand for, and which operations are expressions of them.
use Rattle.std.specs.Prelude.{◌≡◌, ℕ, Bool, true, false, List, [], ◌∷◌, Option, Some}
use Rattle.spv_ops.specs.Opcode.{is}
use Rattle.spv_ops.specs.declared.Op.{Op}
use Rattle.spv_ops.specs.declared.Op.TheVariants as code
use Rattle.spv_types.specs.Tree as plain
use Rattle.spv_types.specs.Tree.{Tree, ValueTree, word}
use Rattle.glsl_ast.specs.Tree.{Text}
use Rattle.op_semantics.specs.declared.operation.Operation.{Operation}
use Rattle.op_semantics.specs.declared.operation.Operation.TheVariants as op
use Rattle.op_semantics.specs.Fits.{fits, IsOfWords}
use Rattle.fits_law.specs.Takes.{Alike, OfOne}
use Rattle.vec_lowering.specs.Named.{Naming}
use Rattle.vec_lowering.specs.Composite.{Argument}
use Rattle.traces.specs.Outcomes.{Result}
use Rattle.glsl_semantics.specs.Shapes.{Typed}
use Rattle.glsl_semantics.specs.States.{State}
use Rattle.glsl_semantics.specs.Expressions.{Program, Argument as Given}
use Rattle.lowering_law.specs.Says.{Says}
use Rattle.lowering_law.specs.Written.{IsWritten, typed_as, IsShort, IsLogical}

module _ (p : Program) (names : Naming) (calls : Text → List Given → State → Result (Option Typed × State)) (s : State) where
  -- an operand of a shape that stands for a value of it; only of a word the literal is known
  pub record MeansAs (x : Argument) (t : Tree) (v : ValueTree) : Type 0 where
    pub shape : x.shape ≡ t
    pub says : Says p calls s x.of (typed_as names t v)
    pub fit : fits t v ≡ true
    pub low : IsOfWords v
    pub literal : (w : ℕ) → x.word ≡ Some w → v ≡ word w

  abbrev pub AllMeanAs : List Argument → List Tree → List ValueTree → Type 0
  AllMeanAs [] [] [] = Unit {0}
  AllMeanAs (x ∷ xs) (t ∷ ts) (v ∷ vs) = MeansAs x t v × AllMeanAs xs ts vs
  AllMeanAs _ _ _ = ⊥

abbrev pub AllWritten : Program → Naming → List Tree → Type 0
AllWritten p names [] = Unit {0}
AllWritten p names (t ∷ ts) = IsWritten p names t × AllWritten p names ts

-- a scalar or a vector
abbrev pub IsBasic : Tree → Type 0
IsBasic plain.boolean = Unit {0}
IsBasic plain.int = Unit {0}
IsBasic plain.uint = Unit {0}
IsBasic (plain.vector e n) = Unit {0}
IsBasic _ = ⊥

-- what is copied has the type of the result, or is of numbers of another type; OpCopyLogical copies structs of other ids, and arrays of them element by element
abbrev pub IsPlainCopy : Tree → Tree → Type 0
IsPlainCopy (plain.array t l) a = a ≡ plain.array t l
IsPlainCopy (plain.struct id ts) a = a ≡ plain.struct id ts
IsPlainCopy (plain.runtime t) a = ⊥
IsPlainCopy t a = Alike t a

abbrev pub IsCopy : Bool → Tree → Tree → Type 0
IsCopy true t a = IsLogical t a × IsShort t
IsCopy false t a = IsPlainCopy t a

-- The operation is an expression: a vector or a composite with another part is assigned part by part, and an undefined composite has no expression of its own.
abbrev pub IsExpression : Op → Operation → Tree → List Tree → Type 0
IsExpression opcode op.Copy t us = OfOne (IsCopy (is opcode code.CopyLogical) t) us
IsExpression opcode op.Undef t us = IsBasic t
IsExpression opcode op.VectorInsertDynamic t us = ⊥
IsExpression opcode op.CompositeInsert t us = ⊥
IsExpression opcode _ t us = Unit {0}

-- What an operand stands for: a scalar of its type.
use Rattle.std.specs.Prelude.{◌≡◌, ◌<◌, ◌^◌, ℕ, List, [], ◌∷◌, length, Option, Some, None}
use Rattle.spv_module.specs.declared.tree.Elem.{Elem}
use Rattle.spv_module.specs.declared.tree.Elem.TheVariants as elem
use Rattle.spv_types.specs.Tree.{ValueTree, truth, word, many, ValueTrees, no_values, value}
use Rattle.glsl_ast.specs.Tree.{Text}
use Rattle.op_semantics.specs.declared.operation.Operation.{Operation}
use Rattle.op_semantics.specs.declared.operation.Operation.TheVariants as op
use Rattle.op_semantics.specs.Component.{listed, composite}
use Rattle.int_lowering.specs.declared.basic.BasicType.{BasicType}
use Rattle.int_lowering.specs.Operand.{Operand, scalar, first, second, third}
use Rattle.traces.specs.Outcomes.{Result}
use Rattle.glsl_semantics.specs.Shapes.{boolean, vector, Typed, typed}
use Rattle.glsl_semantics.specs.States.{State}
use Rattle.glsl_semantics.specs.Expressions.{Program, Argument}
use Rattle.lowering_law.specs.Says.{Says}
use Rattle.lowering_law.specs.Numbers.{IsNumeric, number}

-- each of the values is a word
abbrev pub AreWords : ValueTrees → Type 0
AreWords no_values = Unit {0}
AreWords (value (word a) vs) = AreWords vs
AreWords _ = ⊥

abbrev pub vector_type : Elem → ℕ → BasicType
vector_type e n = record { elem = e; size = Some n }

-- a scalar of a type
abbrev pub IsScalarOf : Elem → ValueTree → Type 0
IsScalarOf elem.Bool (truth t) = Unit {0}
IsScalarOf elem.Int (word a) = Unit {0}
IsScalarOf elem.Uint (word a) = Unit {0}
IsScalarOf _ _ = ⊥

-- a word is below 2 ^ 32
abbrev pub IsLow : ValueTree → Type 0
IsLow (word a) = a < 2 ^ 32
IsLow _ = Unit {0}

-- the components of a vector of a type
abbrev pub AreOf : Elem → List ValueTree → Type 0
AreOf e [] = Unit {0}
AreOf e (v ∷ vs) = IsScalarOf e v × AreOf e vs

abbrev pub AreLow : List ValueTree → Type 0
AreLow [] = Unit {0}
AreLow (v ∷ vs) = IsLow v × AreLow vs

abbrev pub IsVectorOf : Elem → ℕ → ValueTree → Type 0
IsVectorOf e n (many vs) = AreOf e (listed vs) × (length (listed vs) ≡ n)
IsVectorOf e n _ = ⊥

-- operands and values one by one
abbrev pub AllBy : (Operand → ValueTree → Type 0) → List Operand → List ValueTree → Type 0
AllBy M [] [] = Unit {0}
AllBy M (x ∷ xs) (v ∷ vs) = M x v × AllBy M xs vs
AllBy M _ _ = ⊥

module _ (p : Program) (calls : Text → List Argument → State → Result (Option Typed × State)) (s : State) where
  -- a scalar operand of a type of numbers that stands for a word
  pub record Stands (x : Operand) (a : ℕ) : Type 0 where
    pub elem : Elem
    pub is_numeric : IsNumeric elem
    pub of_type : x.ty ≡ scalar elem
    pub says : Says p calls s x.expr (number elem a)
    pub literal : (w : ℕ) → x.word ≡ Some w → w ≡ a

  -- an operand that stands for this scalar, and operands one by one
  abbrev pub Means : Operand → ValueTree → Type 0
  Means x (word a) = Stands x a × (a < 2 ^ 32)
  Means x (truth t) = (x.ty ≡ scalar elem.Bool) × Says p calls s x.expr (typed boolean (truth t))
  Means x (many vs) = ⊥

  abbrev pub AllMean : List Operand → List ValueTree → Type 0
  AllMean xs vs = AllBy Means xs vs

  -- a vector operand that stands for these components; it is no literal
  pub record StandsVector (x : Operand) (e : Elem) (n : ℕ) (vs : ValueTrees) : Type 0 where
    pub of_type : x.ty ≡ vector_type e n
    pub says : Says p calls s x.expr (typed (vector e n) (many vs))
    pub no_word : x.word ≡ None
    pub is_numeric : IsNumeric e
    pub words : AreWords vs
    pub count : length (listed vs) ≡ n

  -- a vector operand that stands for components of its type, one by one
  pub record MeansVector (x : Operand) (n : ℕ) (vs : List ValueTree) : Type 0 where
    pub elem : Elem
    pub of_type : x.ty ≡ vector_type elem n
    pub says : Says p calls s x.expr (typed (vector elem n) (composite vs))
    pub count : length vs ≡ n
    pub fit : AreOf elem vs
    pub low : AreLow vs

  -- an operand that stands for a vector of n components, or for a scalar; and operands one by one
  abbrev pub MeansAny : ℕ → Operand → ValueTree → Type 0
  MeansAny n x (many vs) = MeansVector x n (listed vs)
  MeansAny n x (word a) = Means x (word a)
  MeansAny n x (truth t) = Means x (truth t)

  abbrev pub AllMeanAny : ℕ → List Operand → List ValueTree → Type 0
  AllMeanAny n xs vs = AllBy (MeansAny n) xs vs

-- an operation on scalars; a choice is between values of the type of its result
abbrev pub OnScalars : Operation → Elem → List Operand → Type 0
OnScalars (op.Unary o) g xs = Unit {0}
OnScalars (op.Binary o) g xs = Unit {0}
OnScalars (op.Comparison o) g xs = Unit {0}
OnScalars (op.Logical o) g xs = Unit {0}
OnScalars op.LogicalNot g xs = Unit {0}
OnScalars (op.Clamp o) g xs = Unit {0}
OnScalars op.BitFieldInsert g xs = Unit {0}
OnScalars op.BitFieldSExtract g xs = Unit {0}
OnScalars op.BitFieldUExtract g xs = Unit {0}
OnScalars op.Select g xs = ((second xs).ty ≡ scalar g) × ((third xs).ty ≡ scalar g)
OnScalars op.Copy g xs = Unit {0}
OnScalars _ g xs = ⊥

abbrev pub AreScalars : Option Operation → Elem → List Operand → Type 0
AreScalars (Some o) g xs = OnScalars o g xs
AreScalars None g xs = ⊥

-- an operation that is written by component where its result is a vector: of a choice the condition is a vector too, and what is chosen from has the type of the result
abbrev pub GoesByComponent : Operation → Elem → ℕ → List Operand → Type 0
GoesByComponent (op.Unary o) g n xs = Unit {0}
GoesByComponent (op.Binary o) g n xs = Unit {0}
GoesByComponent (op.Comparison o) g n xs = Unit {0}
GoesByComponent (op.Logical o) g n xs = Unit {0}
GoesByComponent op.LogicalNot g n xs = Unit {0}
GoesByComponent (op.Clamp o) g n xs = Unit {0}
GoesByComponent op.BitFieldInsert g n xs = Unit {0}
GoesByComponent op.BitFieldSExtract g n xs = Unit {0}
GoesByComponent op.BitFieldUExtract g n xs = Unit {0}
GoesByComponent op.Select g n xs = ((first xs).ty.size ≡ Some n) × ((second xs).ty ≡ vector_type g n) × ((third xs).ty ≡ vector_type g n)
GoesByComponent _ g n xs = ⊥

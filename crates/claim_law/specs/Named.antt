-- Operands and shapes by whose names operations are written.
use Rattle.std.specs.Prelude.{◌≡◌, ◌+◌, ℕ, true, List, [], ◌∷◌, Option, Some, None}
use Rattle.spv_ops.specs.Opcode.{is}
use Rattle.spv_ops.specs.declared.Op.{Op}
use Rattle.spv_ops.specs.declared.Op.TheVariants as code
use Rattle.op_semantics.specs.declared.operation.Operation.{Operation}
use Rattle.op_semantics.specs.declared.operation.Operation.TheVariants as op
use Rattle.spv_module.specs.declared.tree.Length.{Length}
use Rattle.spv_module.specs.declared.tree.Length.TheVariants.{Fixed, Spec}
use Rattle.spv_types.specs.Tree.{Tree, boolean, vector, array, runtime, struct, Trees, no_trees, tree}
use Rattle.glsl_grammar.specs.Spelled.{FitsWord, IsVectorSize}
use Rattle.int_lowering.specs.Operand.{Operand}
use Rattle.vec_lowering.specs.Named.{Naming, id_name, member_name}
use Rattle.vec_lowering.specs.Composite.{Argument, first_of, nth_or, array_part, struct_id, struct_parts}
use Rattle.claim_law.specs.Uses.{Words, UsesExpr}

-- a scalar, or a vector of two to four
abbrev pub FitsSize : Option ℕ → Type 0
FitsSize None = Unit {0}
FitsSize (Some n) = IsVectorSize n

abbrev pub FitsShape : Tree → Type 0
FitsShape (vector e n) = IsVectorSize n
FitsShape _ = Unit {0}

abbrev pub FitsIfSome : Option ℕ → Type 0
FitsIfSome None = Unit {0}
FitsIfSome (Some w) = FitsWord w

-- literals by which elements of arrays are named are words
abbrev pub LeadIn : Tree → List ℕ → Type 0
LeadIn t [] = Unit {0}
LeadIn (array t l) (i ∷ is) = FitsWord i × LeadIn t is
LeadIn (runtime t) (i ∷ is) = FitsWord i × LeadIn t is
LeadIn (struct id ts) (i ∷ is) = LeadIn (nth_or ts i boolean) is
LeadIn t (i ∷ is) = Unit {0}

module _ (W : Words) where
  -- an operand of an operation on scalars and vectors, and one of any
  pub record IsUsed (x : Operand) : Type 0 where
    pub expr : UsesExpr W x.expr
    pub size : FitsSize x.ty.size
    pub word : FitsIfSome x.word

  abbrev pub AreUsed : List Operand → Type 0
  AreUsed [] = Unit {0}
  AreUsed (x ∷ xs) = IsUsed x × AreUsed xs

  pub record IsArgument (a : Argument) : Type 0 where
    pub of : UsesExpr W a.of
    pub shape : FitsShape a.shape
    pub word : FitsIfSome a.word

  abbrev pub AreArguments : List Argument → Type 0
  AreArguments [] = Unit {0}
  AreArguments (a ∷ as') = IsArgument a × AreArguments as'

  module _ (names : Naming) where
    abbrev pub IsNamedLength : Length → Type 0
    IsNamedLength (Fixed n) = FitsWord n
    IsNamedLength (Spec id) = W.size (id_name names id.0)

    -- the name of a type is made of these names
    abbrev pub IsNamedType : Tree → Type 0
    IsNamedType (vector e n) = IsVectorSize n
    IsNamedType (array t l) = IsNamedLength l × IsNamedType t
    IsNamedType (runtime t) = IsNamedType t
    IsNamedType (struct id ts) = W.struct (id_name names id)
    IsNamedType _ = Unit {0}

    -- along literals
    abbrev pub AreNamedAlong : Tree → List ℕ → Type 0
    AreNamedAlong t [] = Unit {0}
    AreNamedAlong (array t l) (i ∷ is) = AreNamedAlong t is
    AreNamedAlong (runtime t) (i ∷ is) = AreNamedAlong t is
    AreNamedAlong (struct id ts) (i ∷ is) = W.member (member_name names id i) × AreNamedAlong (nth_or ts i boolean) is
    AreNamedAlong t (i ∷ is) = Unit {0}

    -- a value of a shape is copied as one of another, part by part
    abbrev mutual
      pub CanCopy : Tree → Tree → Type 0
      CanCopy (array t l) from = IsNamedType (array t l) × CanCopy t (array_part from)
      CanCopy (struct id ts) from = IsNamedType (struct id ts) × CanCopyParts ts (struct_id from) (struct_parts from) 0
      CanCopy t from = Unit {0}

      pub CanCopyParts : Trees → ℕ → Trees → ℕ → Type 0
      CanCopyParts no_trees id from k = Unit {0}
      CanCopyParts (tree t ts) id from k = W.member (member_name names id k) × CanCopy t (nth_or from k boolean) × CanCopyParts ts id from (k + 1)

    -- what an operation asks of the names of types and members
    abbrev pub Asks : Op → Operation → Tree → List ℕ → List Argument → Type 0
    Asks o op.CompositeConstruct t literals xs = IsNamedType t
    Asks o op.CompositeExtract t literals xs = AreNamedAlong (first_of xs).shape literals × LeadIn (first_of xs).shape literals
    Asks o op.VectorShuffle t literals xs = IsNamedType t
    Asks o op.Copy t literals xs = is o code.CopyLogical ≡ true → CanCopy t (first_of xs).shape
    Asks o _ t literals xs = Unit {0}

    abbrev pub AsksIfAny : Op → Option Operation → Tree → List ℕ → List Argument → Type 0
    AsksIfAny o None t literals xs = Unit {0}
    AsksIfAny o (Some operation) t literals xs = Asks o operation t literals xs

-- Which shapes an operation takes and gives (SPIR-V 1.6, section "Instructions"; GLSL.std.450).
use Rattle.std.specs.Prelude.{◌≡◌, ◌+◌, ℕ, zero, suc, true, List, [], ◌∷◌, length, Option, Some, None, option_and_then, nat_lt, if◌then◌else◌}
use Rattle.spv_module.specs.declared.tree.Elem.{Elem}
use Rattle.spv_module.specs.declared.tree.Elem.TheVariants as elem
use Rattle.spv_module.specs.declared.tree.Length.TheVariants.{Fixed}
use Rattle.spv_types.specs.Tree.{Tree, boolean, int, uint, vector, array, struct, Trees, no_trees, tree, ValueTree}
use Rattle.spv_types.specs.Leaves.{IsSized}
use Rattle.op_semantics.specs.declared.operation.Operation.{Operation}
use Rattle.op_semantics.specs.declared.operation.Operation.TheVariants as op
use Rattle.op_semantics.specs.Fits.{elem_tree, fits}

-- scalars are numbers, with or without a sign, or truth values
pub data Sort : Type 0 where
  numbers : Sort
  truths : Sort

abbrev pub IsOfSort : Sort → Elem → Type 0
IsOfSort numbers elem.Int = Unit {0}
IsOfSort numbers elem.Uint = Unit {0}
IsOfSort truths elem.Bool = Unit {0}
IsOfSort _ _ = ⊥

-- a scalar of this sort, or a vector of so many
abbrev pub Has : Sort → Option ℕ → Tree → Type 0
Has numbers None int = Unit {0}
Has numbers None uint = Unit {0}
Has truths None boolean = Unit {0}
Has k (Some n) (vector e m) = IsOfSort k e × (m ≡ n)
Has _ _ _ = ⊥

-- one shape but for signs of numbers and the ids of structs: the values of the one are those of the other
abbrev pub AreAlike : Elem → Elem → Type 0
AreAlike elem.Bool elem.Bool = Unit {0}
AreAlike elem.Int elem.Int = Unit {0}
AreAlike elem.Int elem.Uint = Unit {0}
AreAlike elem.Uint elem.Int = Unit {0}
AreAlike elem.Uint elem.Uint = Unit {0}
AreAlike _ _ = ⊥

abbrev mutual
  pub Alike : Tree → Tree → Type 0
  Alike boolean boolean = Unit {0}
  Alike int int = Unit {0}
  Alike int uint = Unit {0}
  Alike uint int = Unit {0}
  Alike uint uint = Unit {0}
  Alike (vector e n) (vector d m) = AreAlike e d × (n ≡ m)
  Alike (array t (Fixed n)) (array u (Fixed m)) = Alike t u × (n ≡ m)
  Alike (struct id ts) (struct other us) = AllAlike ts us
  Alike _ _ = ⊥

  pub AllAlike : Trees → Trees → Type 0
  AllAlike no_trees no_trees = Unit {0}
  AllAlike (tree t ts) (tree u us) = Alike t u × AllAlike ts us
  AllAlike _ _ = ⊥

-- the shape of the part at an index, and of that to which indexes lead
abbrev pub nth_of : Trees → ℕ → Option Tree
nth_of no_trees i = None
nth_of (tree t ts) zero = Some t
nth_of (tree t ts) (suc i) = nth_of ts i

abbrev pub part_shape : Tree → ℕ → Option Tree
part_shape (vector e n) i = if nat_lt i n then Some (elem_tree e) else None
part_shape (array t (Fixed n)) i = if nat_lt i n then Some t else None
part_shape (struct id ts) i = nth_of ts i
part_shape _ i = None

abbrev pub shape_at : Tree → List ℕ → Option Tree
shape_at t [] = Some t
shape_at t (i ∷ is) = option_and_then (λ u. shape_at u is) (part_shape t i)

-- the components that a scalar or a vector gives to a vector of this component type
abbrev pub Gives : Elem → ℕ → Tree → Type 0
Gives e n (vector d m) = (d ≡ e) × (m ≡ n)
Gives e n t = (t ≡ elem_tree e) × (n ≡ 1)

abbrev pub GiveAll : Elem → ℕ → List Tree → Type 0
GiveAll e n [] = n ≡ 0
GiveAll e n (t ∷ ts) = (first rest : ℕ) × Gives e first t × GiveAll e rest ts × (n ≡ first + rest)

-- so many of one shape, and one of each
abbrev pub AreOfShape : Tree → List Tree → Type 0
AreOfShape t [] = Unit {0}
AreOfShape t (u ∷ us) = (u ≡ t) × AreOfShape t us

abbrev pub AreMembers : Trees → List Tree → Type 0
AreMembers no_trees [] = Unit {0}
AreMembers (tree t ts) (u ∷ us) = (u ≡ t) × AreMembers ts us
AreMembers _ _ = ⊥

-- the parts of a composite, each once; a vector takes scalars, and vectors component by component
abbrev pub AreParts : Tree → List Tree → Type 0
AreParts (vector e n) us = GiveAll e n us
AreParts (array t (Fixed n)) us = (length us ≡ n) × AreOfShape t us
AreParts (struct id ts) us = AreMembers ts us
AreParts _ us = ⊥

-- a condition for a choice of this shape: one truth value, or one for each component
abbrev pub IsCondition : Tree → Tree → Type 0
IsCondition boolean t = Unit {0}
IsCondition (vector elem.Bool n) (vector e m) = n ≡ m
IsCondition _ t = ⊥

-- the components of two vectors, as many as there are literals
abbrev pub IsShuffle : Tree → List ℕ → Tree → Tree → Type 0
IsShuffle (vector e n) literals (vector d m) (vector f k) = (d ≡ e) × (f ≡ e) × (length literals ≡ n)
IsShuffle _ literals _ _ = ⊥

-- one operand that is so, two, three, four
abbrev pub OfOne : (Tree → Type 0) → List Tree → Type 0
OfOne Q (a ∷ []) = Q a
OfOne Q _ = ⊥

abbrev pub OfTwo : (Tree → Tree → Type 0) → List Tree → Type 0
OfTwo Q (a ∷ b ∷ []) = Q a b
OfTwo Q _ = ⊥

abbrev pub OfThree : (Tree → Tree → Tree → Type 0) → List Tree → Type 0
OfThree Q (a ∷ b ∷ c ∷ []) = Q a b c
OfThree Q _ = ⊥

abbrev pub OfFour : (Tree → Tree → Tree → Tree → Type 0) → List Tree → Type 0
OfFour Q (a ∷ b ∷ c ∷ d ∷ []) = Q a b c d
OfFour Q _ = ⊥

-- a field of a word: its offset and its number of bits are scalars
abbrev pub IsField : Tree → Tree → Tree → Tree → Type 0
IsField t base offset count = (n : Option ℕ) × Has numbers n t × Has numbers n base × Has numbers None offset × Has numbers None count

-- an operation takes operands of these shapes, with these literals, and gives a result of the first shape
abbrev pub Takes : Operation → Tree → List ℕ → List Tree → Type 0
Takes (op.Unary o) t literals = OfOne (λ a. (n : Option ℕ) × Has numbers n t × Has numbers n a)
Takes (op.Binary o) t literals = OfTwo (λ a b. (n : Option ℕ) × Has numbers n t × Has numbers n a × Has numbers n b)
Takes (op.Comparison o) t literals = OfTwo (λ a b. (n : Option ℕ) × Has truths n t × Has numbers n a × Has numbers n b)
Takes (op.Logical o) t literals = OfTwo (λ a b. (n : Option ℕ) × Has truths n t × Has truths n a × Has truths n b)
Takes op.LogicalNot t literals = OfOne (λ a. (n : Option ℕ) × Has truths n t × Has truths n a)
Takes (op.Clamp o) t literals = OfThree (λ a b c. (n : Option ℕ) × Has numbers n t × Has numbers n a × Has numbers n b × Has numbers n c)
Takes op.BitFieldInsert t literals = OfFour (λ base part offset count. (n : Option ℕ) × Has numbers n t × Has numbers n base × Has numbers n part × Has numbers None offset × Has numbers None count)
Takes op.BitFieldSExtract t literals = OfThree (IsField t)
Takes op.BitFieldUExtract t literals = OfThree (IsField t)
Takes op.Any t literals = OfOne (λ a. (n : ℕ) × Has truths None t × Has truths (Some n) a)
Takes op.All t literals = OfOne (λ a. (n : ℕ) × Has truths None t × Has truths (Some n) a)
Takes op.Select t literals = OfThree (λ c a b. IsCondition c t × (a ≡ t) × (b ≡ t))
Takes op.Undef t literals = λ us. IsSized t
Takes op.Copy t literals = OfOne (Alike t)
Takes op.VectorExtractDynamic t literals = OfTwo (λ a i. (e : Elem) × (n : ℕ) × (a ≡ vector e n) × (t ≡ elem_tree e) × Has numbers None i)
Takes op.VectorInsertDynamic t literals = OfThree (λ a c i. (e : Elem) × (n : ℕ) × (t ≡ vector e n) × (a ≡ t) × (c ≡ elem_tree e) × Has numbers None i)
Takes op.VectorShuffle t literals = OfTwo (IsShuffle t literals)
Takes op.CompositeConstruct t literals = AreParts t
Takes op.CompositeExtract t literals = OfOne (λ a. shape_at a literals ≡ Some t)
Takes op.CompositeInsert t literals = OfTwo (λ object a. (a ≡ t) × (shape_at t literals ≡ Some object))

-- values of these shapes, one by one
abbrev pub AllFit : List Tree → List ValueTree → Type 0
AllFit [] [] = Unit {0}
AllFit (t ∷ ts) (v ∷ vs) = (fits t v ≡ true) × AllFit ts vs
AllFit _ _ = ⊥

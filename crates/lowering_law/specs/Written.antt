-- The type of a shape as a text has it: structs and members by their names.
use Rattle.std.specs.Prelude.{◌≡◌, ◌+◌, ◌<◌, ◌≤◌, ◌^◌, ◌==◌, ℕ, false, List, [], ◌∷◌, Some, None, bytes_eq}
use Rattle.spv_module.specs.declared.tree.Length.TheVariants.{Fixed, Spec}
use Rattle.spv_types.specs.Tree as plain
use Rattle.spv_types.specs.Tree.{Tree, Trees, no_trees, tree, ValueTree}
use Rattle.fits_law.specs.Takes.{nth_of}
use Rattle.vec_lowering.specs.Named.{Naming, id_name, member_name}
use Rattle.glsl_semantics.specs.Shapes.{Shape, boolean, int, uint, vector, array, runtime, struct, Fields, no_fields, field, Typed, typed}
use Rattle.glsl_semantics.specs.Expressions.{Program}

abbrev mutual
  pub text_shape : Naming → Tree → Shape
  text_shape names plain.boolean = boolean
  text_shape names plain.int = int
  text_shape names plain.uint = uint
  text_shape names (plain.vector e n) = vector e n
  text_shape names (plain.array t (Fixed n)) = array (text_shape names t) (Some n)
  text_shape names (plain.array t (Spec id)) = array (text_shape names t) None
  text_shape names (plain.runtime t) = runtime (text_shape names t)
  text_shape names (plain.struct id ts) = struct (id_name names id) (text_fields names id 0 ts)

  -- the members of the struct with this id from member k on
  pub text_fields : Naming → ℕ → ℕ → Trees → Fields
  text_fields names id k no_trees = no_fields
  text_fields names id k (tree t ts) = field (member_name names id k) (text_shape names t) (text_fields names id (k + 1) ts)

-- no two members of the struct, which are of these types, have one name
abbrev pub AreMembersApart : Naming → ℕ → Trees → Type 0
AreMembersApart names id ts = (j k : ℕ) (t : Tree) → j < k → nth_of ts k ≡ Some t → bytes_eq (member_name names id j) (member_name names id k) ≡ false

-- The type of a value stands in the text: each struct is declared by its name with its members, which have names apart; and a vector has two to four components.
abbrev mutual
  pub IsWritten : Program → Naming → Tree → Type 0
  IsWritten p names (plain.vector e n) = (n ≤ 4) × ((n == 1) ≡ false)
  IsWritten p names (plain.array t (Fixed n)) = IsWritten p names t
  IsWritten p names (plain.array t (Spec id)) = ⊥
  IsWritten p names (plain.runtime t) = ⊥
  IsWritten p names (plain.struct id ts) = (p.structs (id_name names id) ≡ Some (text_fields names id 0 ts)) × AreMembersApart names id ts × AreWritten p names ts
  IsWritten p names _ = Unit {0}

  pub AreWritten : Program → Naming → Trees → Type 0
  AreWritten p names no_trees = Unit {0}
  AreWritten p names (tree t ts) = IsWritten p names t × AreWritten p names ts

-- a value with the type of a shape, and the members of a struct with theirs
abbrev pub typed_as : Naming → Tree → ValueTree → Typed
typed_as names t v = typed (text_shape names t) v

abbrev pub members_as : Naming → Trees → List ValueTree → List Typed
members_as names (tree t ts) (v ∷ vs) = typed_as names t v ∷ members_as names ts vs
members_as names _ _ = []

-- no array is so long that an int does not lead to each element
abbrev mutual
  pub IsShort : Tree → Type 0
  IsShort (plain.array t (Fixed n)) = (n ≤ 2 ^ 31) × IsShort t
  IsShort (plain.struct k ts) = AreShort ts
  IsShort _ = Unit {0}

  pub AreShort : Trees → Type 0
  AreShort no_trees = Unit {0}
  AreShort (tree t ts) = IsShort t × AreShort ts

-- The shapes are one but for the ids of structs, as those of which OpCopyLogical makes a value (SPIR-V 1.6).
abbrev mutual
  pub IsLogical : Tree → Tree → Type 0
  IsLogical (plain.array t (Fixed n)) (plain.array u (Fixed m)) = IsLogical t u × (n ≡ m)
  IsLogical (plain.struct id ts) (plain.struct other us) = AreLogical ts us
  IsLogical plain.boolean plain.boolean = Unit {0}
  IsLogical plain.int plain.int = Unit {0}
  IsLogical plain.uint plain.uint = Unit {0}
  IsLogical (plain.vector e n) (plain.vector d m) = (e ≡ d) × (n ≡ m)
  IsLogical _ _ = ⊥

  pub AreLogical : Trees → Trees → Type 0
  AreLogical no_trees no_trees = Unit {0}
  AreLogical (tree t ts) (tree u us) = IsLogical t u × AreLogical ts us
  AreLogical _ _ = ⊥

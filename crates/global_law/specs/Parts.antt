-- When what stands in a text is a part of a variable of its module.
use Rattle.std.specs.Prelude.{◌≡◌, ◌<◌, ◌+◌, ◌++◌, ℕ, true, false, List, Option, Some, None, is_some, option_and_then, bytes_eq}
use Rattle.spv_module.specs.declared.inst.Inst.{Inst}
use Rattle.spv_module.specs.declared.tree.Length.{Length}
use Rattle.spv_module.specs.declared.tree.Length.TheVariants.{Fixed, Spec}
use Rattle.spv_types.specs.Tree as plain
use Rattle.spv_types.specs.Tree.{Tree, Trees, no_trees, tree, ValueTree}
use Rattle.spv_ops.specs.Enumerants.{class_number}
use Rattle.spv_ops.specs.declared.StorageClass.TheVariants as storage
use Rattle.spv_decor.specs.Rows.{word}
use Rattle.op_semantics.specs.Composite.{extracted}
use Rattle.op_semantics.specs.Fits.{fits}
use Rattle.module_semantics.specs.Setting.{Setting, global_variable}
use Rattle.module_semantics.specs.Memory.{location, shape_along, array_length}
use Rattle.module_semantics.specs.State.{Root, global, Conf}
use Rattle.module_semantics.specs.Accesses.{seen, kept}
use Rattle.glsl_ast.specs.Tree.{Text}
use Rattle.glsl_semantics.specs.Shapes.{Shape, boolean, int, uint, vector, array, runtime, struct, Fields, no_fields, field, typed, tree_of}
use Rattle.glsl_semantics.specs.Places.{Site, site_along, location_of}
use Rattle.glsl_semantics.specs.States.{Thing, value, variable, instance, memory}
use Rattle.fits_law.specs.Takes.{nth_of}
use Rattle.fits_law.specs.State.{place_shape}

-- the names of structs and of their members
pub record StructNames : Type 0 where
  pub struct_name : ℕ → Text
  pub member_name : ℕ → ℕ → Text

-- The type of a shape in the text, where each array in it has a length in the run.
abbrev pub length_in : Setting → Length → Option ℕ
length_in s (Fixed n) = Some n
length_in s (Spec id) = array_length s id.0

abbrev mutual
  pub shape_in : Setting → StructNames → Tree → Shape
  shape_in s y plain.boolean = boolean
  shape_in s y plain.int = int
  shape_in s y plain.uint = uint
  shape_in s y (plain.vector e n) = vector e n
  shape_in s y (plain.array t l) = array (shape_in s y t) (length_in s l)
  shape_in s y (plain.runtime t) = runtime (shape_in s y t)
  shape_in s y (plain.struct id ts) = struct (y.struct_name id) (fields_in s y id 0 ts)

  -- the members of the struct with this id from member k on
  pub fields_in : Setting → StructNames → ℕ → ℕ → Trees → Fields
  fields_in s y id k no_trees = no_fields
  fields_in s y id k (tree t ts) = field (y.member_name id k) (shape_in s y t) (fields_in s y id (k + 1) ts)

-- Where an array has a length in the run, it has this one in the text. No index leads into an array that has none, whatever length the text makes of it.
abbrev pub HasLength : Option ℕ → Option ℕ → Type 0
HasLength None n = Unit {0}
HasLength (Some k) n = n ≡ Some k

-- A type of the text stands for the shape: it is that of `shape_in`, but for the lengths of arrays that have none in the run.
abbrev mutual
  pub IsShape : Setting → StructNames → Tree → Shape → Type 0
  IsShape s y (plain.array t l) q = (e : Shape) × (n : Option ℕ) × (q ≡ array e n) × IsShape s y t e × HasLength (length_in s l) n
  IsShape s y (plain.runtime t) q = (e : Shape) × (q ≡ runtime e) × IsShape s y t e
  IsShape s y (plain.struct id ts) q = (fs : Fields) × (q ≡ struct (y.struct_name id) fs) × AreFields s y id 0 ts fs
  IsShape s y t q = q ≡ shape_in s y t

  -- the members of the struct with this id from member k on
  pub AreFields : Setting → StructNames → ℕ → ℕ → Trees → Fields → Type 0
  AreFields s y id k no_trees fs = fs ≡ no_fields
  AreFields s y id k (tree t ts) fs = (q : Shape) × (more : Fields) × (fs ≡ field (y.member_name id k) q more) × IsShape s y t q × AreFields s y id (k + 1) ts more

-- no two members of a struct in the type have one name
abbrev pub AreMembersApart : StructNames → ℕ → Trees → Type 0
AreMembersApart y id ts = (j k : ℕ) (u : Tree) → j < k → nth_of ts k ≡ Some u → bytes_eq (y.member_name id j) (y.member_name id k) ≡ false

abbrev mutual
  pub HasMembersApart : StructNames → Tree → Type 0
  HasMembersApart y (plain.array t l) = HasMembersApart y t
  HasMembersApart y (plain.runtime t) = HasMembersApart y t
  HasMembersApart y (plain.struct id ts) = AreMembersApart y id ts × HaveMembersApart y ts
  HasMembersApart y _ = Unit {0}

  pub HaveMembersApart : StructNames → Trees → Type 0
  HaveMembersApart y no_trees = Unit {0}
  HaveMembersApart y (tree t ts) = HasMembersApart y t × HaveMembersApart y ts

-- the index is below the number of parts, where there is one
abbrev pub IsBelow : Option ℕ → ℕ → Type 0
IsBelow None i = ⊥
IsBelow (Some n) i = i < n

abbrev pub IsInside : Setting → Tree → ℕ → Type 0
IsInside s (plain.vector e n) i = i < n
IsInside s (plain.array t l) i = IsBelow (length_in s l) i
IsInside s _ i = Unit {0}

-- The scalars of a part with this shape lie in the text, by its type there, where they lie in the module: also those of an array without a length.
abbrev pub HasScalars : Setting → Inst → List ℕ → Tree → Shape → Site → Type 0
HasScalars s v path t q at = (rest : List ℕ) → is_some (place_shape t rest) ≡ true → location_of (site_along (tree_of q) rest at) ≡ location s v (path ++ rest)

-- the value of a part of a variable that no other invocation sees
abbrev pub part_value : Setting → Conf → Root → List ℕ → Option ValueTree
part_value s c r path = option_and_then (extracted path) (kept s c r)

-- a built-in variable
abbrev pub IsInput : Setting → Root → Type 0
IsInput s (global n) = (v : Inst) × (global_variable s n ≡ Some v) × (word v 0 ≡ class_number storage.Input)
IsInput s _ = ⊥

-- The thing is the part at these indexes, which has this shape, of the variable into which the root leads: its place in memory, where others see the variable, and along whose types the indexes lead to the shape; else its value, where it is built in, or that part of the text's variable with this name, which stands for the part at the first of the indexes.
abbrev pub IsPart : Setting → StructNames → Conf → Text → List ℕ → Root → List ℕ → Tree → Thing → Type 0
IsPart s y c x from r path t (value (typed q u)) = (seen s r ≡ None) × IsShape s y t q × (part_value s c r path ≡ Some u) × (fits t u ≡ true) × IsInput s r
IsPart s y c x from r path t (variable w way q o) = (seen s r ≡ None) × IsShape s y t q × (o ≡ part_value s c r path) × (w ≡ x) × (path ≡ from ++ way)
IsPart s y c x from r path t (instance place kind members) = ⊥
IsPart s y c x from r path t (memory at q) = (v : Inst) × (seen s r ≡ Some v) × IsShape s y t q × (shape_along s v path ≡ Some t) × HasScalars s v path t q at

-- The names of structs and members, and those of types.
use Rattle.std.specs.Prelude.{ℕ, [], ◌∷◌, Option, Some, None}
use Rattle.spv_module.specs.declared.tree.Elem.TheVariants.{Bool, Int, Uint}
use Rattle.spv_module.specs.declared.tree.Length.{Length}
use Rattle.spv_module.specs.declared.tree.Length.TheVariants.{Fixed, Spec}
use Rattle.spv_types.specs.Tree.{Tree, boolean, int, uint, vector, array, runtime, struct}
use Rattle.glsl_ast.specs.Tree as tree
use Rattle.glsl_ast.specs.Tree.{Text, TypeName, type_name, Extent, number, named, open_end}
use Rattle.name_alloc.specs.declared.claims.Key.{Key}
use Rattle.name_alloc.specs.declared.claims.Names.{Names}
use Rattle.name_alloc.specs.Lookup.{name_in}
use Rattle.name_alloc.specs.declared.claims.Key.TheVariants.{Id, Member}
use Rattle.int_lowering.specs.Operand.{scalar, type_named}

-- the names of keys, as far as they are claimed
abbrev pub Naming : Type 0
Naming = Key → Option Text

abbrev pub text_or_none : Option Text → Text
text_or_none None = []
text_or_none (Some w) = w

-- those of some names
unfoldable pub naming_of : Names → Naming
naming_of names = name_in names

-- the name of a struct or constant, and of a struct's member
abbrev pub id_name : Naming → ℕ → Text
id_name names id = text_or_none (names (Id (record { 0 = id })))

abbrev pub member_name : Naming → ℕ → ℕ → Text
member_name names id k = text_or_none (names (Member (record { 0 = id }) k))

abbrev pub extent_of_length : Naming → Length → Extent
extent_of_length names (Fixed n) = number n
extent_of_length names (Spec id) = named (id_name names id.0)

-- the type with an extent before its own
abbrev pub array_of : Extent → TypeName → TypeName
array_of x (type_name b xs) = type_name b (x ∷ xs)

-- the name of a shape's type: an array's outermost extent stands first
abbrev pub shape_type : Naming → Tree → TypeName
shape_type names boolean = type_named (scalar Bool)
shape_type names int = type_named (scalar Int)
shape_type names uint = type_named (scalar Uint)
shape_type names (vector e n) = type_named (record { elem = e; size = Some n })
shape_type names (array t l) = array_of (extent_of_length names l) (shape_type names t)
shape_type names (runtime t) = array_of open_end (shape_type names t)
shape_type names (struct id ts) = type_name (tree.Base.struct (id_name names id)) []

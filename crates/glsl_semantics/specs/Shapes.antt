-- The types of a text, and values with their types (GLSL 4.60, chapter 4).
use Rattle.std.specs.Prelude.{ℕ, ◌+◌, ◌==◌, ◌&&◌, Bool, true, false, List, [], ◌∷◌, Option, Some, None, bytes_eq, codes}
use Rattle.spv_module.specs.declared.tree.Elem.{Elem}
use Rattle.spv_module.specs.declared.tree.Elem.TheVariants as elem
use Rattle.spv_module.specs.declared.tree.Length.TheVariants.{Fixed, Spec}
use Rattle.spv_types.specs.Tree as plain
use Rattle.spv_types.specs.Tree.{ValueTree}
use Rattle.glsl_ast.specs.Tree.{Text}

-- A struct has its name and its members with theirs. An array's length is that of a constant, which may have no value.
mutual
  pub data Shape : Type 0 where
    boolean : Shape
    int : Shape
    uint : Shape
    vector : Elem → ℕ → Shape
    array : Shape → Option ℕ → Shape
    runtime : Shape → Shape
    struct : Text → Fields → Shape

  pub data Fields : Type 0 where
    no_fields : Fields
    field : Text → Shape → Fields → Fields

-- a value with its type
pub data Typed : Type 0 where
  typed : Shape → ValueTree → Typed

abbrev pub shape_of : Typed → Shape
shape_of (typed s v) = s

abbrev pub tree_of_value : Typed → ValueTree
tree_of_value (typed s v) = v

-- the plain tree of a type, by which it is laid out and its scalars are numbered; an array whose length has no value counts as one that has no scalars
abbrev pub array_of : plain.Tree → Option ℕ → plain.Tree
array_of t (Some n) = plain.array t (Fixed n)
array_of t None = plain.array t (Spec (record { 0 = 0 }))

abbrev mutual
  pub tree_of : Shape → plain.Tree
  tree_of boolean = plain.boolean
  tree_of int = plain.int
  tree_of uint = plain.uint
  tree_of (vector e n) = plain.vector e n
  tree_of (array s n) = array_of (tree_of s) n
  tree_of (runtime s) = plain.runtime (tree_of s)
  tree_of (struct w fs) = plain.struct 0 (trees_of fs)

  pub trees_of : Fields → plain.Trees
  trees_of no_fields = plain.no_trees
  trees_of (field w s fs) = plain.tree (tree_of s) (trees_of fs)

abbrev pub same_elem : Elem → Elem → Bool
same_elem elem.Bool elem.Bool = true
same_elem elem.Int elem.Int = true
same_elem elem.Uint elem.Uint = true
same_elem _ _ = false

-- two lengths are one; those that have no value are none
abbrev pub same_length : Option ℕ → Option ℕ → Bool
same_length (Some a) (Some b) = a == b
same_length _ _ = false

-- the types are one: structs by their names (GLSL 4.60, section 4.1.8)
abbrev pub same_shape : Shape → Shape → Bool
same_shape boolean boolean = true
same_shape int int = true
same_shape uint uint = true
same_shape (vector e n) (vector f m) = same_elem e f && (n == m)
same_shape (array s n) (array t m) = same_shape s t && same_length n m
same_shape (struct w fs) (struct x gs) = bytes_eq w x
same_shape _ _ = false

-- each scalar of a value of this type is there: there is no runtime array in it, nor an array whose length has no value
abbrev mutual
  pub is_sized : Shape → Bool
  is_sized (array s (Some n)) = is_sized s
  is_sized (array s None) = false
  is_sized (runtime s) = false
  is_sized (struct w fs) = are_sized fs
  is_sized _ = true

  pub are_sized : Fields → Bool
  are_sized no_fields = true
  are_sized (field w s fs) = is_sized s && are_sized fs

-- a member by its name: its number, and its type
abbrev pub member_from : ℕ → Fields → Text → Option (ℕ × Shape)
member_from k no_fields w = None
member_from k (field x s fs) w = elim (bytes_eq x w) [ true ↦ Some (k, s) | false ↦ member_from (k + 1) fs w ]

-- the components x, y, z and w of a vector (GLSL 4.60, section 5.5), by their numbers
abbrev pub first_named : List Text → Text → ℕ → Option ℕ
first_named [] w k = None
first_named (x ∷ xs) w k = elim (bytes_eq x w) [ true ↦ Some k | false ↦ first_named xs w (k + 1) ]

abbrev pub component_number : Text → Option ℕ
component_number w = first_named (codes "x" ∷ codes "y" ∷ codes "z" ∷ codes "w" ∷ []) w 0

abbrev pub scalar : Elem → Shape
scalar elem.Bool = boolean
scalar elem.Int = int
scalar elem.Uint = uint

-- Where paths begin: what stands in a text for a variable of its module.
use Rattle.std.specs.Prelude.{◌≡◌, ◌⊎◌, ◌+◌, ℕ, true, List, [], ◌∷◌, Option, Some, None}
use Rattle.spv_ops.specs.Enumerants.{class_number}
use Rattle.spv_ops.specs.declared.StorageClass.TheVariants as storage
use Rattle.spv_module.specs.Held.{global as global_inst}
use Rattle.spv_module.specs.Lists.{id}
use Rattle.spv_module.specs.declared.inst.Inst.{Inst}
use Rattle.spv_types.specs.Tree.{Tree, struct, Trees, no_trees, tree, ValueTree}
use Rattle.spv_types.specs.Types.{type_tree}
use Rattle.spv_decor.specs.Rows.{word}
use Rattle.spv_index.specs.BlockStructs.{is_block}
use Rattle.op_semantics.specs.Fits.{fits}
use Rattle.layout_rules.specs.declared.Kind.{Kind}
use Rattle.layout_rules.specs.Blocks.{kind_at}
use Rattle.module_semantics.specs.Setting.{Setting, global_variable, shared_number}
use Rattle.module_semantics.specs.Memory.{member_offset, variable_type}
use Rattle.module_semantics.specs.State.{Root, global, own, lent, pointer, Conf}
use Rattle.module_semantics.specs.Accesses.{input_value}
use Rattle.name_alloc.specs.declared.claims.Key.{Key}
use Rattle.name_alloc.specs.declared.claims.Key.TheVariants.{Id}
use Rattle.glsl_ast.specs.Tree.{Text, Expr, name}
use Rattle.glsl_semantics.specs.Shapes.{Shape, typed}
use Rattle.glsl_semantics.specs.Places.{in_shared}
use Rattle.glsl_semantics.specs.States.{value, instance, memory}
use Rattle.glsl_semantics.specs.Expressions.{Program}
use Rattle.text_rules.specs.Declarations.{place_of}
use Rattle.text_rules.specs.Constants.{Source}
use Rattle.agree_law.specs.Agree.{Naming}
use Rattle.global_law.specs.Parts.{StructNames, shape_in, IsShape}
use Rattle.global_law.specs.Laid.{HasLengths}
use Rattle.global_law.specs.Walks.{struct_names}

-- the members of a block from this one on: their names, offsets and types
abbrev pub members_in : Setting → StructNames → ℕ → ℕ → Trees → List (Text × ℕ × Shape)
members_in s y n k no_trees = []
members_in s y n k (tree t ts) = (y.member_name n k, member_offset s n k, shape_in s y t) ∷ members_in s y n (k + 1) ts

module _ (p : Program) (m : Naming) (s : Setting) (source : Source) (key : Key → Text) (globals : ℕ → Option Expr) where
  abbrev Y : StructNames
  Y = struct_names key

  -- the id is written by its own name, as a variable of the text, of the type of the shape
  pub record IsVariable (n : ℕ) (t : Tree) : Type 0 where
    pub itself : globals n ≡ None
    pub named : m.name n ≡ key (Id (id n))
    pub typed_as : m.shape n ≡ shape_in s Y t

  -- a Function variable; a pointer parameter, which leads to a variable of a call below; a Private variable
  pub record IsOwn (n : ℕ) (t : Tree) (r : Root) (path : List ℕ) : Type 0 where
    pub variable : IsVariable n t
    pub is : m.is_variable n ≡ true
    pub root : r ≡ own n
    pub whole : path ≡ []

  pub record IsParameter (c : Conf) (n : ℕ) (t : Tree) (r : Root) (path : List ℕ) : Type 0 where
    pub variable : IsVariable n t
    pub is : m.is_lent n ≡ true
    pub leads : c.top.ids n ≡ Some (pointer r path)
    pub depth : ℕ
    pub of : ℕ
    pub root : r ≡ lent depth of
    pub whole : path ≡ []

  pub record IsPrivate (n : ℕ) (t : Tree) (r : Root) (path : List ℕ) : Type 0 where
    pub variable : IsVariable n t
    pub is : m.is_private n ≡ true
    pub root : r ≡ global n
    pub whole : path ≡ []
    pub inst : Inst
    pub there : global_variable s n ≡ Some inst
    pub class : word inst 0 ≡ class_number storage.Private

  -- what stands outside of functions: a built-in variable, with the value that it has in the module
  pub record IsBuiltIn (n : ℕ) (t : Tree) (r : Root) (path : List ℕ) : Type 0 where
    pub root : r ≡ global n
    pub whole : path ≡ []
    pub inst : Inst
    pub there : global_variable s n ≡ Some inst
    pub class : word inst 0 ≡ class_number storage.Input
    pub text : Text
    pub written : globals n ≡ Some (name text)
    pub outside : m.is_outside text ≡ true
    pub value_is : ValueTree
    pub has : input_value s inst ≡ Some value_is
    pub fit : fits t value_is ≡ true
    pub thing : p.things text ≡ Some (value (typed (shape_in s Y t) value_is))

  -- a variable of a workgroup, by its number
  pub record IsShared (n : ℕ) (t : Tree) (r : Root) (path : List ℕ) : Type 0 where
    pub root : r ≡ global n
    pub whole : path ≡ []
    pub inst : Inst
    pub there : global_variable s n ≡ Some inst
    pub class : word inst 0 ≡ class_number storage.Workgroup
    pub itself : globals n ≡ None
    pub outside : m.is_outside (key (Id (id n))) ≡ true
    pub typed_as : type_tree s.of.globals (variable_type s inst) ≡ Some t
    pub text_shape : Shape
    pub text_typed : IsShape s Y t text_shape
    pub thing : p.things (key (Id (id n))) ≡ Some (memory (in_shared (shared_number s n) []) text_shape)

  -- the block of a variable, with the layout that it takes
  pub record IsBlock (n : ℕ) (t : Tree) (r : Root) (path : List ℕ) : Type 0 where
    pub root : r ≡ global n
    pub whole : path ≡ []
    pub inst : Inst
    pub there : global_variable s n ≡ Some inst
    pub class : (word inst 0 ≡ class_number storage.StorageBuffer) ⊎ ((word inst 0 ≡ class_number storage.Uniform) ⊎ (word inst 0 ≡ class_number storage.PushConstant))
    pub itself : globals n ≡ None
    pub outside : m.is_outside (key (Id (id n))) ≡ true
    pub type : Inst
    pub type_there : global_inst s.of.globals (variable_type s inst) ≡ Some type
    pub parts : Trees
    pub shape : t ≡ struct (variable_type s inst) parts
    pub typed_as : type_tree s.of.globals (variable_type s inst) ≡ Some t
    pub lengths : HasLengths t
    pub decorated : is_block s.of.heads (variable_type s inst) ≡ true
    pub kind : Kind
    pub takes : kind_at s.of.heads s.of.globals inst type ≡ Some kind
    pub thing : p.things (key (Id (id n))) ≡ Some (instance (place_of source inst) kind (members_in s Y (variable_type s inst) 0 parts))

  -- What a pointer is that no chain makes.
  abbrev pub IsStart : Conf → ℕ → Tree → Root → List ℕ → Type 0
  IsStart c n t r path = IsOwn n t r path ⊎ (IsParameter c n t r path ⊎ (IsPrivate n t r path ⊎ (IsBuiltIn n t r path ⊎ (IsShared n t r path ⊎ IsBlock n t r path))))

-- What the shapes of a module's types are made of.
use Rattle.std.specs.Prelude.{◌≡◌, ℕ, true, List, Some, slice_index}
use Rattle.spv_ops.specs.Opcode.{is}
use Rattle.spv_ops.specs.declared.Op.TheVariants as code
use Rattle.spv_module.specs.Held.{global}
use Rattle.spv_module.specs.declared.inst.Inst.{Inst}
use Rattle.spv_module.specs.declared.tree.Length.{Length}
use Rattle.spv_types.specs.Tree.{Tree, boolean, int, uint, vector, array, runtime, struct, Trees, no_trees, tree}
use Rattle.spv_types.specs.Types.{length_by, all_trees, tree_before}
use Rattle.glsl_grammar.specs.Spelled.{IsVectorSize}
use Rattle.claim_law.specs.Claimed.{IsIn}

module _ (gs : List Inst) where
  -- the length of an array type
  pub record IsLengthOf (l : Length) : Type 0 where
    pub ty : Inst
    pub among : IsIn ty gs
    pub is_array : is ty.op code.TypeArray ≡ true
    pub length : length_by (slice_index ty.args 1) (global gs (slice_index ty.args 1)) ≡ Some l

  -- the shape of a struct type, with these parts
  pub record IsStructOf (n : ℕ) (ts : Trees) : Type 0 where
    pub ty : Inst
    pub among : IsIn ty gs
    pub is_struct : is ty.op code.TypeStruct ≡ true
    pub result : ty.result ≡ n
    pub parts : all_trees (tree_before gs ty.at) ty.args ≡ Some ts

  -- vectors of two to four, arrays and structs of the module's types
  abbrev mutual
    pub IsOfTypes : Tree → Type 0
    IsOfTypes boolean = Unit {0}
    IsOfTypes int = Unit {0}
    IsOfTypes uint = Unit {0}
    IsOfTypes (vector e n) = IsVectorSize n
    IsOfTypes (array t l) = IsLengthOf l × IsOfTypes t
    IsOfTypes (runtime t) = IsOfTypes t
    IsOfTypes (struct n ts) = IsStructOf n ts × AreOfTypes ts

    pub AreOfTypes : Trees → Type 0
    AreOfTypes no_trees = Unit {0}
    AreOfTypes (tree t ts) = IsOfTypes t × AreOfTypes ts

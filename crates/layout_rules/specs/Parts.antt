-- A test of a type or of a part of it, each with its id.
use Rattle.std.specs.Prelude.{ℕ, ◌+◌, ◌||◌, Bool, false, List, slice_index}
use Rattle.std.specs.Option.{option_map_or}
use Rattle.spv_module.specs.Held.{global}
use Rattle.spv_module.specs.declared.inst.Inst.{Inst}
use Rattle.spv_types.specs.Tree.{Tree, boolean, int, uint, vector, array, runtime, struct, Trees, no_trees, tree}

-- operand k of the type with this id: an array's element type is operand 0, and the type of a struct's member k is operand k
abbrev pub part_id : List Inst → ℕ → ℕ → ℕ
part_id gs id k = option_map_or (λ (g : Inst). slice_index g.args k) (global gs id) 0

abbrev mutual
  -- the type with this id and this shape, or a part of it, passes the test
  pub any_part : (ℕ → Tree → Bool) → List Inst → ℕ → Tree → Bool
  any_part test gs id boolean = test id boolean
  any_part test gs id int = test id int
  any_part test gs id uint = test id uint
  any_part test gs id (vector e n) = test id (vector e n)
  any_part test gs id (array t l) = test id (array t l) || any_part test gs (part_id gs id 0) t
  any_part test gs id (runtime t) = test id (runtime t) || any_part test gs (part_id gs id 0) t
  any_part test gs id (struct s ts) = test id (struct s ts) || any_member test gs id 0 ts

  -- member k of the struct with this id, or one behind it, does
  pub any_member : (ℕ → Tree → Bool) → List Inst → ℕ → ℕ → Trees → Bool
  any_member test gs id k no_trees = false
  any_member test gs id k (tree t ts) = any_part test gs (part_id gs id k) t || any_member test gs id (k + 1) ts

-- The values of a list, one by one.
use Rattle.std.proofs.Common.{◌<◌, ◌+◌, ℕ, zero, suc, List, [], ◌∷◌, arith, map, get_or, length}
use Rattle.spv_module.specs.declared.tree.Value.{Value}
use Rattle.spv_types.specs.Tree.{ValueTree, truth, word, many, ValueTrees, no_values, value, values_in}
use Rattle.spv_types.specs.View.{value_of}

-- how much of a value is still to be gone through
abbrev mutual
  pub value_size : ValueTree → ℕ
  value_size (truth b) = 1
  value_size (word w) = 1
  value_size (many vs) = 1 + values_size vs

  pub values_size : ValueTrees → ℕ
  values_size no_values = 0
  values_size (value v vs) = 1 + (value_size v + values_size vs)

-- the plain values of a list
abbrev pub plain : List Value → ValueTrees
plain vs = values_in (map value_of vs)

pub value_smaller : (l : List Value) (k : ℕ) (d : Value) → k < length l → value_size (value_of (get_or l k d)) < values_size (plain l)
value_smaller [] k d h = absurd (omega arith)
value_smaller (x ∷ l) zero d h = omega arith
value_smaller (x ∷ l) (suc k) d h = omega (arith, value_smaller l k d (omega arith))

-- Values that are held by their ids, and what constants are given.
use Rattle.std.specs.Prelude.{ℕ, ◌==◌, true, false, Option, List, option_map, option_and_then}
use Rattle.std.specs.Option.{option_or}
use Rattle.std.specs.BTreeMap.{BTreeMap, is_at}
use Rattle.std.specs.Map.{lookup}
use Rattle.std.specs.Ordering.{nat_cmp}
use Rattle.spv_module.specs.declared.inst.Inst.{Inst}
use Rattle.spv_module.specs.declared.tree.Value.{Value}
use Rattle.spv_types.specs.Tree.{ValueTree}
use Rattle.spv_types.specs.View.{value_of}
use Rattle.profile_rules.specs.declared.given.Given.{Given}
use Rattle.profile_rules.specs.Constants.{spec_id, word_given}

-- the value with this id
abbrev pub value_among : List (ℕ × Value) → ℕ → Option ValueTree
value_among values id = option_map value_of (lookup (is_at (nat_cmp id)) values)

abbrev pub value_in : BTreeMap ℕ Value → ℕ → Option ValueTree
value_in values id = value_among values.entries id

-- the word that a constant takes in place of its default, from what the overrides and the specialization give each SpecId
abbrev pub chosen_by : List Inst → (ℕ → Option Given) → (ℕ → Option ℕ) → ℕ → Option ℕ
chosen_by heads given special id = option_and_then (λ s. option_or (option_map word_given (given s)) (special s)) (spec_id heads id)

-- what is said of ids, with the value of one more, where it has one
abbrev pub put_value : (ℕ → Option ValueTree) → ℕ → Option ValueTree → ℕ → Option ValueTree
put_value f id value q = elim (id == q) [ true ↦ option_or value (f q) | false ↦ f q ]

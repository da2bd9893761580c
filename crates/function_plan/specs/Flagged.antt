-- Which blocks need a flag.
use Rattle.std.specs.Prelude.{ℕ, Bool, false, slice_index_or}
use Rattle.function_plan.specs.declared.flag_sets.FlagSets.{FlagSets}

abbrev pub has_again : FlagSets → ℕ → Bool
has_again flags b = slice_index_or flags.again.items b false

abbrev pub has_leave : FlagSets → ℕ → Bool
has_leave flags b = slice_index_or flags.leave.items b false

abbrev pub has_fell : FlagSets → ℕ → Bool
has_fell flags b = slice_index_or flags.fell.items b false

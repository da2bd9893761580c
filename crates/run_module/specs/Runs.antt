-- What is run of a module: for the function of an entry point, under overrides, which are the specialization.
use Rattle.std.specs.Prelude.{ℕ, List, Option, map, option_map, unwrap_or}
use Rattle.spv_module.specs.State.{ModuleState}
use Rattle.profile_rules.specs.Constants.{word_given, given_to}
use Rattle.profile_rules.specs.Entry.{group_size}
use Rattle.profile_rules.specs.declared.given.Given.{Given}
use Rattle.profile_rules.specs.declared.size.SizePart.{SizePart}
use Rattle.profile_rules.specs.declared.size.SizePart.TheVariants.{Fixed, Spec}
use Rattle.traces.specs.Invocations.{Triple}
use Rattle.module_semantics.specs.Run.{module_run}
use Rattle.group_items.specs.Sides.{Runs}
use Rattle.dispatch_case.specs.Three.{triple_of}

-- the word that a SpecId is given
abbrev pub given_words : List (ℕ × Given) → ℕ → Option ℕ
given_words pairs id = option_map word_given (given_to pairs id)

-- a part of the size of workgroups, under a specialization
abbrev pub part_word : (ℕ → Option ℕ) → SizePart → ℕ
part_word special (Fixed n) = n
part_word special (Spec id default) = unwrap_or (special id) default

abbrev pub workgroup_size : ModuleState → (ℕ → Option ℕ) → ℕ → Triple
workgroup_size m special entry = triple_of (map (part_word special) (group_size m entry))

-- what invocations do within so many steps
abbrev pub module_runs : ModuleState → ℕ → List (ℕ × Given) → ℕ → Runs
module_runs m entry pairs steps told answers = module_run m entry pairs told answers steps

-- Why the constants of a module have no values.
use Rattle.std.specs.Prelude.{ℕ, ◌<◌, List}
use Rattle.spv_words.specs.Limit.{limit_number}
use Rattle.spv_words.specs.declared.rule.Fault.{Fault}
use Rattle.spv_words.specs.declared.rule.Fault.TheVariants.{Refused, Limit, Memory}
use Rattle.spv_words.specs.declared.rule.Limit as the_limit
use Rattle.spv_words.specs.declared.rule.Limit.TheVariants.{Leaves}
use Rattle.spv_module.specs.State.{ModuleState}
use Rattle.spv_types.specs.Limits.{IsPassed}
use Rattle.profile_rules.specs.declared.given.Given.{Given}
use Rattle.profile_rules.specs.Leaves.{leaves_of_module}
use Rattle.spec_constants.specs.Fit.{Broken}

-- the module is above this limit: on its types, or on its leaves
abbrev pub IsAboveLimit : ModuleState → the_limit.Limit → Type 0
IsAboveLimit m Leaves = limit_number Leaves < leaves_of_module m
IsAboveLimit m l = IsPassed m.globals l

-- an override breaks X3 or X4, the module is above a limit, or there was no memory
abbrev pub IsCause : ModuleState → List (ℕ × Given) → Fault → Type 0
IsCause m pairs (Refused r) = Broken m pairs r.rule r.at
IsCause m pairs (Limit l) = IsAboveLimit m l
IsCause m pairs Memory = Unit {0}

-- What is known of a module that meets the profile within the limits, from this entry.
use Rattle.std.specs.Prelude.{ℕ, Contains}
use Rattle.std.specs.List.{All}
use Rattle.spv_words.specs.declared.rule.Fault.{Fault}
use Rattle.spv_words.specs.declared.rule.Fault.TheVariants.{Refused, Limit, Memory}
use Rattle.spv_module.specs.State.{ModuleState}
use Rattle.spv_types.specs.Limits.{AreWithin}
use Rattle.few_law.specs.Short.{HasFewArgs}
use Rattle.profile_rules.specs.Calls.{HaveOwnIds, AreCalleesFunctions, IsAcyclic, IsWithinCalls, ids_of}

pub record CanRun (m : ModuleState) (entry : ℕ) : Type 0 where
  pub own_ids : HaveOwnIds m.functions
  pub callees : AreCalleesFunctions m.functions
  pub entry_is : Contains (ids_of m.functions) entry
  pub acyclic : IsAcyclic m.functions
  pub within : IsWithinCalls m.functions entry
  pub types : AreWithin m.globals
  pub few : All HasFewArgs m.globals

-- no refusal and no limit
abbrev pub IsMemory : Fault → Type 0
IsMemory (Refused r) = ⊥
IsMemory (Limit l) = ⊥
IsMemory Memory = Unit {0}

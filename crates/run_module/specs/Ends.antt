-- What a run of a case on a module comes to.
use Rattle.std.specs.Prelude.{ℕ, List, string_bytes}
use Rattle.spv_module.specs.State.{ModuleState}
use Rattle.profile_rules.specs.declared.given.Given.{Given}
use Rattle.conformance.specs.Rules.{Options}
use Rattle.module_check.specs.Judged.{IsEntry}
use Rattle.dispatch_case.specs.Cases.{CaseParts}
use Rattle.run_lines.specs.Said.{IsCrowded, IsHeavy, IsSaid}
use Rattle.command_line.specs.declared.endings.RunLimit.{RunLimit}
use Rattle.command_line.specs.declared.endings.RunLimit.TheVariants.{Invocations, Events}
use Rattle.run_module.specs.Runs.{given_words, workgroup_size, module_runs}
use Rattle.run_module.specs.declared.run.CaseRun.{CaseRun}
use Rattle.run_module.specs.declared.run.CaseRun.TheVariants.{Said, Above}

module _ (m : ModuleState) (pairs : List (ℕ × Given)) (entry : ℕ) (c : CaseParts) where
  -- from an entry point: the lines of the case, or a quantity is above its largest number
  abbrev pub IsSaidFrom : List ℕ → Type 0
  IsSaidFrom text = IsSaid c (workgroup_size m (given_words pairs) entry) (given_words pairs) (module_runs m entry pairs c.steps) text

  abbrev pub IsAboveFrom : RunLimit → Type 0
  IsAboveFrom Invocations = IsCrowded c (workgroup_size m (given_words pairs) entry)
  IsAboveFrom Events = IsHeavy c (workgroup_size m (given_words pairs) entry) (given_words pairs) (module_runs m entry pairs c.steps)

  abbrev pub IsRunFrom : CaseRun → Type 0
  IsRunFrom (Said text) = IsSaidFrom (string_bytes text)
  IsRunFrom (Above limit) = IsAboveFrom limit

-- from the entry point that is asked for, under the overrides that are given
pub record IsSaidOf (m : ModuleState) (o : Options) (c : CaseParts) (text : List ℕ) : Type 0 where
  pub entry : ℕ
  pub is : IsEntry m o entry
  pub said : IsSaidFrom m o.overrides entry c text

pub record IsAboveOf (m : ModuleState) (o : Options) (c : CaseParts) (limit : RunLimit) : Type 0 where
  pub entry : ℕ
  pub is : IsEntry m o entry
  pub above : IsAboveFrom m o.overrides entry c limit

-- the lines, and no quantity is above its largest number; or one that is
abbrev pub IsRunOf : ModuleState → Options → CaseParts → CaseRun → Type 0
IsRunOf m o c (Said text) = IsSaidOf m o c (string_bytes text) × ((l : RunLimit) → IsAboveOf m o c l → ⊥)
IsRunOf m o c (Above limit) = IsAboveOf m o c limit

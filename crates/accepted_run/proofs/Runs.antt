-- A module that was read from bytes, and that the judges do not refuse, runs by a program's numbers for places as its definition says, whatever its overrides, its invocation and the answers to its accesses.
use Rattle.std.proofs.Common.{◌≡◌, ◌<◌, ◌≤◌, ◌^◌, ℕ, List, Some, length, refl, arith}
use Rattle.spv_module.specs.State.{ModuleState}
use Rattle.profile_rules.specs.declared.given.Given.{Given}
use Rattle.profile_rules.specs.Constants.{chosen_word}
use Rattle.conformance.specs.Rules.{Options}
use Rattle.module_check.specs.Judged.{IsFine}
use Rattle.module_check.specs.ReadFrom.{IsReadFrom}
use Rattle.traces.specs.Invocations.{Invocation}
use Rattle.traces.specs.Runs.{run_of}
use Rattle.module_semantics.specs.Setting.{Setting, setting}
use Rattle.module_semantics.specs.State.{Conf}
use Rattle.module_semantics.specs.Steps.{act}
use Rattle.module_semantics.specs.Run.{start}
use Rattle.memory_places.specs.Capped.{most_variables}
use Rattle.run_acts.specs.Narrowed.{narrowed}
use Rattle.accepted_law.proofs.Accepted.{accepted_conforming}
use Rattle.accepted_law.proofs.Small.{read_globals}
use Rattle.places_law.specs.Pointing.{ArePlaced}
use Rattle.places_law.proofs.Blocks.{are_placed}
use Rattle.places_law.proofs.Same.{same_run}

module _ (bytes : List ℕ) (m : ModuleState) (o : Options) (read : IsReadFrom bytes m) (fine : IsFine m o) (function : ℕ) (overrides : List (ℕ × Given)) (inv : Invocation) where
  abbrev s : Setting
  s = setting m function overrides inv

  few : length m.globals ≤ most_variables
  few = let less : length m.globals < 2 ^ 32 = read_globals bytes m read in omega (arith, less)

  -- the variables that others see are of workgroups, or their blocks take layouts
  pub accepted_placed : ArePlaced s
  accepted_placed = are_placed s o.entry (accepted_conforming bytes m o read fine) (chosen_word m.heads overrides inv.specialization) (λ id. refl) fine.later.layout few

  pub accepted_same : (c : Conf) → start s ≡ Some c → (answers : List (List ℕ)) (n : ℕ) → run_of (λ d. narrowed (act s d)) c answers n ≡ run_of (act s) c answers n
  accepted_same = same_run s o.entry (accepted_conforming bytes m o read fine) (chosen_word m.heads overrides inv.specialization) (λ id. refl) accepted_placed

-- So what `spv_run` does with a module that was read, and that the judges do not refuse, is what its definition says of each invocation.
use Rattle.std.proofs.Common.{◌≡◌, ℕ, List, [], Option, Some, None, refl, ap, sym, ◌∙◌}
use Rattle.profile_rules.specs.declared.given.Given.{Given}
use Rattle.conformance.specs.Rules.{Options}
use Rattle.module_check.specs.Judged.{IsFine}
use Rattle.module_check.specs.ReadFrom.{IsReadFrom}
use Rattle.traces.specs.Invocations.{Invocation}
use Rattle.module_semantics.specs.Setting.{Setting, setting}
use Rattle.module_semantics.specs.State.{Conf}
use Rattle.module_semantics.specs.Run.{start, run_from, module_run}
use Rattle.memory_places.specs.Kernel.{Kernel, setting_for}
use Rattle.spv_run.specs.Runs.{Takes, walk_by, walk}
use Rattle.accepted_run.proofs.Runs.{accepted_same}
use Rattle.spv_module.specs.State.{ModuleState}

-- from the start of each invocation, under any overrides
pub accepted_walk_by : (bytes : List ℕ) (m : ModuleState) (o : Options) → IsReadFrom bytes m → IsFine m o → (entry : ℕ) (overrides : List (ℕ × Given)) (told : Invocation) (answers : List (List ℕ)) (n : ℕ)
    → walk_by (setting m entry overrides told) (start (setting m entry overrides told)) answers n ≡ module_run m entry overrides told answers n
accepted_walk_by bytes m o read fine entry overrides told answers n = by_start (start (setting m entry overrides told)) refl
  where
    by_start : (x : Option Conf) → start (setting m entry overrides told) ≡ x → walk_by (setting m entry overrides told) x answers n ≡ run_from (setting m entry overrides told) x answers n
    by_start None is = refl
    by_start (Some c) is = accepted_same bytes m o read fine entry overrides told c is answers n

-- told: a specialization under which the constants of the definition have the values that the program has
pub accepted_walk : (bytes : List ℕ) (o : Options) (k : Kernel) → IsReadFrom bytes k.of → IsFine k.of o → (told : Invocation) → Takes k told.specialization → (answers : List (List ℕ)) (n : ℕ) → walk k told answers n ≡ module_run k.of k.entry [] told answers n
accepted_walk bytes o k read fine told takes answers n = ap (λ (s : Setting). walk_by s (start s) answers n) (sym same) ∙ accepted_walk_by bytes k.of o read fine k.entry [] told answers n
  where
    same : setting k.of k.entry [] told ≡ setting_for k told
    same = λ i. record { of = k.of; entry = k.entry; constants = λ id. takes id i; invocation = told }

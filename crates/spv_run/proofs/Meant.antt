-- The run of a program is that of its module, where the numbers for places are the module's own.
use Rattle.std.proofs.Common.{◌≡◌, ℕ, List, [], refl, ap, sym, ◌∙◌}
use Rattle.std.specs.Prelude.{Option, Some, None}
use Rattle.traces.specs.Invocations.{Invocation}
use Rattle.traces.specs.Runs.{run_of}
use Rattle.module_semantics.specs.Setting.{Setting, setting}
use Rattle.module_semantics.specs.State.{Conf}
use Rattle.module_semantics.specs.Steps.{act}
use Rattle.module_semantics.specs.Run.{start, run_from, module_run}
use Rattle.memory_places.specs.Kernel.{Kernel, setting_for}
use Rattle.spv_run.specs.Runs.{Takes, act_by, walk_by, walk}

-- places that a program has numbers for do not change the run from a state
abbrev pub IsOwn : Setting → Conf → Type 0
IsOwn s c = (answers : List (List ℕ)) (n : ℕ) → run_of (act_by s) c answers n ≡ run_of (act s) c answers n

by_start : (s : Setting) (o : Option Conf) → ((c : Conf) → o ≡ Some c → IsOwn s c) → (answers : List (List ℕ)) (n : ℕ) → walk_by s o answers n ≡ run_from s o answers n
by_start s None own answers n = refl
by_start s (Some c) own answers n = own c refl answers n

pub walk_is : (k : Kernel) (told : Invocation) → Takes k told.specialization → ((c : Conf) → start (setting_for k told) ≡ Some c → IsOwn (setting_for k told) c) → (answers : List (List ℕ)) (n : ℕ) → walk k told answers n ≡ module_run k.of k.entry [] told answers n
walk_is k told takes own answers n = by_start (setting_for k told) (start (setting_for k told)) own answers n ∙ sym (ap (λ (s : Setting). run_from s (start s) answers n) same)
  where
    same : setting k.of k.entry [] told ≡ setting_for k told
    same = λ j. record { of = k.of; entry = k.entry; constants = λ id. takes id j; invocation = told }

-- A run that does not wait does the same with more answers.
use Rattle.std.proofs.Common.{◌≡◌, ◌≢◌, ℕ, List, ◌++◌, refl}
use Rattle.std.specs.Prelude.{Option, Some, None}
use Rattle.traces.specs.Invocations.{Invocation}
use Rattle.traces.specs.Runs.{waiting}
use Rattle.run_law.proofs.Settled.{settled}
use Rattle.module_semantics.specs.Setting.{Setting}
use Rattle.module_semantics.specs.State.{Conf}
use Rattle.module_semantics.specs.Run.{start}
use Rattle.memory_places.specs.Kernel.{Kernel, setting_for}
use Rattle.spv_run.specs.Runs.{act_by, walk_by, walk}

settled_by : (s : Setting) (o : Option Conf) (answers more : List (List ℕ)) (n : ℕ) → (walk_by s o answers n).status ≢ waiting → walk_by s o (answers ++ more) n ≡ walk_by s o answers n
settled_by s None answers more n flows = refl
settled_by s (Some c) answers more n flows = settled Conf (act_by s) n c answers more flows

pub walk_settled : (k : Kernel) (told : Invocation) (answers more : List (List ℕ)) (n : ℕ) → (walk k told answers n).status ≢ waiting → walk k told (answers ++ more) n ≡ walk k told answers n
walk_settled k told answers more n flows = settled_by (setting_for k told) (start (setting_for k told)) answers more n flows

-- The run of a module for one invocation.
use Rattle.std.specs.Prelude.{ℕ, Bool, true, false, List, [], Option, Some, None, is_some}
use Rattle.std.specs.List.{list_all}
use Rattle.spv_ops.specs.declared.StorageClass.TheVariants as storage
use Rattle.spv_module.specs.State.{ModuleState}
use Rattle.spv_module.specs.declared.inst.Inst.{Inst}
use Rattle.spv_module.specs.declared.inst.Function.{Function}
use Rattle.profile_rules.specs.Entry.{function_of}
use Rattle.profile_rules.specs.declared.given.Given.{Given}
use Rattle.traces.specs.Invocations.{Invocation}
use Rattle.traces.specs.Runs.{Run, made, undefined, run_of}
use Rattle.module_semantics.specs.Setting.{Setting, setting, is_in_class, is_mentioned}
use Rattle.module_semantics.specs.State.{Conf}
use Rattle.module_semantics.specs.Accesses.{initial, initial_private}
use Rattle.module_semantics.specs.Steps.{entered, act}

-- a Private variable that is mentioned has a value at the start
abbrev pub has_value_if : Setting → Inst → Bool → Bool
has_value_if s g true = is_some (initial s g)
has_value_if s g false = true

abbrev pub is_fine_private : Setting → Inst → Bool
is_fine_private s g = elim (is_in_class storage.Private g) [ true ↦ has_value_if s g (is_mentioned s g.result) | false ↦ true ]

abbrev pub have_values : Setting → Bool
have_values s = list_all (is_fine_private s) s.of.globals

abbrev pub first_state : Setting → Function → Conf
first_state s f = record { top = entered s f []; below = []; privates = initial_private s }

-- the state at the start, where there is one
abbrev pub start_by : Setting → Bool → Option Function → Option Conf
start_by s true (Some f) = Some (first_state s f)
start_by s _ _ = None

unfoldable pub start : Setting → Option Conf
start s = start_by s (have_values s) (function_of s.of.functions s.entry)

abbrev pub run_from : Setting → Option Conf → List (List ℕ) → ℕ → Run
run_from s None answers n = made [] undefined
run_from s (Some c) answers n = run_of (act s) c answers n

-- The events and the status after at most so many steps: of a module for the function of its entry point, under these overrides, of this invocation, whose accesses take these answers in order.
abbrev pub module_run : ModuleState → ℕ → List (ℕ × Given) → Invocation → List (List ℕ) → ℕ → Run
module_run m entry overrides inv answers n = let s : Setting = setting m entry overrides inv in run_from s (start s) answers n

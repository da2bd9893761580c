-- What the program runs is what the definition runs.
use Rattle.std.proofs.Common.{◌≡◌, ◌∙◌, ℕ, List, refl, ap, sym, subst}
use Rattle.std.specs.Prelude.{Option, map}
use Rattle.spv_module.specs.State.{ModuleState}
use Rattle.spv_module.specs.declared.tree.Value.{Value}
use Rattle.spv_types.specs.Tree.{ValueTree}
use Rattle.profile_rules.specs.Constants.{constants}
use Rattle.profile_rules.specs.Entry.{group_size}
use Rattle.profile_rules.specs.declared.given.Given.{Given}
use Rattle.conformance.specs.Rules.{Options}
use Rattle.module_check.specs.Judged.{IsFine}
use Rattle.module_check.specs.ReadFrom.{IsReadFrom}
use Rattle.traces.specs.Invocations.{Triple, Invocation}
use Rattle.constant_values.specs.Held.{value_among}
use Rattle.memory_places.specs.Kernel.{kernel, setting_for}
use Rattle.module_semantics.specs.Setting.{Setting, setting}
use Rattle.module_semantics.specs.Run.{start}
use Rattle.group_items.specs.Schedule.{IsTooMuch}
use Rattle.dispatch_semantics.specs.Grid.{invocation}
use Rattle.dispatch_case.specs.Cases.{CaseParts}
use Rattle.dispatch_case.specs.Three.{triple_of}
use Rattle.group_sched.specs.Start.{setup_of, grid_of}
use Rattle.run_lines.specs.Said.{IsSaid, walks}
use Rattle.run_lines.proofs.SameRuns.{said_same, too_much_same}
use Rattle.spv_run.specs.Runs.{walk, walk_by}
use Rattle.accepted_run.proofs.Walks.{accepted_walk_by}
use Rattle.run_module.specs.Runs.{given_words, part_word, workgroup_size, module_runs}
use Rattle.run_module.specs.Ends.{IsSaidFrom}

-- a setting by its constants
abbrev setting_by : ModuleState → ℕ → Invocation → (ℕ → Option ValueTree) → Setting
setting_by m entry told f = record { of = m; entry = entry; constants = f; invocation = told }

module _ (bytes : List ℕ) (m : ModuleState) (o : Options) (read : IsReadFrom bytes m) (fine : IsFine m o) (entry : ℕ) (pairs : List (ℕ × Given)) (values : List (ℕ × Value)) (c : CaseParts) (special : ℕ → Option ℕ) (known : (id : ℕ) → value_among values id ≡ constants m pairs special id) where
  same_setting : (told : Invocation) → told.specialization ≡ special → setting_for (kernel m entry values) told ≡ setting m entry pairs told
  same_setting told is =
      let same : value_among values ≡ constants m pairs told.specialization = (λ i id. known id i) ∙ ap (λ (s : ℕ → Option ℕ). constants m pairs s) (sym is) in
      ap (setting_by m entry told) same

  -- an invocation of the dispatch runs so
  same_run : (size : Triple) (i : ℕ) (answers : List (List ℕ)) → walks (walk (kernel m entry values)) c.steps (invocation (grid_of c size special) i) answers ≡ module_runs m entry pairs c.steps (invocation (grid_of c size special) i) answers
  same_run size i answers =
      ap (λ (s : Setting). walk_by s (start s) answers c.steps) (same_setting (invocation (grid_of c size special) i) refl)
      ∙ accepted_walk_by bytes m o read fine entry pairs (invocation (grid_of c size special) i) answers c.steps

  said_by : (size : Triple) (text : List ℕ) → IsSaid c size special (walks (walk (kernel m entry values)) c.steps) text → IsSaid c size special (module_runs m entry pairs c.steps) text
  said_by size text said = said_same c size special _ _ text (same_run size) said

  pub said_here : (size : Triple) (text : List ℕ) → ((id : ℕ) → special id ≡ given_words pairs id) → size ≡ triple_of (map (part_word special) (group_size m entry)) → IsSaid c size special (walks (walk (kernel m entry values)) c.steps) text → IsSaidFrom m pairs entry c text
  said_here size text given is said =
      let here = subst (λ (s : Triple). IsSaid c s special (module_runs m entry pairs c.steps) text) is (said_by size text said) in
      subst (λ (s : ℕ → Option ℕ). IsSaid c (workgroup_size m s entry) s (module_runs m entry pairs c.steps) text) (λ i id. given id i) here

  pub much_here : (size : Triple) → ((id : ℕ) → special id ≡ given_words pairs id) → size ≡ triple_of (map (part_word special) (group_size m entry)) → IsTooMuch (setup_of c size special) (walks (walk (kernel m entry values)) c.steps) c.first → IsTooMuch (setup_of c (workgroup_size m (given_words pairs) entry) (given_words pairs)) (module_runs m entry pairs c.steps) c.first
  much_here size given is much =
      let here = subst (λ (s : Triple). IsTooMuch (setup_of c s special) (module_runs m entry pairs c.steps) c.first) is (too_much_same (setup_of c size special) _ _ c.first (same_run size) much) in
      subst (λ (s : ℕ → Option ℕ). IsTooMuch (setup_of c (workgroup_size m s entry) s) (module_runs m entry pairs c.steps) c.first) (λ i id. given id i) here

-- The state at the start.
use Rattle.std.proofs.Common.{◌≡◌, ℕ, true, false, Bool, List, [], refl, ap, sym, ◌∙◌}
use Rattle.std.specs.Prelude.{Option, Some, None}
use Rattle.run_calls.proofs.Taken.{no_argument}
use Rattle.spv_module.specs.declared.inst.Function.{Function}
use Rattle.spv_types.specs.Tree.{ValueTree}
use Rattle.profile_rules.specs.Entry.{function_of}
use Rattle.traces.specs.Invocations.{Invocation}
use Rattle.group_items.specs.Sides.{told_of}
use Rattle.module_semantics.specs.Setting.{Setting}
use Rattle.module_semantics.specs.State as state
use Rattle.module_semantics.specs.Accesses.{initial_private}
use Rattle.module_semantics.specs.Steps.{entered}
use Rattle.module_semantics.specs.Run.{have_values, start_by, start}
use Rattle.memory_places.specs.Kernel.{Kernel, setting_for}
use Rattle.run_operands.specs.Looks.{Ids}
use Rattle.run_flow.specs.Flow.{first_of}
use Rattle.run_law.specs.Walks.{walk_from}
use Rattle.step_run.specs.Steps.{IsStart}
use Rattle.spv_run.specs.declared.state.State.{State}
use Rattle.spv_run.specs.Runs.{act_by, walk_by, walk}
use Rattle.spv_run.specs.States.{is_at_by, setting_at, stands_at, is_at, goes_from}

abbrev conf_by : state.Frame → List (state.Frame × ℕ) → (ℕ → Option ValueTree) → state.Conf
conf_by top below privates = record { top = top; below = below; privates = privates }

module _ (s : Setting) where
  pub no_values : have_values s ≡ false → None ≡ start s
  unfolding start
  no_values none = ap (λ b. start_by s b (function_of s.of.functions s.entry)) (sym none)

  by_values : (b : Bool) → None ≡ start_by s b None
  by_values true = refl
  by_values false = refl

  pub no_entry : function_of s.of.functions s.entry ≡ None → None ≡ start s
  unfolding start
  no_entry none = by_values (have_values s) ∙ ap (start_by s (have_values s)) (sym none)

  pub begun : (f : Function) (top : state.Frame) (below : List (state.Frame × ℕ)) (ids : Ids) (privates : ℕ → Option ValueTree) → below ≡ [] → have_values s ≡ true → function_of s.of.functions s.entry ≡ Some f → top ≡ first_of s f ids → ((q : ℕ) → ids q ≡ None) → ((q : ℕ) → privates q ≡ initial_private s q) → Some (conf_by top below privates) ≡ start s
  unfolding start entered
  begun f top below ids privates alone values there first none all =
      ap (λ l. Some (conf_by top l privates)) alone
      ∙ ap (λ t. Some (conf_by t [] privates)) first
      ∙ ap (λ p. Some (conf_by (first_of s f ids) [] p)) (λ j q. all q j)
      ∙ ap (λ (m : Ids). Some (conf_by (first_of s f m) [] (initial_private s))) (λ j q. (none q ∙ sym (no_argument f.params q)) j)
      ∙ ap (start_by s true) (sym there)
      ∙ ap (λ b. start_by s b (function_of s.of.functions s.entry)) (sym values)

-- the state at the start does what the run does
pub is_start : (k : Kernel) (told : Invocation) (st : State) → told_of st.told ≡ told → st.taken ≡ false → Some (stands_at k st) ≡ start (setting_for k told) → IsStart (walk k told) (goes_from k) (Some st)
is_start k told st same none at =
    ap (λ (v : Invocation). walk_from (act_by (setting_for k v)) (is_at k st)) same
    ∙ ap (walk_from (act_by (setting_for k told))) at_start
    ∙ ap (walk_by (setting_for k told)) at
  where
    at_start : is_at k st ≡ stands_at k st
    at_start = ap (λ b. is_at_by b (act_by (setting_at k st) (stands_at k st)) st.words.items (stands_at k st)) none

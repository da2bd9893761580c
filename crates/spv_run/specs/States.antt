-- What is done from where an invocation is.
use Rattle.std.specs.Prelude.{ℕ, ◌≡◌, ◌==◌, Bool, true, false, List, length, Option, Some, None, option_map, if◌then◌else◌}
use Rattle.traces.specs.Events.{Access, reading, updating}
use Rattle.traces.specs.Runs.{Act, asks}
use Rattle.group_items.specs.Events.{event_of, access_of}
use Rattle.group_items.specs.Sides.{told_of}
use Rattle.run_law.specs.Walks.{Walk, walk_from}
use Rattle.step_run.specs.declared.program.Step.{Step}
use Rattle.step_run.specs.declared.program.Step.TheVariants.{Asks}
use Rattle.module_semantics.specs.Setting.{Setting}
use Rattle.module_semantics.specs.State as state
use Rattle.memory_places.specs.Kernel.{Kernel, setting_for}
use Rattle.run_state.specs.Confs.{conf_of}
use Rattle.run_acts.specs.Narrowed.{told_words}
use Rattle.spv_run.specs.declared.state.State.{State}
use Rattle.spv_run.specs.Runs.{act_by}

-- how many words an access asks for
abbrev pub count_of : Access → ℕ
count_of (reading at) = length at
count_of (updating o at operands) = 1

-- how many a step asks for
abbrev pub wanted : Step → Option ℕ
wanted (Asks e) = option_map count_of (access_of (event_of e))
wanted _ = None

-- the access of an act, if it asks for so many words
abbrev pub asked_in : ℕ → Act state.Conf → Option Access
asked_in n (asks a f) = if count_of a == n then Some a else None
asked_in n _ = None

-- where a machine is with words that it has, and the access for which there is only room
abbrev pub is_at_by : Bool → Act state.Conf → List ℕ → state.Conf → state.Conf
is_at_by true a words c = told_words a words c
is_at_by false a words c = c

abbrev pub asked_by : Bool → ℕ → Act state.Conf → Option Access
asked_by true n a = None
asked_by false n a = asked_in n a

module _ (k : Kernel) (st : State) where
  abbrev pub setting_at : Setting
  setting_at = setting_for k (told_of st.told)

  -- where the instruction is next that asks, or has asked
  abbrev pub stands_at : state.Conf
  stands_at = conf_of k.of.functions st.conf

  abbrev pub is_at : state.Conf
  is_at = is_at_by st.taken (act_by setting_at stands_at) st.words.items stands_at

  abbrev pub goes_from : Walk
  goes_from = walk_from (act_by setting_at) is_at

  abbrev pub asked_from : Option Access
  asked_from = asked_by st.taken (length st.words.items) (act_by setting_at stands_at)

-- the words that there are have been taken
pub record HasTaken (k : Kernel) (old new : State) : Type 0 where
  pub told : new.told ≡ old.told
  pub stands : stands_at k new ≡ is_at k old
  pub none : new.taken ≡ false

-- it is where it was
pub record IsThere (k : Kernel) (old new : State) : Type 0 where
  pub told : new.told ≡ old.told
  pub same : is_at k new ≡ is_at k old

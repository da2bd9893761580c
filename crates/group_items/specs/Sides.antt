-- What is said of a runner of invocations: what each does, and how far each is.
use Rattle.std.specs.Prelude.{ℕ, ◌≡◌, ◌==◌, ◌&&◌, ◌||◌, Bool, true, false, List, [], ◌∷◌, ◌++◌, Option, Some, None, IfSome, map, find, option_and_then, slice_get}
use Rattle.std.specs.Option.{option_map_or}
use Rattle.std.specs.List.{list_any}
use Rattle.std.specs.BTreeMap.{get}
use Rattle.std.specs.Ordering.{nat_cmp}
use Rattle.spv_types.specs.Tree.{ValueTree, word, many, values_in}
use Rattle.spv_types.specs.View.{value_of}
use Rattle.op_semantics.specs.Component.{listed}
use Rattle.traces.specs.Events as trace
use Rattle.traces.specs.Invocations.{Triple, Invocation as Told}
use Rattle.traces.specs.Runs as run
use Rattle.traces.specs.Runs.{Run, made}
use Rattle.traces.specs.Simulation.{IsPrefix}
use Rattle.dispatch_semantics.specs.Store.{answers_of, AreWords}
use Rattle.dispatch_semantics.specs.Dispatch.{Past, later, Side, of_module}
use Rattle.group_items.specs.declared.event.Pause.{Pause}
use Rattle.group_items.specs.declared.event.Pause.TheVariants.{Made, Asks, Ended, Undefined, Cut}
use Rattle.group_items.specs.declared.runner.Invocation.{Invocation}
use Rattle.group_items.specs.Events.{event_of, access_of}

-- the words of a value that has three, and the word of one that is a word
abbrev pub word_in : Option ValueTree → ℕ
word_in (Some (word w)) = w
word_in _ = 0

abbrev pub triple_in : Option ValueTree → Triple
triple_in (Some (many vs)) = (word_in (slice_get (listed vs) 0), word_in (slice_get (listed vs) 1), word_in (slice_get (listed vs) 2))
triple_in _ = (0, 0, 0)

-- of numbers with two keys, the one with these keys
abbrev pub has_keys : ℕ → ℕ → ℕ × ℕ × ℕ → Bool
has_keys set binding p = (p.0 == set) && (p.1 == binding)

abbrev pub bytes_in : List (ℕ × ℕ × ℕ) → ℕ → ℕ → ℕ
bytes_in sizes set binding = option_map_or (λ (p : ℕ × ℕ × ℕ). p.2) (find (has_keys set binding) sizes) 0

-- what an invocation is told
abbrev pub told_of : Invocation → Told
told_of v =
    let values : List ValueTree = map value_of v.builtins.items in
    record {
      num_workgroups = triple_in (slice_get values 0);
      workgroup_id = triple_in (slice_get values 1);
      local_invocation_id = triple_in (slice_get values 2);
      global_invocation_id = triple_in (slice_get values 3);
      local_invocation_index = word_in (slice_get values 4);
      buffer_bytes = bytes_in v.sizes.items;
      specialization = get nat_cmp v.special;
    }

-- the values of the built-in variables
abbrev pub three : Triple → ValueTree
three t = many (values_in (word t.0 ∷ word t.1 ∷ word t.2 ∷ []))

abbrev pub built_ins : Told → List ValueTree
built_ins t =
    three t.num_workgroups ∷ three t.workgroup_id ∷ three t.local_invocation_id ∷ three t.global_invocation_id ∷ word t.local_invocation_index ∷ []

-- two keys come twice
abbrev pub keys_repeat : List (ℕ × ℕ × ℕ) → Bool
keys_repeat [] = false
keys_repeat (p ∷ ps) = list_any (has_keys p.0 p.1) ps || keys_repeat ps

-- there are five values, four of three words and one of one, and no buffer has two sizes
pub record IsWhole (v : Invocation) : Type 0 where
  pub values : map value_of v.builtins.items ≡ built_ins (told_of v)
  pub sizes : keys_repeat v.sizes.items ≡ false

-- what an invocation does with these answers, within the number of steps or turns of its side
abbrev pub Runs : Type 0
Runs = Told → List (List ℕ) → Run

-- an invocation that has begun: what it is told, the events that it has made, and what it asks for
pub record Begun : Type 0 where
  pub told : Told
  pub past : Past
  pub asked : Option trace.Access

abbrev pub nothing : Past
nothing = record { events = []; answers = [] }

abbrev pub fresh : Told → Begun
fresh t = record { told = t; past = nothing; asked = None }

-- the function with another value at this number
abbrev pub with_at : {A : Type 0} → (ℕ → A) → ℕ → A → ℕ → A
with_at f i a j = elim (j == i) [ true ↦ a | false ↦ f j ]

-- with these words the run goes on with the event that the access makes of them
abbrev pub GoesOnWith : Runs → Begun → trace.Access → Type 0
GoesOnWith runs b a =
    (words : List ℕ) → AreWords words → IfSome (trace.event_of a words) (λ e. IsPrefix (b.past.events ++ e ∷ []) (runs b.told (b.past.answers ++ words ∷ [])).events)

-- The run's next event, or why there is none: it has made one more; it waits for words, with which it makes one more; it has made no other.
abbrev pub IsNext : Runs → Begun → Pause → Type 0
IsNext runs b (Made e) = (answers_of (event_of e) ≡ []) × IsPrefix (b.past.events ++ event_of e ∷ []) (runs b.told b.past.answers).events
IsNext runs b (Asks e) = (runs b.told b.past.answers ≡ made b.past.events run.waiting) × ((a : trace.Access) × (access_of (event_of e) ≡ Some a) × GoesOnWith runs b a)
IsNext runs b Ended = runs b.told b.past.answers ≡ made b.past.events run.ended
IsNext runs b Undefined = runs b.told b.past.answers ≡ made b.past.events run.undefined
IsNext runs b Cut = runs b.told b.past.answers ≡ made b.past.events run.running

abbrev pub behind_pause : Begun → Pause → Begun
behind_pause b (Made e) = record b { past = later b.past (event_of e) }
behind_pause b (Asks e) = record b { asked = access_of (event_of e) }
behind_pause b _ = b

-- the event of what was asked for, with these words
abbrev pub event_with : Begun → List ℕ → Option trace.Event
event_with b words = option_and_then (λ (a : trace.Access). trace.event_of a words) b.asked

abbrev pub behind_event : Begun → Option trace.Event → Begun
behind_event b (Some e) = record b { past = later b.past e; asked = None }
behind_event b None = b

-- the side of a dispatch whose invocations are told this
abbrev pub side_of : Runs → (ℕ → Told) → Side
side_of runs told i answers = of_module (runs (told i) answers)

-- What a runner keeps of all its invocations. It has one proof at most.
use Rattle.std.specs.Prelude.{◌≡◌, ℕ, zero, suc, ◌+◌, List, [], ◌∷◌, ◌++◌, Option, Some, None, IfSome, length, slice_get}
use Rattle.std.specs.Coded.{Coded-set, coded_list, coded_ℕ, coded_option, ×_prop, Π_prop, Unit-prop, le_prop}
use Rattle.traces.specs.Events as trace
use Rattle.traces.specs.Invocations as told
use Rattle.traces.specs.Runs as run
use Rattle.traces.specs.Runs.{made, before}
use Rattle.group_items.specs.Events.{event_of, access_of}
use Rattle.group_items.specs.declared.event.Event.{Event}
use Rattle.group_items.specs.Sides.{Begun, nothing}
use Rattle.run_law.specs.Walks.{Walk}
use Rattle.run_codes.specs.Codes.{same_walk, event_code, access_code}
use Rattle.step_run.specs.declared.row.Row.{Row}
use Rattle.step_run.specs.declared.row.Thread.{Thread}
use Rattle.step_run.specs.Answers.{answers_in}
use Rattle.step_run.specs.Room.{HasRoom}
use Rattle.step_run.specs.Asking.{CanTake, Asked}
use Rattle.step_run.specs.Kept.{told_by, told_events, untold_events, begun_of, IsGoing}

-- nothing is asked, and nothing was told
abbrev pub IsNew : Row → Type 0
IsNew r = (told_events r ≡ []) × IfSome r.asked (λ (e : Event). ⊥)

module _ {S : Type 0} (walk : told.Invocation → Walk) (steps : ℕ) (goes : S → Walk) (asks : S → Option trace.Access) where
  -- the state goes on as the invocation does; without a state the run has no meaning from the start
  abbrev pub IsKept : Row → Option S → Type 0
  IsKept r (Some s) = IsGoing (walk (told_by r.inv)) steps r (goes s) × Asked steps r (asks s)
  IsKept r None = ((answers : List (List ℕ)) (n : ℕ) → walk (told_by r.inv) answers n ≡ made [] run.undefined) × IsNew r

  abbrev pub AreKept : List (Thread S) → Type 0
  AreKept ts = (k : ℕ) → IfSome (slice_get ts k) (λ (t : Thread S). IsKept t.row t.state)

-- how far each is
abbrev pub begun_at : {S : Type 0} → List (Thread S) → ℕ → Begun
begun_at [] k = record { told = record { num_workgroups = (0, 0, 0); workgroup_id = (0, 0, 0); local_invocation_id = (0, 0, 0); global_invocation_id = (0, 0, 0); local_invocation_index = 0; buffer_bytes = λ set binding. 0; specialization = λ id. None }; past = nothing; asked = None }
begun_at (t ∷ ts) zero = begun_of t.row
begun_at (t ∷ ts) (suc k) = begun_at ts k

-- each of these facts has one proof at most
⊥-one : IsProp ⊥
⊥-one x y = absurd x

IfSome-one : {A : Type 0} {P : A → Type 0} → ((x : A) → IsProp (P x)) → (o : Option A) → IsProp (IfSome o P)
IfSome-one h None = Unit-prop
IfSome-one h (Some x) = h x

HasRoom-one : (e : trace.Event) → IsProp (HasRoom e)
HasRoom-one (trace.read places words) = Coded-set coded_ℕ (length words) (length places)
HasRoom-one (trace.atomic o at operands found) = Unit-prop
HasRoom-one (trace.write places words) = ⊥-one
HasRoom-one trace.buffer_barrier = ⊥-one
HasRoom-one trace.shared_barrier = ⊥-one
HasRoom-one trace.control_barrier = ⊥-one

events_set : (xs ys : List trace.Event) → IsProp (xs ≡ ys)
events_set xs ys = Coded-set (coded_list event_code) xs ys

IsNew-one : (r : Row) → IsProp (IsNew r)
IsNew-one r = ×_prop (events_set (told_events r) []) (IfSome-one (λ e. ⊥-one) r.asked)

IsGoing-one : (start : Walk) (steps : ℕ) (r : Row) (here : Walk) → IsProp (IsGoing start steps r here)
IsGoing-one start steps r here =
    ×_prop le_prop (×_prop (Coded-set (coded_list (coded_list coded_ℕ)) (answers_in (untold_events r)) [])
    (same_walk (λ more n. start (answers_in (told_events r) ++ more) (r.used + n)) (λ more n. before (told_events r ++ untold_events r) (here more n))))

CanTake-one : (steps : ℕ) (r : Row) (asks : Option trace.Access) (e : Event) → IsProp (CanTake steps r asks e)
CanTake-one steps r asks e =
    ×_prop (HasRoom-one (event_of e))
    (×_prop (Coded-set (coded_option access_code) (access_of (event_of e)) asks)
    (×_prop le_prop (×_prop (events_set (untold_events r) []) le_prop)))

module _ {S : Type 0} (walk : told.Invocation → Walk) (steps : ℕ) (goes : S → Walk) (asks : S → Option trace.Access) where
  IsKept-one : (r : Row) (s : Option S) → IsProp (IsKept walk steps goes asks r s)
  IsKept-one r (Some s) = ×_prop (IsGoing-one (walk (told_by r.inv)) steps r (goes s)) (IfSome-one (CanTake-one steps r (asks s)) r.asked)
  IsKept-one r None = ×_prop (same_walk (walk (told_by r.inv)) (λ answers n. made [] run.undefined)) (IsNew-one r)

  pub AreKept-one : (ts : List (Thread S)) → IsProp (AreKept walk steps goes asks ts)
  AreKept-one ts = Π_prop (λ k. IfSome-one (λ (t : Thread S). IsKept-one t.row t.state) (slice_get ts k))

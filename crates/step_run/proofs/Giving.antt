-- The words that are given to an invocation.
use Rattle.std.proofs.Common.{◌≡◌, ℕ, ◌+◌, ◌<◌, ◌^◌, List, sym, ap, ◌∙◌, subst, arith}
use Rattle.std.specs.Prelude.{Option, Some, None, IsSome, IfSome, option_and_then}
use Rattle.traces.specs.Events as trace
use Rattle.traces.specs.Invocations as told
use Rattle.dispatch_semantics.specs.Dispatch.{later}
use Rattle.group_items.specs.Events.{event_of, filled}
use Rattle.group_items.specs.declared.event.Event.{Event}
use Rattle.group_items.specs.Sides.{behind_event}
use Rattle.run_law.specs.Walks.{Walk}
use Rattle.step_run.specs.declared.row.Row.{Row}
use Rattle.step_run.specs.Steps.{IsResumed, event_asked}
use Rattle.step_run.specs.Kept.{told_by, asked_by, begun_of, IsGoing}
use Rattle.step_run.specs.Asking.{CanTake, HasPlace, IsAnswered}
use Rattle.step_run.specs.KeptAll.{IsKept}
use Rattle.step_run.proofs.Onward.{answered_on, later_begun}
use Rattle.step_run.proofs.Taking.{made_with, took_with}

abbrev event_by : List ℕ → Option Event → Option trace.Event
event_by words o = option_and_then (λ (a : trace.Access). trace.event_of a words) (asked_by o)

-- what answer needs
pub place_by : (steps : ℕ) (r : Row) (asks : Option trace.Access) (words : List ℕ) (o : Option Event) → IfSome o (CanTake steps r asks) → IsSome (event_by words o) → IfSome o (HasPlace r words)
place_by steps r asks words None k f = tt
place_by steps r asks words (Some e) k f = (k.0, (f, k.1.1.1.1))

pub small_by : (steps : ℕ) (r : Row) (asks : Option trace.Access) (words : List ℕ) (o : Option Event) → steps < 2 ^ 64 → IfSome o (CanTake steps r asks) → IsSome (event_by words o) → r.used + 1 < 2 ^ 64
small_by steps r asks words None small k f = cc
small_by steps r asks words (Some e) small k f = let less : r.used < steps = k.1.1.0 in omega (arith, less, small)

-- the program can take the words
pub fits_by : (steps : ℕ) (r : Row) (asks : Option trace.Access) (words : List ℕ) (o : Option Event) → IfSome o (CanTake steps r asks) → IsSome (event_by words o) → IsSome (event_asked asks words)
fits_by steps r asks words None k f = cc
fits_by steps r asks words (Some e) k f = subst (λ a. IsSome (event_asked a words)) k.1.0 f

module _ {S : Type 0} (walk : told.Invocation → Walk) (steps : ℕ) (goes : S → Walk) (asks : S → Option trace.Access) (old new : Row) (s t : S) (words : List ℕ) (kept : IsKept walk steps goes asks old (Some s)) (resumed : IsResumed (goes s) (goes t) words (event_asked (asks s) words)) where
  going_by : (o : Option Event) → IfSome o (CanTake steps old (asks s)) → IfSome o (IsAnswered old words new) → IsSome (event_by words o) → IsKept walk steps goes asks new (Some t)
  going_by None k a f = cc
  going_by (Some e) k a f =
      let made : event_asked (asks s) words ≡ Some (filled (event_of e) words) = ap (λ b. event_asked b words) (sym k.1.0) ∙ made_with (event_of e) words f in
      let step = subst (IsResumed (goes s) (goes t) words) made resumed in (
        subst (λ v. IsGoing (walk (told_by v)) steps new (goes t)) (sym a.inv)
            (answered_on (walk (told_by old.inv)) steps old (goes s) kept.0 k.1.1.1.0 k.1.1.0 new (goes t) words (filled (event_of e) words) a.told a.untold a.used (took_with (event_of e) words f) step),
        subst (λ o. IfSome o (CanTake steps new (asks t))) (sym a.asked) tt,
      )

  pub given_kept : IfSome old.asked (IsAnswered old words new) → IsSome (event_by words old.asked) → IsKept walk steps goes asks new (Some t)
  given_kept a f = going_by old.asked kept.1 a f

-- with the event that was asked for
begun_by : (old new : Row) (words : List ℕ) (o : Option Event) → IfSome o (IsAnswered old words new) → IsSome (event_by words o) → begun_of new ≡ behind_event (begun_of old) (event_by words o)
begun_by old new words None a f = cc
begun_by old new words (Some e) a f =
    later_begun old new (filled (event_of e) words) a.inv a.told
    ∙ ap (λ (o : Option Event). record (begun_of old) { past = later (begun_of old).past (filled (event_of e) words); asked = asked_by o }) a.asked
    ∙ ap (behind_event (begun_of old)) (sym (made_with (event_of e) words f))

pub given_begun : (old new : Row) (words : List ℕ) → IfSome old.asked (IsAnswered old words new) → IsSome (event_by words old.asked) → begun_of new ≡ behind_event (begun_of old) (event_by words old.asked)
given_begun old new words a f = begun_by old new words old.asked a f

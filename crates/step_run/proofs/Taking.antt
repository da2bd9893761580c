-- What is asked of an invocation, and the words that it takes.
use Rattle.std.proofs.Common.{◌≡◌, ℕ, ◌==◌, Bool, true, false, List, [], ◌∷◌, length, refl}
use Rattle.std.specs.Prelude.{Option, Some, None, IsSome, IfSome, option_and_then, if◌then◌else◌}
use Rattle.traces.specs.Events as trace
use Rattle.dispatch_semantics.specs.Store.{answers_of}
use Rattle.group_items.specs.Events.{event_of, access_of, filled}
use Rattle.group_items.specs.declared.event.Event.{Event}
use Rattle.step_run.specs.Room.{HasRoom, Fits}
use Rattle.step_run.specs.Kept.{asked_by}

-- what has room for words is an access
pub no_access : (e : trace.Event) → HasRoom e → access_of e ≡ None → ⊥
no_access (trace.read places words) h n = cc
no_access (trace.atomic o at operands found) h n = cc
no_access (trace.write places words) h n = h
no_access trace.buffer_barrier h n = h
no_access trace.shared_barrier h n = h
no_access trace.control_barrier h n = h

-- where no access is asked for there is none
pub none_asked : (o : Option Event) → IfSome o (λ e. HasRoom (event_of e)) → asked_by o ≡ None → o ≡ None
none_asked None h n = refl
none_asked (Some e) h n = absurd (no_access (event_of e) h n)

read_if : (b : Bool) (e : trace.Event) → IsSome (if b then Some e else None) → (if b then Some e else None) ≡ Some e
read_if true e h = refl
read_if false e h = cc

-- the event that an access makes of words that fit
pub made_with : (e : trace.Event) (words : List ℕ) → Fits e words → option_and_then (λ (a : trace.Access). trace.event_of a words) (access_of e) ≡ Some (filled e words)
made_with (trace.read places old) words h = read_if (length words == length places) (trace.read places words) h
made_with (trace.atomic o at operands found) [] h = cc
made_with (trace.atomic o at operands found) (w ∷ []) h = refl
made_with (trace.atomic o at operands found) (w ∷ v ∷ ws) h = cc
made_with (trace.write places words) ws h = cc
made_with trace.buffer_barrier ws h = cc
made_with trace.shared_barrier ws h = cc
made_with trace.control_barrier ws h = cc

pub took_with : (e : trace.Event) (words : List ℕ) → Fits e words → answers_of (filled e words) ≡ words ∷ []
took_with (trace.read places old) words h = refl
took_with (trace.atomic o at operands found) [] h = cc
took_with (trace.atomic o at operands found) (w ∷ []) h = refl
took_with (trace.atomic o at operands found) (w ∷ v ∷ ws) h = cc
took_with (trace.write places words) ws h = cc
took_with trace.buffer_barrier ws h = cc
took_with trace.shared_barrier ws h = cc
took_with trace.control_barrier ws h = cc

-- Room for the words that an access asks for.
use Rattle.std.specs.Prelude.{◌≡◌, ℕ, List, IsSome, length, option_and_then}
use Rattle.traces.specs.Events as trace
use Rattle.group_items.specs.Events.{access_of}

-- an access has room for its words
abbrev pub HasRoom : trace.Event → Type 0
HasRoom (trace.read places words) = length words ≡ length places
HasRoom (trace.atomic o at operands found) = Unit {0}
HasRoom _ = ⊥

-- the same access, with room
pub record IsReady (e room : trace.Event) : Type 0 where
  pub same : access_of room ≡ access_of e
  pub has : HasRoom room

-- the access makes an event of these words
abbrev pub Fits : trace.Event → List ℕ → Type 0
Fits e words = IsSome (option_and_then (λ (a : trace.Access). trace.event_of a words) (access_of e))

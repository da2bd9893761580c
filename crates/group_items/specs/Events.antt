-- The places and events that the program's own stand for.
use Rattle.std.specs.Prelude.{ℕ, ◌+◌, List, [], ◌∷◌, Option, Some, None, length, map, slice_index}
use Rattle.traces.specs.Events as trace
use Rattle.traces.specs.Events.{Location, buffer, push, shared, AtomicOperation, Access, reading, updating}
use Rattle.group_items.specs.declared.event.LeafPlace.{LeafPlace}
use Rattle.group_items.specs.declared.event.LeafPlace.TheVariants.{Buffer, Push, Shared}
use Rattle.group_items.specs.declared.event.RmwKind.{RmwKind}
use Rattle.group_items.specs.declared.event.RmwKind.TheVariants as kind
use Rattle.group_items.specs.declared.event.Event.{Event}
use Rattle.group_items.specs.declared.event.Event.TheVariants.{Read, Write, Rmw, MemBuffer, MemShared, Control}

abbrev pub location_of : LeafPlace → Location
location_of (Buffer set binding byte) = buffer set binding byte
location_of (Push byte) = push byte
location_of (Shared variable path) = shared variable path.items

abbrev pub operation_of : RmwKind → AtomicOperation
operation_of kind.Add = trace.add
operation_of kind.SMin = trace.signed_min
operation_of kind.UMin = trace.unsigned_min
operation_of kind.SMax = trace.signed_max
operation_of kind.UMax = trace.unsigned_max
operation_of kind.And = trace.bit_and
operation_of kind.Or = trace.bit_or
operation_of kind.Xor = trace.bit_xor
operation_of kind.Exchange = trace.exchange
operation_of kind.CompSwap = trace.compare_exchange

abbrev pub locations_of : List LeafPlace → List Location
locations_of places = map location_of places

abbrev pub event_of : Event → trace.Event
event_of (Read places words) = trace.read (locations_of places.items) words.items
event_of (Write places words) = trace.write (locations_of places.items) words.items
event_of (Rmw kind place operands found) = trace.atomic (operation_of kind) (location_of place) operands.items found
event_of MemBuffer = trace.buffer_barrier
event_of MemShared = trace.shared_barrier
event_of Control = trace.control_barrier

-- the access whose words are asked for
abbrev pub access_of : trace.Event → Option Access
access_of (trace.read places words) = Some (reading places)
access_of (trace.atomic o at operands found) = Some (updating o at operands)
access_of _ = None

-- the event with the words that were found
abbrev pub filled : trace.Event → List ℕ → trace.Event
filled (trace.read places old) words = trace.read places words
filled (trace.atomic o at operands old) words = trace.atomic o at operands (slice_index words 0)
filled e words = e

-- of each event the invocation that made it
abbrev pub events_of : List (ℕ × Event) → List (ℕ × trace.Event)
events_of es = map (λ (e : ℕ × Event). (e.0, event_of e.1)) es

-- how many scalars an event is of
abbrev pub place_count : trace.Event → ℕ
place_count (trace.read places words) = length places
place_count (trace.write places words) = length places
place_count (trace.atomic o at operands found) = 1
place_count _ = 0

-- the events and their scalars, added
abbrev pub weight_of : List (ℕ × trace.Event) → ℕ
weight_of [] = 0
weight_of (e ∷ es) = 1 + place_count e.1 + weight_of es

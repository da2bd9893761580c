-- Events and runs as codes. A struct may keep a fact that has one proof at most; with a code a fact that is an equation of runs is one.
use Rattle.std.specs.Prelude.{◌≡◌, ◌⊎◌, ℕ, zero, suc, List, refl}
use Rattle.std.proofs.Common.{inl, inr}
use Rattle.std.specs.Coded.{Coded, Coded-set, code_by, coded_ℕ, coded_list, coded×, coded⊎, Π_prop}
use Rattle.traces.specs.Events as trace
use Rattle.traces.specs.Events.{Location, AtomicOperation, Event, Access, buffer, push, shared, reading, updating}
use Rattle.traces.specs.Runs as run
use Rattle.traces.specs.Runs.{Run, Status}

-- a place by its numbers
abbrev Place : Type 0
Place = (ℕ × (ℕ × ℕ)) ⊎ (ℕ ⊎ (ℕ × List ℕ))

abbrev numbers_of : Location → Place
numbers_of (buffer set binding byte) = inl (set, (binding, byte))
numbers_of (push byte) = inr (inl byte)
numbers_of (shared variable path) = inr (inr (variable, path))

abbrev place_of : Place → Location
place_of (inl t) = buffer t.0 t.1.0 t.1.1
place_of (inr (inl byte)) = push byte
place_of (inr (inr p)) = shared p.0 p.1

pub same_place : (at : Location) → place_of (numbers_of at) ≡ at
same_place (buffer set binding byte) = refl
same_place (push byte) = refl
same_place (shared variable path) = refl

abbrev pub location_code : Coded Location
location_code = code_by Place (coded⊎ (coded× coded_ℕ (coded× coded_ℕ coded_ℕ)) (coded⊎ coded_ℕ (coded× coded_ℕ (coded_list coded_ℕ)))) numbers_of place_of same_place

-- an operation by its number
abbrev number_of : AtomicOperation → ℕ
number_of trace.add = 0
number_of trace.signed_min = 1
number_of trace.unsigned_min = 2
number_of trace.signed_max = 3
number_of trace.unsigned_max = 4
number_of trace.bit_and = 5
number_of trace.bit_or = 6
number_of trace.bit_xor = 7
number_of trace.exchange = 8
number_of trace.compare_exchange = 9

abbrev operation_of : ℕ → AtomicOperation
operation_of zero = trace.add
operation_of (suc zero) = trace.signed_min
operation_of (suc (suc zero)) = trace.unsigned_min
operation_of (suc (suc (suc zero))) = trace.signed_max
operation_of (suc (suc (suc (suc zero)))) = trace.unsigned_max
operation_of (suc (suc (suc (suc (suc zero))))) = trace.bit_and
operation_of (suc (suc (suc (suc (suc (suc zero)))))) = trace.bit_or
operation_of (suc (suc (suc (suc (suc (suc (suc zero))))))) = trace.bit_xor
operation_of (suc (suc (suc (suc (suc (suc (suc (suc zero)))))))) = trace.exchange
operation_of (suc (suc (suc (suc (suc (suc (suc (suc (suc n))))))))) = trace.compare_exchange

pub same_operation : (o : AtomicOperation) → operation_of (number_of o) ≡ o
same_operation trace.add = refl
same_operation trace.signed_min = refl
same_operation trace.unsigned_min = refl
same_operation trace.signed_max = refl
same_operation trace.unsigned_max = refl
same_operation trace.bit_and = refl
same_operation trace.bit_or = refl
same_operation trace.bit_xor = refl
same_operation trace.exchange = refl
same_operation trace.compare_exchange = refl

abbrev pub operation_code : Coded AtomicOperation
operation_code = code_by ℕ coded_ℕ number_of operation_of same_operation

-- an event by its parts: an access with words, an atomic, or the number of a barrier
abbrev Parts : Type 0
Parts = (List Location × List ℕ) ⊎ ((List Location × List ℕ) ⊎ ((AtomicOperation × (Location × (List ℕ × ℕ))) ⊎ ℕ))

abbrev parts_of : Event → Parts
parts_of (trace.read at words) = inl (at, words)
parts_of (trace.write at words) = inr (inl (at, words))
parts_of (trace.atomic o at operands found) = inr (inr (inl (o, (at, (operands, found)))))
parts_of trace.buffer_barrier = inr (inr (inr 0))
parts_of trace.shared_barrier = inr (inr (inr 1))
parts_of trace.control_barrier = inr (inr (inr 2))

abbrev barrier_of : ℕ → Event
barrier_of zero = trace.buffer_barrier
barrier_of (suc zero) = trace.shared_barrier
barrier_of (suc (suc n)) = trace.control_barrier

abbrev event_by : Parts → Event
event_by (inl p) = trace.read p.0 p.1
event_by (inr (inl p)) = trace.write p.0 p.1
event_by (inr (inr (inl p))) = trace.atomic p.0 p.1.0 p.1.1.0 p.1.1.1
event_by (inr (inr (inr n))) = barrier_of n

pub same_event : (e : Event) → event_by (parts_of e) ≡ e
same_event (trace.read at words) = refl
same_event (trace.write at words) = refl
same_event (trace.atomic o at operands found) = refl
same_event trace.buffer_barrier = refl
same_event trace.shared_barrier = refl
same_event trace.control_barrier = refl

abbrev words_code : Coded (List Location × List ℕ)
words_code = coded× (coded_list location_code) (coded_list coded_ℕ)

abbrev pub event_code : Coded Event
event_code =
    code_by Parts (coded⊎ words_code (coded⊎ words_code (coded⊎ (coded× operation_code (coded× location_code (coded× (coded_list coded_ℕ) coded_ℕ))) coded_ℕ))) parts_of event_by same_event

-- an access by its parts
abbrev asked_parts : Access → List Location ⊎ (AtomicOperation × (Location × List ℕ))
asked_parts (reading at) = inl at
asked_parts (updating o at operands) = inr (o, (at, operands))

abbrev access_by : List Location ⊎ (AtomicOperation × (Location × List ℕ)) → Access
access_by (inl at) = reading at
access_by (inr p) = updating p.0 p.1.0 p.1.1

pub same_access : (a : Access) → access_by (asked_parts a) ≡ a
same_access (reading at) = refl
same_access (updating o at operands) = refl

abbrev pub access_code : Coded Access
access_code =
    code_by (List Location ⊎ (AtomicOperation × (Location × List ℕ))) (coded⊎ (coded_list location_code) (coded× operation_code (coded× location_code (coded_list coded_ℕ)))) asked_parts access_by same_access

-- how a run stands, by its number
abbrev status_number : Status → ℕ
status_number run.running = 0
status_number run.ended = 1
status_number run.waiting = 2
status_number run.undefined = 3

abbrev status_of : ℕ → Status
status_of zero = run.running
status_of (suc zero) = run.ended
status_of (suc (suc zero)) = run.waiting
status_of (suc (suc (suc n))) = run.undefined

pub same_status : (s : Status) → status_of (status_number s) ≡ s
same_status run.running = refl
same_status run.ended = refl
same_status run.waiting = refl
same_status run.undefined = refl

abbrev pub status_code : Coded Status
status_code = code_by ℕ coded_ℕ status_number status_of same_status

abbrev pub run_code : Coded Run
run_code = code_by (List Event × Status) (coded× (coded_list event_code) status_code) (λ r. (r.events, r.status)) (λ p. record { events = p.0; status = p.1 }) (λ _. refl)

-- two runs are equal in one way at most
pub same_run : (x y : Run) → IsProp (x ≡ y)
same_run x y = Coded-set run_code x y

-- so are two walks, run by run
pub same_walk : (f g : List (List ℕ) → ℕ → Run) → IsProp ((answers : List (List ℕ)) (n : ℕ) → f answers n ≡ g answers n)
same_walk f g = Π_prop (λ answers. Π_prop (λ n. same_run (f answers n) (g answers n)))

-- Places in memory, and what one invocation does to memory that others see: its events.
use Rattle.std.specs.Prelude.{ℕ, ◌==◌, List, [], ◌∷◌, length, Option, Some, None, if◌then◌else◌}

-- Where a scalar lies: in a buffer by its descriptor set, its binding and the number of its first byte; in the push constants by that number; in the memory of a workgroup by the number of the variable and the indexes that lead to the scalar.
pub data Location : Type 0 where
  buffer : (set binding byte : ℕ) → Location
  push : (byte : ℕ) → Location
  shared : (variable : ℕ) → List ℕ → Location

-- The atomic operations (SPIR-V 1.6, section "Atomic Instructions"; GLSL 4.60, section 8.11): a read, a write, an increment and the like are among these.
pub data AtomicOperation : Type 0 where
  add : AtomicOperation
  signed_min : AtomicOperation
  unsigned_min : AtomicOperation
  signed_max : AtomicOperation
  unsigned_max : AtomicOperation
  bit_and : AtomicOperation
  bit_or : AtomicOperation
  bit_xor : AtomicOperation
  exchange : AtomicOperation
  compare_exchange : AtomicOperation

-- A read has the words that were found, a write those that are put, each in the order of the locations, with 1 and 0 for a truth value. An atomic has its operands, of a comparison the comparator first, and the word that was found. The barriers on memory are those of buffers and of workgroup memory (SPIR-V 1.6, section 3.25, "Memory Semantics": UniformMemory, WorkgroupMemory), and the control barrier is that of a workgroup.
pub data Event : Type 0 where
  read : List Location → List ℕ → Event
  write : List Location → List ℕ → Event
  atomic : AtomicOperation → Location → (operands : List ℕ) → (found : ℕ) → Event
  buffer_barrier : Event
  shared_barrier : Event
  control_barrier : Event

-- An access whose event has words that come from outside: from memory, whatever others did to it.
pub data Access : Type 0 where
  reading : List Location → Access
  updating : AtomicOperation → Location → (operands : List ℕ) → Access

-- the event that the access makes with this answer: as many words as there are locations; there is none with another number of words
abbrev pub update_event : AtomicOperation → Location → List ℕ → List ℕ → Option Event
update_event o at operands (w ∷ []) = Some (atomic o at operands w)
update_event o at operands _ = None

abbrev pub event_of : Access → List ℕ → Option Event
event_of (reading at) words = if length words == length at then Some (read at words) else None
event_of (updating o at operands) words = update_event o at operands words

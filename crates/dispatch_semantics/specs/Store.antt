-- Memory that all invocations of a dispatch share, and how events change it.
use Rattle.std.specs.Prelude.{ℕ, ◌≡◌, ◌==◌, ◌<◌, ◌^◌, ◌&&◌, Bool, true, false, List, [], ◌∷◌, map, unwrap_or, if◌then◌else◌}
use Rattle.op_semantics.specs.declared.operation.Binary.{Binary}
use Rattle.op_semantics.specs.declared.operation.Binary.TheVariants.{IAdd, BitwiseOr, BitwiseXor, BitwiseAnd, UMin, SMin, UMax, SMax}
use Rattle.op_semantics.specs.Word.{binary_word}
use Rattle.traces.specs.Events as event
use Rattle.traces.specs.Events.{Location, buffer, push, shared, AtomicOperation, Event, read, write, atomic}

abbrev pub same_numbers : List ℕ → List ℕ → Bool
same_numbers [] [] = true
same_numbers (a ∷ as') (b ∷ bs) = (a == b) && same_numbers as' bs
same_numbers _ _ = false

abbrev pub same_location : Location → Location → Bool
same_location (buffer s b n) (buffer t c m) = (s == t) && ((b == c) && (n == m))
same_location (push n) (push m) = n == m
same_location (shared k path) (shared l way) = (k == l) && same_numbers path way
same_location _ _ = false

-- a word for each place; a place in the memory of a workgroup stands there once for each workgroup, by the workgroup's number
abbrev pub Store : Type 0
Store = ℕ → Location → ℕ

abbrev pub home : ℕ → Location → ℕ
home group (shared k path) = group
home group _ = 0

-- what an invocation of this workgroup finds at a place
abbrev pub found_at : Store → ℕ → Location → ℕ
found_at store group at = store (home group at) at

abbrev pub put : ℕ → Location → ℕ → Store → Store
put group at w store g x = elim ((home group at == g) && same_location at x) [ true ↦ w | false ↦ store g x ]

abbrev pub put_all : ℕ → List Location → List ℕ → Store → Store
put_all group (at ∷ places) (w ∷ ws) store = put_all group places ws (put group at w store)
put_all group _ _ store = store

-- what an atomic operation leaves where it found a word (SPIR-V 1.6, section "Atomic Instructions")
abbrev pub combined : Binary → ℕ → ℕ → ℕ
combined o a b = unwrap_or (binary_word o a b) 0

abbrev pub updated_by : AtomicOperation → ℕ → ℕ → ℕ
updated_by event.add found w = combined IAdd found w
updated_by event.signed_min found w = combined SMin found w
updated_by event.unsigned_min found w = combined UMin found w
updated_by event.signed_max found w = combined SMax found w
updated_by event.unsigned_max found w = combined UMax found w
updated_by event.bit_and found w = combined BitwiseAnd found w
updated_by event.bit_or found w = combined BitwiseOr found w
updated_by event.bit_xor found w = combined BitwiseXor found w
updated_by event.exchange found w = w
updated_by event.compare_exchange found w = w

abbrev pub updated : AtomicOperation → ℕ → List ℕ → ℕ
updated o found (comparator ∷ w ∷ []) = if found == comparator then w else found
updated o found (w ∷ []) = updated_by o found w
updated o found _ = found

-- the memory behind an event of an invocation of this workgroup
abbrev pub after : ℕ → Event → Store → Store
after group (write places words) store = put_all group places words store
after group (atomic o at operands found) store = put group at (updated o found operands) store
after group _ store = store

-- the event has the words that the memory has
abbrev pub IsFound : Store → ℕ → Event → Type 0
IsFound store group (read places words) = words ≡ map (found_at store group) places
IsFound store group (atomic o at operands found) = found ≡ found_at store group at
IsFound store group _ = Unit {0}

-- the answer that an event took, where it took one
abbrev pub answers_of : Event → List (List ℕ)
answers_of (read places words) = words ∷ []
answers_of (atomic o at operands found) = (found ∷ []) ∷ []
answers_of _ = []

-- answers are lists of words
abbrev pub AreWords : List ℕ → Type 0
AreWords [] = Unit {0}
AreWords (w ∷ ws) = (w < 2 ^ 32) × AreWords ws

abbrev pub AreAnswers : List (List ℕ) → Type 0
AreAnswers [] = Unit {0}
AreAnswers (a ∷ more) = AreWords a × AreAnswers more

-- Small texts: braces, loops, switches, calls, constants, and what is stuck.
use Rattle.std.proofs.Common.{◌≡◌, ℕ, ◌++◌, List, [], ◌∷◌, refl}
use Rattle.std.specs.Prelude.{codes, ◌==◌, true, false, Some, None}
use Rattle.traces.specs.Events as event
use Rattle.traces.specs.Events.{Event, read, write, atomic, buffer, shared}
use Rattle.traces.specs.Preservation.{TextRun, text_made, has_ended, was_cut, is_waiting, is_stuck}
use Rattle.meaning_examples.specs.Runs.{run_of_text}
use Rattle.meaning_examples.proofs.Samples.{text_opened, invocation}

-- a text with a buffer of uints, these items before `main`, and this as its body
abbrev whole : List ℕ → List ℕ → List ℕ
whole items body = codes "#version 460\nlayout(local_size_x = 2, local_size_x_id = 5) in; layout(set = 0, binding = 1, std430) buffer B { layout(offset = 0) uint[] m; } b; " ++ items ++ codes " void main() { " ++ body ++ codes " }"

abbrev body_run : List ℕ → List (List ℕ) → ℕ → TextRun
body_run body answers k = run_of_text (whole [] body) (invocation 1) answers k

abbrev item_run : List ℕ → List ℕ → TextRun
item_run items body = run_of_text (whole items body) (invocation 1) [] 4

abbrev puts : ℕ → ℕ → Event
puts k w = write (buffer 0 1 k ∷ []) (w ∷ [])

-- a variable lives in its braces, and hides another of its name
braces : body_run (codes "uint x = 1u; if (true) { uint x = 2u; b.m[0] = x; } b.m[1u] = x; return;") [] 1 ≡ text_made (puts 0 2 ∷ puts 4 1 ∷ []) has_ended
unfolding text_opened
braces = refl

-- a variable without a value may not be read, but assigned to
no_value : body_run (codes "uint x; b.m[0] = x; return;") [] 1 ≡ text_made [] is_stuck
unfolding text_opened
no_value = refl

value_later : body_run (codes "uint x; x = 3u; b.m[0] = x; return;") [] 1 ≡ text_made (puts 0 3 ∷ []) has_ended
unfolding text_opened
value_later = refl

-- a value of another type may not be assigned
misfit : body_run (codes "b.m[0] = 1; return;") [] 1 ≡ text_made [] is_stuck
unfolding text_opened
misfit = refl

-- operands from left to right, and of `&&` and `||` only what is needed
in_order : body_run (codes "b.m[0] = (b.m[1] - b.m[2]); return;") ((7 ∷ []) ∷ (5 ∷ []) ∷ []) 1 ≡ text_made (read (buffer 0 1 4 ∷ []) (7 ∷ []) ∷ read (buffer 0 1 8 ∷ []) (5 ∷ []) ∷ puts 0 2 ∷ []) has_ended
unfolding text_opened
in_order = refl

as_needed : body_run (codes "if ((false && (b.m[0] == 1u))) { return; } if ((true || (b.m[0] == 1u))) { b.m[3] = 1u; } return;") [] 1 ≡ text_made (puts 12 1 ∷ []) has_ended
unfolding text_opened
as_needed = refl

-- the second read waits
waits : body_run (codes "uint x = (b.m[1] - b.m[2]); return;") ((7 ∷ []) ∷ []) 1 ≡ text_made (read (buffer 0 1 4 ∷ []) (7 ∷ []) ∷ []) is_waiting
unfolding text_opened
waits = refl

-- an index below zero, and one past an array
below : body_run (codes "b.m[0xFFFFFFFF] = 1u; return;") [] 1 ≡ text_made [] is_stuck
unfolding text_opened
below = refl

past : body_run (codes "uint[2] a = uint[2](1u, 2u); b.m[0] = a[1]; b.m[1] = a[2]; return;") [] 1 ≡ text_made (puts 0 2 ∷ []) is_stuck
unfolding text_opened
past = refl

-- `length()` reads nothing: of 32 bytes eight elements
lengths : body_run (codes "b.m[0] = uint(b.m.length()); return;") [] 1 ≡ text_made (puts 0 8 ∷ []) has_ended
unfolding text_opened
lengths = refl

-- a loop of three turns, and cut after two
abbrev counting : List ℕ
counting = codes "uint i = 0u; for (;;) { if ((i == 2u)) { break; } b.m[i] = i; i = (i + 1u); } b.m[7] = i; return;"

counted : body_run counting [] 3 ≡ text_made (puts 0 0 ∷ puts 4 1 ∷ puts 28 2 ∷ []) has_ended
unfolding text_opened
counted = refl

counted_less : body_run counting [] 2 ≡ text_made (puts 0 0 ∷ puts 4 1 ∷ []) was_cut
unfolding text_opened
counted_less = refl

-- a case goes on into the next group; `break` leaves the switch, and `continue` the turn of the loop round it
abbrev choosing : List ℕ
choosing = codes "uint i = 0u; for (;;) { i = (i + 1u); switch (i) { case 1u: { b.m[0] = 1u; } case 2u: { b.m[1] = 2u; break; } case 3u: { continue; } default: { return; } } b.m[2] = i; }"

chosen : body_run choosing [] 9 ≡ text_made (puts 0 1 ∷ puts 4 2 ∷ puts 8 1 ∷ puts 4 2 ∷ puts 8 2 ∷ []) has_ended
unfolding text_opened
chosen = refl

-- an atomic function gives what was found; the type of the place tells which minimum it is
atomics : body_run (codes "uint x = atomicMin(b.m[1], 4u); atomicCompSwap(b.m[x], 1u, 2u); memoryBarrierBuffer(); barrier(); return;") ((2 ∷ []) ∷ (1 ∷ []) ∷ []) 1 ≡
    text_made (atomic event.unsigned_min (buffer 0 1 4) (4 ∷ []) 2 ∷ atomic event.compare_exchange (buffer 0 1 8) (1 ∷ 2 ∷ []) 1 ∷ event.buffer_barrier ∷ event.control_barrier ∷ []) has_ended
unfolding text_opened
atomics = refl

-- `inout` copies in at the call and out at the return; a function with a result has to give one
called : item_run (codes "uint twice(inout uint x) { x = (x + x); return x; }") (codes "uint y = 3u; uint z = twice(y); b.m[0] = y; b.m[1] = z; return;") ≡ text_made (puts 0 6 ∷ puts 4 6 ∷ []) has_ended
unfolding text_opened
called = refl

no_result : item_run (codes "uint none() { }") (codes "b.m[0] = 1u; uint z = none(); return;") ≡ text_made (puts 0 1 ∷ []) is_stuck
unfolding text_opened
no_result = refl

-- a function may call only those before it
later : item_run (codes "void one() { two(); return; } void two() { return; }") (codes "two(); one(); return;") ≡ text_made [] is_stuck
unfolding text_opened
later = refl

-- constants, of which one has no value, and variables of the text
constants : item_run (codes "const uint c = (7u / 2u); const uint d = (7u / 0u); uint p = c;") (codes "p = (p + c); b.m[c] = p; b.m[d] = 1u; return;") ≡ text_made (puts 12 6 ∷ []) is_stuck
unfolding text_opened
constants = refl

stuck_variable : item_run (codes "uint p = (7u % 0u);") (codes "return;") ≡ text_made [] is_stuck
unfolding text_opened
stuck_variable = refl

-- specialization constants: the default, or the word that the invocation is told; also of the size of workgroups and of the length of a shared array
abbrev special : ℕ → TextRun
special w = run_of_text (whole (codes "layout(constant_id = 3) const uint c = 4u; layout(constant_id = 4) const bool t = false; shared uint[c] s;") (codes "s[5] = gl_WorkGroupSize.x; if (t) { s[0] = c; } return;"))
    (record (invocation 1) { specialization = λ id. elim (id == 4) [ true ↦ Some w | false ↦ elim (id == 3) [ true ↦ Some 6 | false ↦ elim (id == 5) [ true ↦ Some 8 | false ↦ None ] ] ] }) [] 1

specialized : special 0 ≡ text_made (write (shared 0 (5 ∷ []) ∷ []) (8 ∷ []) ∷ []) has_ended
unfolding text_opened
specialized = refl

specialized_too : special 9 ≡ text_made (write (shared 0 (5 ∷ []) ∷ []) (8 ∷ []) ∷ write (shared 0 (0 ∷ []) ∷ []) (6 ∷ []) ∷ []) has_ended
unfolding text_opened
specialized_too = refl

unspecialized : item_run (codes "layout(constant_id = 3) const uint c = 4u; shared uint[c] s;") (codes "s[3] = gl_WorkGroupSize.x; s[5] = 1u; return;") ≡ text_made (write (shared 0 (3 ∷ []) ∷ []) (2 ∷ []) ∷ []) is_stuck
unfolding text_opened
unspecialized = refl

-- structs: by std140 an array's elements lie sixteen bytes apart, and a struct's member behind it at the next sixteen
structs : item_run (codes "struct S { uint[2] a; uint c; }; layout(set = 2, binding = 3, std140) uniform U { layout(offset = 0) S s; } u;") (codes "S s = u.s; return;") ≡ text_made [] is_waiting
unfolding text_opened
structs = refl

struct_read : run_of_text (whole (codes "struct S { uint[2] a; uint c; }; layout(set = 2, binding = 3, std140) uniform U { layout(offset = 16) S s; } u;") (codes "S s = u.s; b.m[0] = s.a[1]; b.m[1] = s.c; return;")) (invocation 1) ((1 ∷ 2 ∷ 3 ∷ []) ∷ []) 1
    ≡ text_made (read (buffer 2 3 16 ∷ buffer 2 3 32 ∷ buffer 2 3 48 ∷ []) (1 ∷ 2 ∷ 3 ∷ []) ∷ puts 0 2 ∷ puts 4 3 ∷ []) has_ended
unfolding text_opened
struct_read = refl

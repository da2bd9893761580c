-- Instructions in a row: what they write, and where they have no meaning.
use Rattle.std.proofs.Common.{◌≡◌, ℕ, ◌++◌, List, [], ◌∷◌, refl}
use Rattle.std.specs.Prelude.{Option, Some, None, map}
use Rattle.spv_ops.specs.declared.Op.{Op}
use Rattle.spv_ops.specs.declared.Op.TheVariants as op
use Rattle.spv_module.specs.declared.inst.Inst.{Inst}
use Rattle.traces.specs.Events as event
use Rattle.traces.specs.Events.{read, write, atomic, buffer, shared}
use Rattle.traces.specs.Runs.{Run, made as run_made, ended, undefined}
use Rattle.module_semantics.proofs.Samples.{opened, made, block, kernel, run, minus}

-- constants: %20 7, %21 -7, %22 2, %23 -2, %24 the smallest number, %25 -1, %26 30, %27 4, %28 true
abbrev numbers : List Inst
numbers =
    made op.Constant 8 20 (7 ∷ []) ∷ made op.Constant 8 21 (minus 7 ∷ []) ∷ made op.Constant 8 22 (2 ∷ []) ∷ made op.Constant 8 23 (minus 2 ∷ []) ∷
    made op.Constant 8 24 (2147483648 ∷ []) ∷ made op.Constant 8 25 (minus 1 ∷ []) ∷ made op.Constant 8 26 (30 ∷ []) ∷ made op.Constant 8 27 (4 ∷ []) ∷ made op.ConstantTrue 16 28 [] ∷ []

-- these instructions, and then %91 is written to the first element of the buffer
abbrev storing : List Inst → List (List ℕ) → Run
storing insts answers = run (kernel numbers (block 40 (made op.AccessChain 13 90 (5 ∷ 14 ∷ 14 ∷ []) ∷ (insts ++ (made op.Store 0 0 (90 ∷ 91 ∷ []) ∷ made op.Return 0 0 [] ∷ []))) ∷ [])) answers 20

-- the run that writes this word there, or has no meaning
abbrev written : Option ℕ → Run
written (Some w) = run_made (write (buffer 1 6 0 ∷ []) (w ∷ []) ∷ []) ended
written None = run_made [] undefined

abbrev of_two : Op → ℕ → ℕ → Run
of_two o a b = storing (made o 8 91 (a ∷ b ∷ []) ∷ []) []

abbrev of_three : Op → ℕ → ℕ → ℕ → Run
of_three o a b c = storing (made o 8 91 (a ∷ b ∷ c ∷ []) ∷ []) []

divisions :
    of_two op.SDiv 21 22 ∷ of_two op.SRem 21 22 ∷ of_two op.SMod 21 22 ∷ of_two op.SMod 20 23 ∷ of_two op.SDiv 24 25 ∷ of_two op.SRem 24 25 ∷ of_two op.SMod 24 25 ∷ of_two op.UDiv 20 14 ∷ of_two op.UMod 20 14 ∷ of_two op.SDiv 20 14 ∷ []
    ≡ map written (Some (minus 3) ∷ Some (minus 1) ∷ Some 1 ∷ Some (minus 1) ∷ None ∷ None ∷ None ∷ None ∷ None ∷ None ∷ [])
unfolding opened
divisions = refl

shifts :
    of_two op.ShiftLeftLogical 20 26 ∷ of_two op.ShiftLeftLogical 20 25 ∷ of_two op.ShiftRightArithmetic 21 15 ∷ of_two op.ShiftRightLogical 21 26 ∷ []
    ≡ map written (Some 3221225472 ∷ Some 2147483648 ∷ Some (minus 4) ∷ Some 3 ∷ [])
unfolding opened
shifts = refl

-- bit fields of 2 and of 4 bits behind 30 bits
bit_fields :
    of_three op.BitFieldUExtract 21 26 22 ∷ of_three op.BitFieldSExtract 21 26 22 ∷ of_three op.BitFieldUExtract 21 26 27 ∷ of_three op.BitFieldUExtract 21 14 14 ∷ []
    ≡ map written (Some 3 ∷ Some (minus 1) ∷ None ∷ Some 0 ∷ [])
unfolding opened
bit_fields = refl

chosen : of_three op.Select 28 20 21 ≡ written (Some 7)
unfolding opened
chosen = refl

-- OpExtInst: UMin; OpUnreachable; an id that nothing has set
others :
    storing (made op.ExtInst 8 91 (1 ∷ 38 ∷ 20 ∷ 21 ∷ []) ∷ []) [] ∷ storing (made op.Unreachable 0 0 [] ∷ []) [] ∷ storing [] [] ∷ []
    ≡ map written (Some 7 ∷ None ∷ None ∷ [])
unfolding opened
others = refl

-- OpArrayLength: of 22 bytes five whole elements
lengths : storing (made op.ArrayLength 8 91 (5 ∷ 0 ∷ []) ∷ []) [] ≡ written (Some 5)
unfolding opened
lengths = refl

-- An index into the vector of the Input variable: the first two components, one past it, and one with its top bit set. A runtime array takes any index but that.
abbrev component : ℕ → Run
component index = storing (made op.AccessChain 11 92 (2 ∷ index ∷ []) ∷ made op.Load 8 91 (92 ∷ []) ∷ []) []

components : component 14 ∷ component 15 ∷ component 27 ∷ component 24 ∷ [] ≡ map written (Some 3 ∷ Some 0 ∷ None ∷ None ∷ [])
unfolding opened
components = refl

abbrev element : ℕ → Run
element index = storing (made op.AccessChain 13 92 (5 ∷ 14 ∷ index ∷ []) ∷ made op.Load 8 91 (92 ∷ []) ∷ []) ((9 ∷ []) ∷ [])

elements :
    element 26 ∷ element 24 ∷ []
    ≡ run_made (read (buffer 1 6 120 ∷ []) (9 ∷ []) ∷ write (buffer 1 6 0 ∷ []) (9 ∷ []) ∷ []) ended ∷ run_made [] undefined ∷ []
unfolding opened
elements = refl

-- A Function variable begins with zero or with its initializer, and keeps what is stored.
variables :
    storing (made op.Variable 18 93 (7 ∷ []) ∷ made op.Load 8 91 (93 ∷ []) ∷ []) [] ∷
    storing (made op.Variable 18 93 (7 ∷ 20 ∷ []) ∷ made op.Load 8 91 (93 ∷ []) ∷ []) [] ∷
    storing (made op.Variable 18 93 (7 ∷ 20 ∷ []) ∷ made op.Store 0 0 (93 ∷ 22 ∷ []) ∷ made op.Load 8 91 (93 ∷ []) ∷ []) [] ∷ []
    ≡ map written (Some 0 ∷ Some 7 ∷ Some 2 ∷ [])
unfolding opened
variables = refl

-- Atomic instructions on the first element: the operands of the event, and what was found is the result.
abbrev updating : Op → List ℕ → Run
updating o args = storing (made o 8 91 (90 ∷ 15 ∷ 14 ∷ args) ∷ []) ((100 ∷ []) ∷ [])

abbrev updated : event.AtomicOperation → List ℕ → Run
updated o operands = run_made (atomic o (buffer 1 6 0) operands 100 ∷ write (buffer 1 6 0 ∷ []) (100 ∷ []) ∷ []) ended

atomics :
    updating op.AtomicLoad [] ∷ updating op.AtomicExchange (20 ∷ []) ∷ updating op.AtomicCompareExchange (14 ∷ 20 ∷ 22 ∷ []) ∷ updating op.AtomicIIncrement [] ∷
    updating op.AtomicIDecrement [] ∷ updating op.AtomicIAdd (20 ∷ []) ∷ updating op.AtomicISub (20 ∷ []) ∷ updating op.AtomicSMin (21 ∷ []) ∷ updating op.AtomicUMin (21 ∷ []) ∷
    updating op.AtomicSMax (21 ∷ []) ∷ updating op.AtomicUMax (21 ∷ []) ∷ updating op.AtomicAnd (20 ∷ []) ∷ updating op.AtomicOr (20 ∷ []) ∷ updating op.AtomicXor (20 ∷ []) ∷ []
    ≡ updated event.add (0 ∷ []) ∷ updated event.exchange (7 ∷ []) ∷ updated event.compare_exchange (2 ∷ 7 ∷ []) ∷ updated event.add (1 ∷ []) ∷
    updated event.add (minus 1 ∷ []) ∷ updated event.add (7 ∷ []) ∷ updated event.add (minus 7 ∷ []) ∷ updated event.signed_min (minus 7 ∷ []) ∷ updated event.unsigned_min (minus 7 ∷ []) ∷
    updated event.signed_max (minus 7 ∷ []) ∷ updated event.unsigned_max (minus 7 ∷ []) ∷ updated event.bit_and (7 ∷ []) ∷ updated event.bit_or (7 ∷ []) ∷ updated event.bit_xor (7 ∷ []) ∷ []
unfolding opened
atomics = refl

-- an atomic store has no result
atomic_store :
    run (kernel numbers (block 40 (made op.AccessChain 13 90 (5 ∷ 14 ∷ 14 ∷ []) ∷ made op.AtomicStore 0 0 (90 ∷ 15 ∷ 14 ∷ 20 ∷ []) ∷ made op.Return 0 0 [] ∷ []) ∷ [])) ((100 ∷ []) ∷ []) 9
    ≡ run_made (atomic event.exchange (buffer 1 6 0) (7 ∷ []) 100 ∷ []) ended
unfolding opened
atomic_store = refl

-- Barriers: %30 has the semantics UniformMemory and WorkgroupMemory with AcquireRelease, %31 WorkgroupMemory alone, %14 none.
abbrev semantics : List Inst
semantics = made op.Constant 8 30 (0x148 ∷ []) ∷ made op.Constant 8 31 (0x108 ∷ []) ∷ []

abbrev barriers : List Inst → Run
barriers insts = run (kernel semantics (block 40 (insts ++ made op.Return 0 0 [] ∷ []) ∷ [])) [] 9

barrier_events :
    barriers (made op.MemoryBarrier 0 0 (15 ∷ 30 ∷ []) ∷ []) ∷ barriers (made op.ControlBarrier 0 0 (15 ∷ 15 ∷ 31 ∷ []) ∷ []) ∷ barriers (made op.ControlBarrier 0 0 (15 ∷ 15 ∷ 14 ∷ []) ∷ []) ∷ []
    ≡ run_made (event.buffer_barrier ∷ event.shared_barrier ∷ []) ended ∷ run_made (event.shared_barrier ∷ event.control_barrier ∷ []) ended ∷ run_made (event.control_barrier ∷ []) ended ∷ []
unfolding opened
barrier_events = refl

-- Workgroup variables: %33 is mentioned by nothing, so %34 is number 0, and %35, an array of two uints, number 1. A whole array is read at once.
abbrev shared_globals : List Inst
shared_globals =
    made op.TypePointer 0 32 (4 ∷ 8 ∷ []) ∷ made op.Variable 32 33 (4 ∷ []) ∷ made op.Variable 32 34 (4 ∷ []) ∷ made op.Constant 8 36 (2 ∷ []) ∷ made op.TypeArray 0 37 (8 ∷ 36 ∷ []) ∷
    made op.TypePointer 0 38 (4 ∷ 37 ∷ []) ∷ made op.Variable 38 35 (4 ∷ []) ∷ []

workgroup :
    run (kernel shared_globals (block 40 (made op.Store 0 0 (34 ∷ 36 ∷ []) ∷ made op.Load 37 91 (35 ∷ []) ∷ made op.CompositeExtract 8 92 (91 ∷ 1 ∷ []) ∷ made op.AccessChain 32 93 (35 ∷ 15 ∷ []) ∷ made op.Store 0 0 (93 ∷ 92 ∷ []) ∷ made op.Return 0 0 [] ∷ []) ∷ [])) ((5 ∷ 6 ∷ []) ∷ []) 9
    ≡ run_made (write (shared 0 [] ∷ []) (2 ∷ []) ∷ read (shared 1 (0 ∷ []) ∷ shared 1 (1 ∷ []) ∷ []) (5 ∷ 6 ∷ []) ∷ write (shared 1 (1 ∷ []) ∷ []) (6 ∷ []) ∷ []) ended
unfolding opened
workgroup = refl

-- A constant without a value: %42 is 7 divided by 0. It is undefined to read it, and a Private variable that begins with it has no value: the run has no meaning from its start where something mentions the variable.
abbrev no_value : List Inst
no_value = made op.SpecConstantOp 8 42 (134 ∷ 15 ∷ 14 ∷ []) ∷ made op.TypePointer 0 43 (6 ∷ 8 ∷ []) ∷ made op.Variable 43 44 (6 ∷ 42 ∷ []) ∷ made op.Variable 43 45 (6 ∷ 15 ∷ []) ∷ []

abbrev private_run : List Inst → ℕ → Run
private_run insts n = run (kernel no_value (block 40 insts ∷ [])) [] n

without_value :
    private_run (made op.CopyObject 8 91 (42 ∷ []) ∷ made op.Return 0 0 [] ∷ []) 9 ∷ private_run (made op.Load 8 91 (44 ∷ []) ∷ made op.Return 0 0 [] ∷ []) 0 ∷ private_run (made op.Load 8 91 (45 ∷ []) ∷ made op.Return 0 0 [] ∷ []) 9 ∷ []
    ≡ run_made [] undefined ∷ run_made [] undefined ∷ run_made [] ended ∷ []
unfolding opened
without_value = refl

-- Small kernels and their texts: conditionals, loops, switches with and without falls, phis, shifts, and the order of memory accesses.
use Rattle.std.proofs.Common.{◌≡◌, ℕ, ◌-◌, ◌*◌, ◌^◌, ◌++◌, List, [], ◌∷◌, refl}
use Rattle.std.specs.Prelude.{codes}
use Rattle.spv_ops.specs.declared.Op.TheVariants as op
use Rattle.spv_module.specs.State.{ModuleState}
use Rattle.spv_module.specs.declared.inst.Inst.{Inst}
use Rattle.spv_module.specs.declared.inst.Block.{Block}
use Rattle.traces.specs.Events.{Event, read, write, buffer}
use Rattle.traces.specs.Runs.{Run, made as run_made, running, ended}
use Rattle.traces.specs.Preservation.{TextRun, text_made, has_ended, was_cut}
use Rattle.module_semantics.specs.Run.{module_run}
use Rattle.meaning_examples.specs.Runs.{run_of_text}
use Rattle.meaning_examples.proofs.Samples.{module_opened, text_opened, made, placed, id, block, invocation}

-- %2 GlobalInvocationId, %5 the buffer of uints, %14 and %15 the constants 0 and 1, %22 bool, %23 true, %24 the constant 4, %26 the int 1, %27 a Function pointer to uint
abbrev heads : List Inst
heads =
    made op.Decorate 0 0 (2 ∷ 11 ∷ 28 ∷ []) ∷ made op.Decorate 0 0 (3 ∷ 2 ∷ []) ∷ made op.MemberDecorate 0 0 (3 ∷ 0 ∷ 35 ∷ 0 ∷ []) ∷
    made op.Decorate 0 0 (4 ∷ 6 ∷ 4 ∷ []) ∷ made op.Decorate 0 0 (5 ∷ 34 ∷ 0 ∷ []) ∷ made op.Decorate 0 0 (5 ∷ 33 ∷ 0 ∷ []) ∷ []

abbrev globals : List Inst
globals = placed 1 (
    made op.TypeVoid 0 6 [] ∷ made op.TypeFunction 0 7 (6 ∷ []) ∷ made op.TypeInt 0 8 (32 ∷ 0 ∷ []) ∷ made op.TypeVector 0 9 (8 ∷ 3 ∷ []) ∷ made op.TypePointer 0 10 (1 ∷ 9 ∷ []) ∷ made op.Variable 10 2 (1 ∷ []) ∷
    made op.TypePointer 0 11 (1 ∷ 8 ∷ []) ∷ made op.TypeRuntimeArray 0 4 (8 ∷ []) ∷ made op.TypeStruct 0 3 (4 ∷ []) ∷ made op.TypePointer 0 12 (12 ∷ 3 ∷ []) ∷ made op.Variable 12 5 (12 ∷ []) ∷ made op.TypePointer 0 13 (12 ∷ 8 ∷ []) ∷
    made op.Constant 8 14 (0 ∷ []) ∷ made op.Constant 8 15 (1 ∷ []) ∷ made op.TypeBool 0 22 [] ∷ made op.ConstantTrue 22 23 [] ∷ made op.Constant 8 24 (4 ∷ []) ∷
    made op.TypeInt 0 25 (32 ∷ 1 ∷ []) ∷ made op.Constant 25 26 (1 ∷ []) ∷ made op.TypePointer 0 27 (7 ∷ 8 ∷ []) ∷ [])

abbrev kernel : List Block → ModuleState
kernel blocks = record { bound = 99; heads = heads; globals = globals; functions = record { id = id 1; ty = id 7; result = id 6; at = 0; params = []; blocks = blocks } ∷ [] }

abbrev module_of : List Block → List (List ℕ) → ℕ → Run
module_of blocks answers n = module_run (kernel blocks) 1 [] (invocation 33) answers n

abbrev text_of : List ℕ → List (List ℕ) → ℕ → TextRun
text_of body answers k = run_of_text (codes "#version 460\nlayout(local_size_x = 64, local_size_y = 1, local_size_z = 1) in;\nlayout(set = 0, binding = 0, std430) buffer v3 {\n    layout(offset = 0) uint[] m0;\n} v5;\nvoid main() {\n" ++ body ++ codes "}\n") (invocation 33) answers k

abbrev gets : ℕ → ℕ → Event
gets n w = read (buffer 0 0 (n * 4) ∷ []) (w ∷ [])

abbrev puts : ℕ → ℕ → Event
puts n w = write (buffer 0 0 (n * 4) ∷ []) (w ∷ [])

abbrev return : Inst
return = made op.Return 0 0 []

-- a conditional and a phi
abbrev conditional : List Block
conditional =
    block 16 (made op.SelectionMerge 0 0 (30 ∷ 0 ∷ []) ∷ made op.BranchConditional 0 0 (23 ∷ 24 ∷ 30 ∷ []) ∷ []) ∷
    block 24 (made op.Branch 0 0 (30 ∷ []) ∷ []) ∷
    block 30 (made op.Phi 8 31 (14 ∷ 16 ∷ 15 ∷ 24 ∷ []) ∷ made op.AccessChain 13 32 (5 ∷ 14 ∷ 14 ∷ []) ∷ made op.Store 0 0 (32 ∷ 31 ∷ []) ∷ return ∷ []) ∷ []

abbrev conditional_text : List ℕ
conditional_text = codes "    uint v31;\n    if (true) {\n        v31 = 1u;\n    } else {\n        v31 = 0u;\n    }\n    v5.m0[0u] = v31;\n    return;\n"

conditional_module : module_of conditional [] 9 ≡ run_made (puts 0 1 ∷ []) ended
unfolding module_opened
conditional_module = refl

conditional_same : text_of conditional_text [] 1 ≡ text_made (puts 0 1 ∷ []) has_ended
unfolding text_opened
conditional_same = refl

-- a `for` loop with a variable
abbrev counting : List Block
counting =
    block 16 (made op.Variable 27 30 (7 ∷ []) ∷ made op.Store 0 0 (30 ∷ 14 ∷ []) ∷ made op.Branch 0 0 (31 ∷ []) ∷ []) ∷
    block 31 (made op.LoopMerge 0 0 (35 ∷ 34 ∷ 0 ∷ []) ∷ made op.Branch 0 0 (32 ∷ []) ∷ []) ∷
    block 32 (made op.Load 8 40 (30 ∷ []) ∷ made op.ULessThan 22 41 (40 ∷ 24 ∷ []) ∷ made op.BranchConditional 0 0 (41 ∷ 33 ∷ 35 ∷ []) ∷ []) ∷
    block 33 (made op.Load 8 42 (30 ∷ []) ∷ made op.Load 8 43 (30 ∷ []) ∷ made op.AccessChain 13 44 (5 ∷ 14 ∷ 42 ∷ []) ∷ made op.Store 0 0 (44 ∷ 43 ∷ []) ∷ made op.Branch 0 0 (34 ∷ []) ∷ []) ∷
    block 34 (made op.Load 8 45 (30 ∷ []) ∷ made op.IAdd 8 46 (45 ∷ 26 ∷ []) ∷ made op.Store 0 0 (30 ∷ 46 ∷ []) ∷ made op.Branch 0 0 (31 ∷ []) ∷ []) ∷
    block 35 (return ∷ []) ∷ []

abbrev counting_text : List ℕ
counting_text = codes "    uint i = 0u;\n    i = 0u;\n    bool again = false;\n    for (;;) {\n        if (again) {\n            uint v45 = i;\n            i = (v45 + 1u);\n        }\n        again = true;\n        uint v40 = i;\n        if ((v40 < 4u)) {\n            uint v42 = i;\n            uint v43 = i;\n            v5.m0[v42] = v43;\n            continue;\n        } else {\n            break;\n        }\n    }\n    return;\n"

counting_module : module_of counting [] 70 ≡ run_made (puts 0 0 ∷ puts 1 1 ∷ puts 2 2 ∷ puts 3 3 ∷ []) ended
unfolding module_opened
counting_module = refl

counting_same : text_of counting_text [] 5 ≡ text_made (puts 0 0 ∷ puts 1 1 ∷ puts 2 2 ∷ puts 3 3 ∷ []) has_ended
unfolding text_opened
counting_same = refl

-- a loop that is its own continue target, with a phi
abbrev alone : List Block
alone =
    block 16 (made op.Branch 0 0 (31 ∷ []) ∷ []) ∷
    block 31 (made op.Phi 8 41 (14 ∷ 16 ∷ 43 ∷ 31 ∷ []) ∷ made op.IAdd 8 43 (41 ∷ 15 ∷ []) ∷ made op.ULessThan 22 44 (43 ∷ 24 ∷ []) ∷ made op.LoopMerge 0 0 (35 ∷ 31 ∷ 0 ∷ []) ∷ made op.BranchConditional 0 0 (44 ∷ 31 ∷ 35 ∷ []) ∷ []) ∷
    block 35 (return ∷ []) ∷ []

abbrev alone_text : List ℕ
alone_text = codes "    uint v41;\n    v41 = 0u;\n    for (;;) {\n        uint v43 = (v41 + 1u);\n        if ((v43 < 4u)) {\n            v41 = v43;\n            continue;\n        } else {\n            break;\n        }\n    }\n    return;\n"

-- one step for the first block, four for each of four turns, one for the return
alone_module : module_of alone [] 18 ≡ run_made [] ended
unfolding module_opened
alone_module = refl

alone_runs : module_of alone [] 17 ≡ run_made [] running
unfolding module_opened
alone_runs = refl

alone_same : text_of alone_text [] 4 ≡ text_made [] has_ended
unfolding text_opened
alone_same = refl

alone_cut : text_of alone_text [] 3 ≡ text_made [] was_cut
unfolding text_opened
alone_cut = refl

-- a switch in a loop: a fall, a break of the switch, a continue, a break of the loop
abbrev choosing : List Block
choosing =
    block 16 (made op.Branch 0 0 (31 ∷ []) ∷ []) ∷
    block 31 (made op.LoopMerge 0 0 (35 ∷ 34 ∷ 0 ∷ []) ∷ made op.Branch 0 0 (32 ∷ []) ∷ []) ∷
    block 32 (made op.AccessChain 13 50 (5 ∷ 14 ∷ 14 ∷ []) ∷ made op.Load 8 40 (50 ∷ []) ∷ made op.SelectionMerge 0 0 (37 ∷ 0 ∷ []) ∷ made op.Switch 0 0 (40 ∷ 37 ∷ 1 ∷ 51 ∷ 2 ∷ 52 ∷ 3 ∷ 35 ∷ 5 ∷ 34 ∷ []) ∷ []) ∷
    block 51 (made op.Store 0 0 (50 ∷ 15 ∷ []) ∷ made op.Branch 0 0 (52 ∷ []) ∷ []) ∷
    block 52 (made op.AccessChain 13 54 (5 ∷ 14 ∷ 15 ∷ []) ∷ made op.Store 0 0 (54 ∷ 15 ∷ []) ∷ made op.Branch 0 0 (37 ∷ []) ∷ []) ∷
    block 37 (made op.Branch 0 0 (34 ∷ []) ∷ []) ∷
    block 34 (made op.Branch 0 0 (31 ∷ []) ∷ []) ∷
    block 35 (return ∷ []) ∷ []

abbrev choosing_text : List ℕ
choosing_text = codes "    bool again = false;\n    bool leave = false;\n    for (;;) {\n        if (again) {\n        }\n        again = true;\n        uint v40 = v5.m0[0u];\n        switch (v40) {\n            case 1u: {\n                v5.m0[0u] = 1u;\n            }\n            case 2u: {\n                v5.m0[1u] = 1u;\n                break;\n            }\n            default: {\n                break;\n            }\n            case 5u: {\n                continue;\n            }\n            case 3u: {\n                leave = true;\n                break;\n            }\n        }\n        if (leave) {\n            break;\n        }\n        continue;\n    }\n    return;\n"

abbrev choices : List (List ℕ)
choices = (1 ∷ []) ∷ (2 ∷ []) ∷ (5 ∷ []) ∷ (7 ∷ []) ∷ (3 ∷ []) ∷ []

abbrev choosing_events : List Event
choosing_events = gets 0 1 ∷ puts 0 1 ∷ puts 1 1 ∷ gets 0 2 ∷ puts 1 1 ∷ gets 0 5 ∷ gets 0 7 ∷ gets 0 3 ∷ []

choosing_module : module_of choosing choices 60 ≡ run_made choosing_events ended
unfolding module_opened
choosing_module = refl

choosing_same : text_of choosing_text choices 5 ≡ text_made choosing_events has_ended
unfolding text_opened
choosing_same = refl

-- a phi in a case target that is fallen into
abbrev falling : List Block
falling =
    block 16 (made op.AccessChain 13 50 (5 ∷ 14 ∷ 14 ∷ []) ∷ made op.Load 8 40 (50 ∷ []) ∷ made op.SelectionMerge 0 0 (37 ∷ 0 ∷ []) ∷ made op.Switch 0 0 (40 ∷ 37 ∷ 1 ∷ 51 ∷ 2 ∷ 52 ∷ []) ∷ []) ∷
    block 51 (made op.Branch 0 0 (52 ∷ []) ∷ []) ∷
    block 52 (made op.Phi 8 55 (14 ∷ 16 ∷ 15 ∷ 51 ∷ []) ∷ made op.Store 0 0 (50 ∷ 55 ∷ []) ∷ made op.Branch 0 0 (37 ∷ []) ∷ []) ∷
    block 37 (return ∷ []) ∷ []

abbrev falling_text : List ℕ
falling_text = codes "    uint v55;\n    uint v40 = v5.m0[0u];\n    bool fell = false;\n    switch (v40) {\n        case 1u: {\n            v55 = 1u;\n            fell = true;\n        }\n        case 2u: {\n            if ((!fell)) {\n                v55 = 0u;\n            }\n            v5.m0[0u] = v55;\n            break;\n        }\n        default: {\n            break;\n        }\n    }\n    return;\n"

falling_module :
    module_of falling ((1 ∷ []) ∷ []) 20 ∷ module_of falling ((2 ∷ []) ∷ []) 20 ∷ module_of falling ((7 ∷ []) ∷ []) 20 ∷ []
    ≡ run_made (gets 0 1 ∷ puts 0 1 ∷ []) ended ∷ run_made (gets 0 2 ∷ puts 0 0 ∷ []) ended ∷ run_made (gets 0 7 ∷ []) ended ∷ []
unfolding module_opened
falling_module = refl

falling_same :
    text_of falling_text ((1 ∷ []) ∷ []) 1 ∷ text_of falling_text ((2 ∷ []) ∷ []) 1 ∷ text_of falling_text ((7 ∷ []) ∷ []) 1 ∷ []
    ≡ text_made (gets 0 1 ∷ puts 0 1 ∷ []) has_ended ∷ text_made (gets 0 2 ∷ puts 0 0 ∷ []) has_ended ∷ text_made (gets 0 7 ∷ []) has_ended ∷ []
unfolding text_opened
falling_same = refl

-- a shift by 33, which is one by 1
abbrev shifting : List Block
shifting =
    block 16 (
    made op.AccessChain 11 17 (2 ∷ 14 ∷ []) ∷ made op.Load 8 18 (17 ∷ []) ∷ made op.AccessChain 13 19 (5 ∷ 14 ∷ 18 ∷ []) ∷ made op.Load 8 20 (19 ∷ []) ∷
    made op.ShiftLeftLogical 8 21 (20 ∷ 18 ∷ []) ∷ made op.Store 0 0 (19 ∷ 21 ∷ []) ∷ return ∷ []) ∷ []

abbrev shifting_text : List ℕ
shifting_text = codes "    uint v18 = gl_GlobalInvocationID.x;\n    uint v20 = v5.m0[v18];\n    v5.m0[v18] = (v20 << (v18 & 31u));\n    return;\n"

shifting_module : module_of shifting ((5 ∷ []) ∷ []) 9 ≡ run_made (gets 33 5 ∷ puts 33 10 ∷ []) ended
unfolding module_opened
shifting_module = refl

shifting_same : text_of shifting_text ((5 ∷ []) ∷ []) 1 ≡ text_made (gets 33 5 ∷ puts 33 10 ∷ []) has_ended
unfolding text_opened
shifting_same = refl

-- a value that is read stays what it was when another is written
abbrev ordered : List Block
ordered =
    block 16 (
    made op.AccessChain 11 17 (2 ∷ 14 ∷ []) ∷ made op.Load 8 18 (17 ∷ []) ∷ made op.AccessChain 13 19 (5 ∷ 14 ∷ 18 ∷ []) ∷ made op.Load 8 20 (19 ∷ []) ∷
    made op.Store 0 0 (19 ∷ 15 ∷ []) ∷ made op.AccessChain 13 21 (5 ∷ 14 ∷ 14 ∷ []) ∷ made op.Store 0 0 (21 ∷ 20 ∷ []) ∷ return ∷ []) ∷ []

abbrev ordered_text : List ℕ
ordered_text = codes "    uint v18 = gl_GlobalInvocationID.x;\n    uint v20 = v5.m0[v18];\n    v5.m0[v18] = 1u;\n    v5.m0[0u] = v20;\n    return;\n"

ordered_module : module_of ordered ((5 ∷ []) ∷ []) 9 ≡ run_made (gets 33 5 ∷ puts 33 1 ∷ puts 0 5 ∷ []) ended
unfolding module_opened
ordered_module = refl

ordered_same : text_of ordered_text ((5 ∷ []) ∷ []) 1 ≡ text_made (gets 33 5 ∷ puts 33 1 ∷ puts 0 5 ∷ []) has_ended
unfolding text_opened
ordered_same = refl

-- a division with signs, by magnitudes: -7 by 2 is -3, and 7 by 2 is 3
abbrev dividing_text : List ℕ
dividing_text = codes "    int v40 = int(v5.m0[0u]);\n    v5.m0[1u] = uint(int((((v40 < 0) != (2 < 0)) ? (0u - (((v40 < 0) ? (0u - uint(v40)) : uint(v40)) / ((2 < 0) ? (0u - 2u) : 2u))) : (((v40 < 0) ? (0u - uint(v40)) : uint(v40)) / ((2 < 0) ? (0u - 2u) : 2u)))));\n    return;\n"

dividing_same :
    text_of dividing_text (((2 ^ 32 - 7) ∷ []) ∷ []) 1 ∷ text_of dividing_text ((7 ∷ []) ∷ []) 1 ∷ []
    ≡ text_made (gets 0 (2 ^ 32 - 7) ∷ puts 1 (2 ^ 32 - 3) ∷ []) has_ended ∷ text_made (gets 0 7 ∷ puts 1 3 ∷ []) has_ended ∷ []
unfolding text_opened
dividing_same = refl

-- A module in which each invocation writes the sum of what those up to it have, through workgroup memory, with a loop, a barrier, a call and a copy of a struct; and its text. Both run for each of its four invocations.
use Rattle.std.proofs.Common.{◌≡◌, ℕ, ◌+◌, ◌*◌, List, [], ◌∷◌, ◌++◌, map, take, refl}
use Rattle.std.specs.Prelude.{codes, Option, slice_index, sum_by}
use Rattle.spv_ops.specs.declared.Op.TheVariants as op
use Rattle.spv_module.specs.State.{ModuleState}
use Rattle.spv_module.specs.declared.inst.Inst.{Inst}
use Rattle.spv_module.specs.declared.inst.Function.{Function}
use Rattle.traces.specs.Events.{Event, read, write, shared_barrier, control_barrier, buffer, shared}
use Rattle.traces.specs.Runs.{made as run_made, ended}
use Rattle.traces.specs.Preservation.{TextRun, text_made, has_ended, was_cut}
use Rattle.glsl_ast.specs.Tree.{TranslationUnit}
use Rattle.glsl_grammar.specs.Reading.{glsl_read}
use Rattle.module_semantics.specs.Run.{module_run}
use Rattle.meaning_examples.specs.Runs.{run_of_tree, run_of_text}
use Rattle.meaning_examples.proofs.Samples.{module_opened, text_opened, made, placed, id, block, invocation}

-- %2 LocalInvocationIndex, %3 the struct `Item`, %4 a runtime array of it, %9 its block, %5 the buffer, %19 the shared array, %21 the struct without a layout
abbrev heads : List Inst
heads =
    made op.Decorate 0 0 (2 ∷ 11 ∷ 29 ∷ []) ∷ made op.MemberDecorate 0 0 (3 ∷ 0 ∷ 35 ∷ 0 ∷ []) ∷ made op.MemberDecorate 0 0 (3 ∷ 1 ∷ 35 ∷ 4 ∷ []) ∷ made op.MemberDecorate 0 0 (9 ∷ 0 ∷ 35 ∷ 0 ∷ []) ∷
    made op.Decorate 0 0 (4 ∷ 6 ∷ 8 ∷ []) ∷ made op.Decorate 0 0 (9 ∷ 2 ∷ []) ∷ made op.Decorate 0 0 (5 ∷ 34 ∷ 0 ∷ []) ∷ made op.Decorate 0 0 (5 ∷ 33 ∷ 0 ∷ []) ∷ []

abbrev globals : List Inst
globals = placed 1 (
    made op.TypeVoid 0 6 [] ∷ made op.TypeFunction 0 7 (6 ∷ []) ∷ made op.TypeInt 0 8 (32 ∷ 0 ∷ []) ∷ made op.TypeInt 0 28 (32 ∷ 1 ∷ []) ∷ made op.TypeBool 0 25 [] ∷
    made op.TypePointer 0 10 (1 ∷ 8 ∷ []) ∷ made op.Variable 10 2 (1 ∷ []) ∷ made op.TypeStruct 0 3 (8 ∷ 8 ∷ []) ∷ made op.TypeRuntimeArray 0 4 (3 ∷ []) ∷ made op.TypeStruct 0 9 (4 ∷ []) ∷
    made op.TypePointer 0 11 (12 ∷ 9 ∷ []) ∷ made op.Variable 11 5 (12 ∷ []) ∷ made op.TypePointer 0 12 (12 ∷ 3 ∷ []) ∷ made op.TypePointer 0 13 (12 ∷ 8 ∷ []) ∷
    made op.Constant 8 14 (0 ∷ []) ∷ made op.Constant 8 16 (4 ∷ []) ∷ made op.Constant 8 26 (2 ∷ []) ∷ made op.Constant 8 27 (264 ∷ []) ∷ made op.Constant 28 29 (0 ∷ []) ∷ made op.Constant 28 30 (1 ∷ []) ∷
    made op.TypeArray 0 17 (8 ∷ 16 ∷ []) ∷ made op.TypePointer 0 18 (4 ∷ 17 ∷ []) ∷ made op.Variable 18 19 (4 ∷ []) ∷ made op.TypePointer 0 20 (4 ∷ 8 ∷ []) ∷
    made op.TypeStruct 0 21 (8 ∷ 8 ∷ []) ∷ made op.TypePointer 0 22 (7 ∷ 21 ∷ []) ∷ made op.TypePointer 0 23 (7 ∷ 8 ∷ []) ∷ made op.TypeFunction 0 24 (6 ∷ 23 ∷ 8 ∷ []) ∷ [])

abbrev main : Function
main = record {
  id = id 1;
  ty = id 7;
  result = id 6;
  at = 0;
  params = [];
  blocks =
      block 40 (
      made op.Variable 23 41 (7 ∷ []) ∷ made op.Variable 22 42 (7 ∷ []) ∷ made op.Variable 23 43 (7 ∷ []) ∷ made op.Variable 23 44 (7 ∷ []) ∷ made op.Variable 23 45 (7 ∷ []) ∷
      made op.Load 8 50 (2 ∷ []) ∷ made op.Store 0 0 (41 ∷ 50 ∷ []) ∷ made op.Load 8 51 (41 ∷ []) ∷ made op.AccessChain 12 52 (5 ∷ 29 ∷ 51 ∷ []) ∷ made op.Load 3 53 (52 ∷ []) ∷
      made op.CopyLogical 21 54 (53 ∷ []) ∷ made op.Store 0 0 (42 ∷ 54 ∷ []) ∷ made op.Load 8 55 (41 ∷ []) ∷ made op.AccessChain 23 56 (42 ∷ 29 ∷ []) ∷ made op.Load 8 57 (56 ∷ []) ∷
      made op.AccessChain 20 58 (19 ∷ 55 ∷ []) ∷ made op.Store 0 0 (58 ∷ 57 ∷ []) ∷ made op.ControlBarrier 0 0 (26 ∷ 26 ∷ 27 ∷ []) ∷ made op.Store 0 0 (43 ∷ 14 ∷ []) ∷ made op.Store 0 0 (44 ∷ 14 ∷ []) ∷
      made op.Branch 0 0 (60 ∷ []) ∷ []) ∷
      block 60 (made op.LoopMerge 0 0 (64 ∷ 63 ∷ 0 ∷ []) ∷ made op.Branch 0 0 (61 ∷ []) ∷ []) ∷
      block 61 (made op.Load 8 65 (44 ∷ []) ∷ made op.Load 8 66 (41 ∷ []) ∷ made op.ULessThanEqual 25 67 (65 ∷ 66 ∷ []) ∷ made op.BranchConditional 0 0 (67 ∷ 62 ∷ 64 ∷ []) ∷ []) ∷
      block 62 (
      made op.Load 8 68 (43 ∷ []) ∷ made op.Store 0 0 (45 ∷ 68 ∷ []) ∷ made op.Load 8 69 (44 ∷ []) ∷ made op.AccessChain 20 70 (19 ∷ 69 ∷ []) ∷ made op.Load 8 71 (70 ∷ []) ∷
      made op.FunctionCall 6 72 (31 ∷ 45 ∷ 71 ∷ []) ∷ made op.Load 8 73 (45 ∷ []) ∷ made op.Store 0 0 (43 ∷ 73 ∷ []) ∷ made op.Branch 0 0 (63 ∷ []) ∷ []) ∷
      block 63 (made op.Load 8 74 (44 ∷ []) ∷ made op.IAdd 8 75 (74 ∷ 30 ∷ []) ∷ made op.Store 0 0 (44 ∷ 75 ∷ []) ∷ made op.Branch 0 0 (60 ∷ []) ∷ []) ∷
      block 64 (made op.Load 8 76 (41 ∷ []) ∷ made op.Load 8 77 (43 ∷ []) ∷ made op.AccessChain 13 78 (5 ∷ 29 ∷ 76 ∷ 30 ∷ []) ∷ made op.Store 0 0 (78 ∷ 77 ∷ []) ∷ made op.Return 0 0 [] ∷ []) ∷ [];
}

abbrev adds : Function
adds = record {
  id = id 31;
  ty = id 24;
  result = id 6;
  at = 0;
  params = (id 32, id 23) ∷ (id 33, id 8) ∷ [];
  blocks = block 34 (made op.Load 8 35 (32 ∷ []) ∷ made op.IAdd 8 36 (35 ∷ 33 ∷ []) ∷ made op.Store 0 0 (32 ∷ 36 ∷ []) ∷ made op.Return 0 0 [] ∷ []) ∷ [];
}

abbrev sums : ModuleState
sums = record { bound = 79; heads = heads; globals = globals; functions = main ∷ adds ∷ [] }

abbrev text : List ℕ
text = codes "#version 460\nlayout(local_size_x = 4, local_size_y = 1, local_size_z = 1) in;\nstruct Item {\n    uint key;\n    uint sum;\n};\nlayout(set = 0, binding = 0, std430) buffer Data {\n    layout(offset = 0) Item[] items;\n} n_input;\nshared uint[4] temp;\nstruct Item_2 {\n    uint key;\n    uint sum;\n};\nvoid add_u1_u1(inout uint n_float, uint i_3) {\n    uint v35 = n_float;\n    n_float = (v35 + i_3);\n    return;\n}\nvoid main() {\n    uint i = 0u;\n    Item_2 x = Item_2(0u, 0u);\n    uint sum = 0u;\n    uint i_2 = 0u;\n    uint param = 0u;\n    uint v50 = gl_LocalInvocationIndex;\n    i = v50;\n    uint v51 = i;\n    Item v53 = n_input.items[v51];\n    x = Item_2(v53.key, v53.sum);\n    uint v55 = i;\n    uint v57 = x.key;\n    temp[v55] = v57;\n    memoryBarrierShared();\n    barrier();\n    sum = 0u;\n    i_2 = 0u;\n    bool again = false;\n    for (;;) {\n        if (again) {\n            uint v74 = i_2;\n            i_2 = (v74 + 1u);\n        }\n        again = true;\n        uint v65 = i_2;\n        uint v66 = i;\n        if ((v65 <= v66)) {\n            uint v68 = sum;\n            param = v68;\n            uint v69 = i_2;\n            uint v71 = temp[v69];\n            add_u1_u1(param, v71);\n            uint v73 = param;\n            sum = v73;\n            continue;\n        } else {\n            break;\n        }\n    }\n    uint v76 = i;\n    uint v77 = sum;\n    n_input.items[v76].sum = v77;\n    return;\n}\n"

-- what the items have before, one for each invocation
abbrev keys : List ℕ
keys = 5 ∷ 7 ∷ 1 ∷ 3 ∷ []

abbrev key : ℕ → ℕ
key k = slice_index keys k

-- those of the invocations up to this one
abbrev keys_to : ℕ → List ℕ
keys_to k = take (k + 1) keys

-- what an invocation reads: its item, and what those up to it have put into workgroup memory
abbrev answers : ℕ → List (List ℕ)
answers k = (key k ∷ 0 ∷ []) ∷ map (λ w. w ∷ []) (keys_to k)

abbrev elements : ℕ → List ℕ → List Event
elements k [] = []
elements k (w ∷ ws) = read (shared 0 (k ∷ []) ∷ []) (w ∷ []) ∷ elements (k + 1) ws

abbrev up_to_loop : ℕ → List Event
up_to_loop k =
    read (buffer 0 0 (8 * k) ∷ buffer 0 0 (8 * k + 4) ∷ []) (key k ∷ 0 ∷ []) ∷ write (shared 0 (k ∷ []) ∷ []) (key k ∷ []) ∷ shared_barrier ∷ control_barrier ∷ []

abbrev events : ℕ → List Event
events k = up_to_loop k ++ elements 0 (keys_to k) ++ write (buffer 0 0 (8 * k + 4) ∷ []) (sum_by (λ w. w) (keys_to k) ∷ []) ∷ []

abbrev invocations : List ℕ
invocations = 0 ∷ 1 ∷ 2 ∷ 3 ∷ []

of_module : map (λ k. module_run sums 1 [] (invocation k) (answers k) 160) invocations ≡ map (λ k. run_made (events k) ended) invocations
unfolding module_opened
of_module = refl

-- the text is read once
abbrev text_runs : Option TranslationUnit → List TextRun
text_runs unit = map (λ k. run_of_tree unit (invocation k) (answers k) 5) invocations

of_text : text_runs (glsl_read text) ≡ map (λ k. text_made (events k) has_ended) invocations
unfolding text_opened
of_text = refl

-- with no turn of the loop
cut_off : run_of_text text (invocation 2) (answers 2) 0 ≡ text_made (up_to_loop 2) was_cut
unfolding text_opened
cut_off = refl

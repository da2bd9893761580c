-- Edges between blocks: phis, switches, chains that are made again.
use Rattle.std.proofs.Common.{◌≡◌, ℕ, ◌++◌, List, [], ◌∷◌, refl}
use Rattle.spv_ops.specs.declared.Op.TheVariants as op
use Rattle.spv_module.specs.declared.inst.Inst.{Inst}
use Rattle.spv_module.specs.declared.inst.Block.{Block}
use Rattle.traces.specs.Events.{write, buffer}
use Rattle.traces.specs.Runs.{Run, made as run_made, running, ended, undefined}
use Rattle.module_semantics.proofs.Samples.{opened, made, block, kernel, run}

-- constants: %20 7, %22 2, %27 4, %28 true, %29 false
abbrev numbers : List Inst
numbers =
    made op.Constant 8 20 (7 ∷ []) ∷ made op.Constant 8 22 (2 ∷ []) ∷ made op.Constant 8 27 (4 ∷ []) ∷ made op.ConstantTrue 16 28 [] ∷ made op.ConstantFalse 16 29 [] ∷ []

-- %60 and %61 begin with 0 and 1 and are swapped on the way back, so many times as the constant says
abbrev swapping : ℕ → List Block
swapping times =
    block 40 (made op.Branch 0 0 (41 ∷ []) ∷ []) ∷
    block 41 (
    made op.Phi 8 60 (14 ∷ 40 ∷ 61 ∷ 42 ∷ []) ∷ made op.Phi 8 61 (15 ∷ 40 ∷ 60 ∷ 42 ∷ []) ∷ made op.Phi 8 62 (14 ∷ 40 ∷ 63 ∷ 42 ∷ []) ∷
    made op.ULessThan 16 64 (62 ∷ times ∷ []) ∷ made op.LoopMerge 0 0 (43 ∷ 42 ∷ 0 ∷ []) ∷ made op.BranchConditional 0 0 (64 ∷ 42 ∷ 43 ∷ []) ∷ []) ∷
    block 42 (made op.IAdd 8 63 (62 ∷ 15 ∷ []) ∷ made op.Branch 0 0 (41 ∷ []) ∷ []) ∷
    block 43 (made op.AccessChain 13 90 (5 ∷ 14 ∷ 14 ∷ []) ∷ made op.Store 0 0 (90 ∷ 60 ∷ []) ∷ made op.Store 0 0 (90 ∷ 61 ∷ []) ∷ made op.Return 0 0 [] ∷ []) ∷ []

abbrev two_writes : ℕ → ℕ → Run
two_writes a b = run_made (write (buffer 1 6 0 ∷ []) (a ∷ []) ∷ write (buffer 1 6 0 ∷ []) (b ∷ []) ∷ []) ended

swapped : run (kernel numbers (swapping 14)) [] 20 ∷ run (kernel numbers (swapping 15)) [] 20 ∷ run (kernel numbers (swapping 22)) [] 30 ∷ [] ≡ two_writes 0 1 ∷ two_writes 1 0 ∷ two_writes 0 1 ∷ []
unfolding opened
swapped = refl

-- a switch: case 7 is block 41, which falls into case 2, block 42; the default is the merge block
abbrev falling : ℕ → List Block
falling selector =
    block 40 (made op.AccessChain 13 90 (5 ∷ 14 ∷ 14 ∷ []) ∷ made op.SelectionMerge 0 0 (44 ∷ 0 ∷ []) ∷ made op.Switch 0 0 (selector ∷ 44 ∷ 7 ∷ 41 ∷ 2 ∷ 42 ∷ []) ∷ []) ∷
    block 41 (made op.Store 0 0 (90 ∷ 15 ∷ []) ∷ made op.Branch 0 0 (42 ∷ []) ∷ []) ∷
    block 42 (made op.Store 0 0 (90 ∷ 22 ∷ []) ∷ made op.Branch 0 0 (44 ∷ []) ∷ []) ∷
    block 44 (made op.Return 0 0 [] ∷ []) ∷ []

cases :
    run (kernel numbers (falling 20)) [] 20 ∷ run (kernel numbers (falling 22)) [] 20 ∷ run (kernel numbers (falling 27)) [] 20 ∷ []
    ≡ two_writes 1 2 ∷ run_made (write (buffer 1 6 0 ∷ []) (2 ∷ []) ∷ []) ended ∷ run_made [] ended ∷ []
unfolding opened
cases = refl

-- %51 is a chain into an array of arrays, and %52 is based on it; in the second turn %51 is made again, and %52 has no value until it is made again too
abbrev arrays : List Inst
arrays = made op.TypeArray 0 45 (8 ∷ 22 ∷ []) ∷ made op.TypeArray 0 46 (45 ∷ 22 ∷ []) ∷ made op.TypePointer 0 47 (7 ∷ 46 ∷ []) ∷ made op.TypePointer 0 48 (7 ∷ 45 ∷ []) ∷ []

abbrev based : List Inst → List Block
based insts =
    block 40 (made op.Variable 47 50 (7 ∷ []) ∷ made op.Branch 0 0 (41 ∷ []) ∷ []) ∷
    block 41 (made op.Phi 8 60 (14 ∷ 40 ∷ 15 ∷ 42 ∷ []) ∷ made op.Phi 16 61 (28 ∷ 40 ∷ 29 ∷ 42 ∷ []) ∷ made op.AccessChain 48 51 (50 ∷ 60 ∷ []) ∷ made op.BranchConditional 0 0 (61 ∷ 42 ∷ 43 ∷ []) ∷ []) ∷
    block 42 (made op.AccessChain 18 52 (51 ∷ 14 ∷ []) ∷ made op.Load 8 53 (52 ∷ []) ∷ made op.Branch 0 0 (41 ∷ []) ∷ []) ∷
    block 43 insts ∷ []

abbrev behind : List Inst → Run
behind insts = run (kernel (numbers ++ arrays) (based insts)) [] 30

forgotten :
    behind (made op.Load 8 91 (52 ∷ []) ∷ made op.Return 0 0 [] ∷ []) ∷ behind (made op.CopyObject 8 91 (53 ∷ []) ∷ made op.Return 0 0 [] ∷ []) ∷
    behind (made op.AccessChain 18 52 (51 ∷ 15 ∷ []) ∷ made op.Load 8 91 (52 ∷ []) ∷ made op.Return 0 0 [] ∷ []) ∷ []
    ≡ run_made [] undefined ∷ run_made [] ended ∷ run_made [] ended ∷ []
unfolding opened
forgotten = refl

-- an endless loop runs for ever
endless : run (kernel numbers (block 40 (made op.Branch 0 0 (41 ∷ []) ∷ []) ∷ block 41 (made op.LoopMerge 0 0 (42 ∷ 41 ∷ 0 ∷ []) ∷ made op.Branch 0 0 (41 ∷ []) ∷ []) ∷ [])) [] 30 ≡ run_made [] running
unfolding opened
endless = refl

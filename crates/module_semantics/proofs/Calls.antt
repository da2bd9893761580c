-- Calls: results, and pointers to variables of the callers.
use Rattle.std.proofs.Common.{◌≡◌, List, [], ◌∷◌, refl}
use Rattle.spv_ops.specs.declared.Op.TheVariants as op
use Rattle.spv_module.specs.declared.inst.Inst.{Inst}
use Rattle.spv_module.specs.declared.inst.Function.{Function}
use Rattle.traces.specs.Events.{write, buffer}
use Rattle.traces.specs.Runs.{made as run_made, ended}
use Rattle.module_semantics.proofs.Samples.{opened, made, id, block, kernel_with, run}

-- constants: %20 7, %22 2
abbrev numbers : List Inst
numbers = made op.Constant 8 20 (7 ∷ []) ∷ made op.Constant 8 22 (2 ∷ []) ∷ []

-- %70 adds its second parameter to what its first points to, and gives what was there; %80 calls it with its own pointer, %81, and 2
abbrev adds : Function
adds = record {
  id = id 70;
  ty = id 7;
  result = id 8;
  at = 0;
  params = (id 71, id 18) ∷ (id 72, id 8) ∷ [];
  blocks = block 74 (made op.Load 8 75 (71 ∷ []) ∷ made op.IAdd 8 76 (75 ∷ 72 ∷ []) ∷ made op.Store 0 0 (71 ∷ 76 ∷ []) ∷ made op.ReturnValue 0 0 (75 ∷ []) ∷ []) ∷ [];
}

abbrev adds_two : Function
adds_two = record {
  id = id 80;
  ty = id 7;
  result = id 6;
  at = 0;
  params = (id 81, id 18) ∷ [];
  blocks = block 84 (made op.FunctionCall 8 85 (70 ∷ 81 ∷ 22 ∷ []) ∷ made op.Return 0 0 [] ∷ []) ∷ [];
}

-- %50 is a variable with 7, and %51 another; both functions are called with %50
called :
    run (kernel_with [] numbers (adds ∷ adds_two ∷ []) (block 40 (
    made op.Variable 18 50 (7 ∷ 20 ∷ []) ∷ made op.Variable 18 51 (7 ∷ []) ∷ made op.AccessChain 13 90 (5 ∷ 14 ∷ 14 ∷ []) ∷
    made op.FunctionCall 8 52 (70 ∷ 50 ∷ 15 ∷ []) ∷ made op.FunctionCall 6 53 (80 ∷ 50 ∷ []) ∷ made op.Load 8 54 (50 ∷ []) ∷ made op.Load 8 55 (51 ∷ []) ∷
    made op.Store 0 0 (90 ∷ 52 ∷ []) ∷ made op.Store 0 0 (90 ∷ 54 ∷ []) ∷ made op.Store 0 0 (90 ∷ 55 ∷ []) ∷ made op.Return 0 0 [] ∷ []) ∷ [])) [] 40
    ≡ run_made (write (buffer 1 6 0 ∷ []) (7 ∷ []) ∷ write (buffer 1 6 0 ∷ []) (10 ∷ []) ∷ write (buffer 1 6 0 ∷ []) (0 ∷ []) ∷ []) ended
unfolding opened
called = refl

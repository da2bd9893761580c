-- Small modules, in whose terms the examples speak.
use Rattle.std.proofs.Common.{ℕ, ◌+◌, ◌-◌, ◌*◌, ◌^◌, ◌++◌, List, [], ◌∷◌}
use Rattle.std.specs.Prelude.{◌==◌, true, false, None}
use Rattle.std.specs.Int.{reverse_bits_onto}
use lib.Count.{ones_in, count_leading_zeros, count_trailing_zeros}
use Rattle.spv_ops.specs.declared.Op.{Op}
use Rattle.spv_ops.specs.declared.Op.TheVariants as op
use Rattle.spv_ops.specs.Opcode.{op_of, number}
use Rattle.spv_ops.specs.Operands.{is_id, inner_of}
use Rattle.spv_ops.specs.Shape.{shape}
use Rattle.spv_module.specs.Inst.{known}
use Rattle.spv_module.specs.Kinds.{kind_of_opcode, kind_of_op}
use Rattle.spv_module.specs.State.{ModuleState}
use Rattle.spv_module.specs.declared.inst.Id.{Id}
use Rattle.spv_module.specs.declared.inst.Inst.{Inst}
use Rattle.spv_module.specs.declared.inst.Block.{Block}
use Rattle.spv_module.specs.declared.inst.Function.{Function}
use Rattle.spv_decor.specs.Rows.{key_of}
use Rattle.spv_types.specs.Types.{kind, below}
use Rattle.op_semantics.specs.Value.{operation, operation_of}
use Rattle.profile_rules.specs.Constants.{constant_kind}
use Rattle.profile_rules.specs.Operands.{need}
use Rattle.spv_ops.specs.OpGroups.{group_of, takes_of}
use Rattle.traces.specs.Invocations.{Invocation}
use Rattle.traces.specs.Runs.{Run}
use Rattle.module_semantics.specs.Steps.{operation_step, chain_step, length_step, variable_step, load_step, store_step, atomic_step, memory_barrier_step, control_barrier_step, entered, call_step, return_step, return_value_step, edge_step, branch_step, step_kind, act}
use Rattle.module_semantics.specs.Run.{start, module_run}

unfoldable pub opened : Unit {0}
unfolding shape op_of number known is_id inner_of kind_of_opcode kind_of_op key_of kind below operation operation_of constant_kind need group_of takes_of ones_in count_leading_zeros count_trailing_zeros reverse_bits_onto operation_step chain_step length_step variable_step load_step store_step atomic_step memory_barrier_step control_barrier_step entered call_step return_step return_value_step edge_step branch_step step_kind act start
opened = tt

-- an instruction, by its opcode, its type, its result and its other operand words
abbrev pub made : Op → ℕ → ℕ → List ℕ → Inst
made o ty result args = record { op = o; at = 0; ty = ty; result = result; args = args }

-- instructions where they stand in a row
abbrev pub placed : ℕ → List Inst → List Inst
placed n [] = []
placed n (i ∷ is) = record i { at = n } ∷ placed (n + 1) is

abbrev pub id : ℕ → Id
id n = record { 0 = n }

abbrev pub block : ℕ → List Inst → Block
block label insts = record { label = id label; at = 0; insts = insts }

-- OpDecorate %2 BuiltIn GlobalInvocationId, OpDecorate %3 Block, OpMemberDecorate %3 0 Offset 0, OpDecorate %4 ArrayStride 4, OpDecorate %5 DescriptorSet 1, OpDecorate %5 Binding 6
abbrev pub heads : List Inst
heads =
    made op.Decorate 0 0 (2 ∷ 11 ∷ 28 ∷ []) ∷ made op.Decorate 0 0 (3 ∷ 2 ∷ []) ∷ made op.MemberDecorate 0 0 (3 ∷ 0 ∷ 35 ∷ 0 ∷ []) ∷
    made op.Decorate 0 0 (4 ∷ 6 ∷ 4 ∷ []) ∷ made op.Decorate 0 0 (5 ∷ 34 ∷ 1 ∷ []) ∷ made op.Decorate 0 0 (5 ∷ 33 ∷ 6 ∷ []) ∷ []

-- %6 void, %7 its function type, %8 uint, %9 a vector of three, %2 the Input variable, %4 a runtime array of uint, %3 its block, %5 the StorageBuffer variable, %14 and %15 the constants 0 and 1, %16 bool, %17 int, %18 a Function pointer to uint
abbrev pub globals : List Inst
globals =
    made op.TypeVoid 0 6 [] ∷ made op.TypeFunction 0 7 (6 ∷ []) ∷ made op.TypeInt 0 8 (32 ∷ 0 ∷ []) ∷ made op.TypeVector 0 9 (8 ∷ 3 ∷ []) ∷
    made op.TypePointer 0 10 (1 ∷ 9 ∷ []) ∷ made op.Variable 10 2 (1 ∷ []) ∷ made op.TypePointer 0 11 (1 ∷ 8 ∷ []) ∷
    made op.TypeRuntimeArray 0 4 (8 ∷ []) ∷ made op.TypeStruct 0 3 (4 ∷ []) ∷ made op.TypePointer 0 12 (12 ∷ 3 ∷ []) ∷ made op.Variable 12 5 (12 ∷ []) ∷
    made op.TypePointer 0 13 (12 ∷ 8 ∷ []) ∷ made op.Constant 8 14 (0 ∷ []) ∷ made op.Constant 8 15 (1 ∷ []) ∷
    made op.TypeBool 0 16 [] ∷ made op.TypeInt 0 17 (32 ∷ 1 ∷ []) ∷ made op.TypePointer 0 18 (7 ∷ 8 ∷ []) ∷ []

-- the function %1 of the entry point
abbrev pub main : List Block → Function
main blocks = record { id = id 1; ty = id 7; result = id 6; at = 0; params = []; blocks = blocks }

-- a module with more of each kind
abbrev pub kernel_with : List Inst → List Inst → List Function → List Block → ModuleState
kernel_with more_heads more_globals functions blocks = record { bound = 200; heads = heads ++ more_heads; globals = placed 1 (globals ++ more_globals); functions = functions ++ main blocks ∷ [] }

abbrev pub kernel : List Inst → List Block → ModuleState
kernel more_globals blocks = kernel_with [] more_globals [] blocks

-- invocation 3 of four, whose buffer at set 1, binding 6 has 22 bytes, without specialization constants
abbrev pub invocation : Invocation
invocation = record {
  num_workgroups = (4, 1, 1);
  workgroup_id = (3, 0, 0);
  local_invocation_id = (0, 0, 0);
  global_invocation_id = (3, 0, 0);
  local_invocation_index = 0;
  buffer_bytes = λ set binding. elim (set + binding * 10 == 61) [ true ↦ 22 | false ↦ 0 ];
  specialization = λ id. None;
}

abbrev pub run : ModuleState → List (List ℕ) → ℕ → Run
run m answers n = module_run m 1 [] invocation answers n

-- the word of a number below zero
abbrev pub minus : ℕ → ℕ
minus n = 2 ^ 32 - n

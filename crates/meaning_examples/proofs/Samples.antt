-- What the examples share.
use Rattle.std.proofs.Common.{ℕ, ◌+◌, List, [], ◌∷◌}
use Rattle.std.specs.Prelude.{None}
use Rattle.std.specs.Int.{reverse_bits_onto}
use lib.Count.{ones_in, count_leading_zeros, count_trailing_zeros}
use Rattle.spv_ops.specs.declared.Op.{Op}
use Rattle.spv_ops.specs.Opcode.{op_of, number}
use Rattle.spv_ops.specs.Operands.{is_id, inner_of}
use Rattle.spv_ops.specs.Shape.{shape}
use Rattle.spv_module.specs.Inst.{known}
use Rattle.spv_module.specs.Kinds.{kind_of_opcode, kind_of_op}
use Rattle.spv_module.specs.declared.inst.Id.{Id}
use Rattle.spv_module.specs.declared.inst.Inst.{Inst}
use Rattle.spv_module.specs.declared.inst.Block.{Block}
use Rattle.spv_decor.specs.Rows.{key_of}
use Rattle.spv_types.specs.Types.{kind, below}
use Rattle.op_semantics.specs.Value.{operation, operation_of}
use Rattle.layout_rules.specs.Sizes.{aligned}
use Rattle.profile_rules.specs.Constants.{constant_kind}
use Rattle.profile_rules.specs.Operands.{need}
use Rattle.spv_ops.specs.OpGroups.{group_of, takes_of}
use Rattle.glsl_grammar.specs.Lex.{is_white, is_digit, is_word, name_token, sign_token, ended, is_sign, lengthens, begun, lex, after_version, glsl_tokens, number_parts, fitting, hex_token}
use Rattle.glsl_grammar.specs.Read.{tree_of_tokens}
use Rattle.glsl_grammar.specs.Reading.{glsl_read}
use Rattle.traces.specs.Invocations.{Invocation}
use Rattle.module_semantics.specs.Steps.{operation_step, chain_step, length_step, variable_step, load_step, store_step, atomic_step, memory_barrier_step, control_barrier_step, entered, call_step, return_step, return_value_step, edge_step, branch_step, step_kind, act}
use Rattle.module_semantics.specs.Run.{start}
use Rattle.glsl_semantics.specs.Items.{declared_by}

unfoldable pub module_opened : Unit {0}
unfolding shape op_of number known is_id inner_of kind_of_opcode kind_of_op key_of kind below operation operation_of constant_kind need group_of takes_of ones_in count_leading_zeros count_trailing_zeros reverse_bits_onto operation_step chain_step length_step variable_step load_step store_step atomic_step memory_barrier_step control_barrier_step entered call_step return_step return_value_step edge_step branch_step step_kind act start
module_opened = tt

unfoldable pub text_opened : Unit {0}
unfolding is_white is_digit is_word name_token sign_token ended is_sign lengthens begun lex number_parts fitting hex_token after_version glsl_tokens glsl_read tree_of_tokens declared_by aligned ones_in count_leading_zeros count_trailing_zeros reverse_bits_onto
text_opened = tt

-- an instruction, by its opcode, its type, its result and its other operand words
abbrev pub made : Op → ℕ → ℕ → List ℕ → Inst
made o ty result args = record { op = o; at = 0; ty = ty; result = result; args = args }

-- instructions where they stand in a row
abbrev pub placed : ℕ → List Inst → List Inst
placed n [] = []
placed n (i ∷ is) = record i { at = n } ∷ placed (n + 1) is

abbrev pub id : ℕ → Id
id n = record { 0 = n }

abbrev pub block : ℕ → List Inst → Block
block label insts = record { label = id label; at = 0; insts = insts }

-- the invocation with this number in the only workgroup, where a buffer has 32 bytes, without specialization constants
abbrev pub invocation : ℕ → Invocation
invocation n = record {
  num_workgroups = (1, 1, 1);
  workgroup_id = (0, 0, 0);
  local_invocation_id = (n, 0, 0);
  global_invocation_id = (n, 0, 0);
  local_invocation_index = n;
  buffer_bytes = λ set binding. 32;
  specialization = λ id. None;
}

-- What a builder was given, and the words of it (SPIR-V 1.6, section 2.3).
use Rattle.std.specs.Prelude.{ℕ, ◌+◌, ◌*◌, suc, List, ◌∷◌, length, drop, flat_map, map}
use Rattle.spv_ops.specs.Opcode.{number}
use Rattle.spv_ops.specs.declared.Op.{Op}
use Rattle.spv_words.specs.Words.{magic, slice, insts}
use Rattle.spv_words.specs.declared.words.Inst1.{Inst1}
use Rattle.module_gen.specs.declared.encode.Inst.{Inst}

-- an instruction: its opcode, and the words after its first
pub record Instruction : Type 0 where
  pub opcode : ℕ
  pub operands : List ℕ

-- a module without its bound
pub record Assembly : Type 0 where
  pub version : ℕ
  pub insts : List Instruction

abbrev pub instruction : Inst → Instruction
instruction i = record { opcode = i.opcode; operands = i.operands.items }

-- the instruction of an opcode and the words after its first
abbrev pub inst : Op → List ℕ → Instruction
inst op operands = record { opcode = number op; operands = operands }

-- the words of an instruction: word count and opcode in the halves of the first, then the operands
abbrev pub words_of : Instruction → List ℕ
words_of i = (suc (length i.operands) * 65536 + i.opcode) ∷ i.operands

-- the words of instructions, one after the other
abbrev pub stream : List Instruction → List ℕ
stream is = flat_map words_of is

-- the words of a module: magic number, version, generator 0, bound, schema 0, instructions
abbrev pub module_words : Assembly → ℕ → List ℕ
module_words m bound = magic ∷ m.version ∷ 0 ∷ bound ∷ 0 ∷ stream m.insts

-- what stands in these words at the place of an instruction
abbrev pub instruction_at : List ℕ → Inst1 → Instruction
instruction_at ws i = record { opcode = i.opcode; operands = drop 1 (slice ws i) }

-- the instructions of these words
abbrev pub instructions_of : List ℕ → List Instruction
instructions_of ws = map (instruction_at ws) (insts ws)

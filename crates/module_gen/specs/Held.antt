-- What `Builder` shows, and what it keeps true.
use Rattle.std.specs.Prelude.{ℕ, ◌<◌, ◌≤◌, ◌^◌, All, length, map}
use Rattle.module_gen.specs.Assembly.{Assembly, Instruction, instruction}
use Rattle.module_gen.specs.declared.builder.Builder.TheInside.{Inside}

abbrev pub assembly_of : Inside → Assembly
assembly_of b = record { version = b.version; insts = map instruction b.insts.items }

-- fits in half of a word
abbrev pub IsHalf : ℕ → Type 0
IsHalf n = n < 2 ^ 16

-- its words fit in 32 bits, and its opcode and word count in the halves of the first
pub record IsEncodable (i : Instruction) : Type 0 where
  pub opcode : IsHalf i.opcode
  pub short : length i.operands ≤ 65534
  pub operands : All (λ w. w < 2 ^ 32) i.operands

pub record IsHeld (b : Inside) : Type 0 where
  pub version : b.version < 2 ^ 32
  pub insts : All (λ i. IsEncodable (instruction i)) b.insts.items

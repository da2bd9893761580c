-- Tables of instructions: an opcode and the words after the first.
use Rattle.std.specs.Prelude.{ℕ, List, length, Bool, nat_le}
use Rattle.std.specs.Borrow.{Bor}
use Rattle.std.specs.List.{list_all}
use Rattle.spv_ops.specs.declared.Op.{Op}
use Rattle.module_gen.specs.Assembly.{Instruction, inst}

abbrev pub instruction_of : Op × Bor (List ℕ) → Instruction
instruction_of row = inst row.0 row.1.now

-- none has more words than its first has room to count
abbrev pub are_short : List (Op × Bor (List ℕ)) → Bool
are_short rows = list_all (λ row. nat_le (length row.1.now) 65534) rows

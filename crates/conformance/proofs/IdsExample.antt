-- The rules on numbers of words and on ids, where an instruction is too short for its result.
use Rattle.std.proofs.Common.{◌≡◌, ℕ, List, [], ◌∷◌, Bool, true, false, slice_index, refl}
use Rattle.spv_words.specs.declared.words.Inst1.{Inst1}
use Rattle.spv_ops.specs.Opcode.{op_of, number}
use Rattle.spv_ops.specs.declared.opcode.Op.TheVariants as code
use Rattle.spv_ops.specs.Shape.{shape}
use Rattle.spv_module.specs.Inst.{known, inst_of}
use Rattle.spv_module.specs.Counts.{is_misfit}
use Rattle.spv_module.specs.Ids.{has_result_out}

-- a header, an OpLabel of one word, and one of two, whose id is 0
abbrev ws : List ℕ
ws = 0x07230203 ∷ 0x00010300 ∷ 0 ∷ 10 ∷ 0 ∷ 0x000100F8 ∷ 0x000200F8 ∷ 0 ∷ []

abbrev short : Inst1
short = record { opcode = number code.Label; start = 5; len = 1 }

abbrev long : Inst1
long = record { opcode = number code.Label; start = 6; len = 2 }

abbrev is_out : Inst1 → Bool
is_out i = has_result_out (slice_index ws 3) i.len (inst_of ws i)

opened : Unit {0}
unfolding op_of number known shape
opened = tt

-- the short one breaks P2 alone, the long one P3 alone
misfits : is_misfit ws short ∷ is_misfit ws long ∷ [] ≡ true ∷ false ∷ []
unfolding opened
misfits = refl

outs : is_out short ∷ is_out long ∷ [] ≡ false ∷ true ∷ []
unfolding opened
outs = refl

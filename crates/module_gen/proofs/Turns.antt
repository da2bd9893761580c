-- The pieces that are left after one.
use Rattle.std.proofs.Common.{◌≡◌, ◌<◌, ◌+◌, ◌-◌, ◌*◌, ◌++◌, ◌∙◌, ℕ, suc, List, [], ◌∷◌, sym, ap, arith, append_assoc}
use Rattle.spv_ops.specs.declared.Op.TheVariants as op
use Rattle.module_gen.specs.Assembly.{Instruction, Assembly, inst}
use Rattle.module_gen.specs.Generated.{frame, kind_of, piece, block_after, pieces_from, generated_assembly}

abbrev pub piece_at : ℕ → ℕ → List Instruction
piece_at k block = piece (kind_of k) (16 + 16 * k) block

abbrev pub block_behind : ℕ → ℕ → ℕ
block_behind k block = block_after (kind_of k) (16 + 16 * k) block

pub pieces_next : (end k block : ℕ) → k < end → pieces_from (end - k) k block ≡ piece_at k block ++ pieces_from (end - (k + 1)) (k + 1) (block_behind k block)
pieces_next end k block below =
    let step : end - k ≡ suc (end - (k + 1)) = omega arith in
    let next : suc k ≡ k + 1 = omega arith in
    ap (λ count. pieces_from count k block) step
    ∙ ap (λ m. piece_at k block ++ pieces_from (end - (k + 1)) m (block_behind k block)) next

-- what was put and what is left are the whole, before a piece and after it
pub whole_kept : (before after whole : List Instruction) (end k block next : ℕ) → k < end → before ++ pieces_from (end - k) k block ≡ whole → after ≡ before ++ piece_at k block → next ≡ block_behind k block → after ++ pieces_from (end - (k + 1)) (k + 1) next ≡ whole
whole_kept before after whole end k block next below was put ends =
    let left : List Instruction = pieces_from (end - (k + 1)) (k + 1) (block_behind k block) in
    ap (λ b. after ++ pieces_from (end - (k + 1)) (k + 1) b) ends
    ∙ ap (λ l. l ++ left) put
    ∙ append_assoc before (piece_at k block) left
    ∙ sym (ap (λ l. before ++ l) (pieces_next end k block below))
    ∙ was

-- what the steps of `generate` make of an empty builder
pub assembled : (empty framed pieced ended : Assembly) (n : ℕ) → empty ≡ record { version = 0x00010300; insts = [] } → framed ≡ record empty { insts = empty.insts ++ frame } → pieced ≡ record framed { insts = framed.insts ++ pieces_from n 1 16 } → ended ≡ record pieced { insts = pieced.insts ++ inst op.Return [] ∷ inst op.FunctionEnd [] ∷ [] } → ended ≡ generated_assembly n
assembled empty framed pieced ended n a b c d = rw (d, c, b, a) (simp append_assoc)

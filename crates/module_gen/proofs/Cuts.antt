-- A stream of instructions, cut into instructions again.
use Rattle.std.proofs.Common.{◌≡◌, ◌≤◌, ◌+◌, ◌-◌, ◌*◌, ◌/◌, ◌%◌, ◌++◌, ◌∙◌, ℕ, suc, List, [], ◌∷◌, length, take, drop, map, refl, sym, ap, arith, length-append, append_assoc, false, cond, Some}
use Rattle.std.specs.Prelude.{All, None, find}
use Rattle.std.proofs.Math.Seq.{drop-append_seam, take-append_seam}
use Rattle.std.proofs.lemmas.Bool.Decides.{nat_tests}
use Rattle.spv_words.specs.Words.{insts_from, is_at_fault}
use Rattle.spv_words.specs.declared.words.Inst1.{Inst1}
use Rattle.spv_words.proofs.Cuts.{insts_from_skip}
use Rattle.module_gen.specs.Assembly.{Instruction, words_of, stream, instruction_at}
use Rattle.module_gen.specs.Held.{IsHalf}
use Rattle.module_gen.proofs.Octets.{All-first, All-rest}

-- an instruction's place in the words, by its length
abbrev pub placed : ℕ → Instruction → Inst1
placed at i = record { opcode = i.opcode; start = at; len = suc (length i.operands) }

-- the words of an instruction, and those behind it
pub insts_from_words_of : (at : ℕ) (i : Instruction) (rest : List ℕ) → IsHalf i.opcode → insts_from at 0 (words_of i ++ rest) ≡ placed at i ∷ insts_from (at + suc (length i.operands)) 0 rest
insts_from_words_of at i rest opcode =
    let n : ℕ = length i.operands in
    let low : (suc n * 65536 + i.opcode) % 65536 ≡ i.opcode = omega (arith, opcode) in
    let high : (suc n * 65536 + i.opcode) / 65536 ≡ suc n = omega (arith, opcode) in
    let left : suc n - 1 ≡ n = omega arith in
    ap (λ o. record { opcode = o; start = at; len = (suc n * 65536 + i.opcode) / 65536 } ∷ insts_from (suc at) ((suc n * 65536 + i.opcode) / 65536 - 1) (i.operands ++ rest)) low
    ∙ ap (λ len. record { opcode = i.opcode; start = at; len = len } ∷ insts_from (suc at) (len - 1) (i.operands ++ rest)) high
    ∙ ap (λ is. placed at i ∷ is) (ap (λ k. insts_from (suc at) k (i.operands ++ rest)) left
    ∙ insts_from_skip (i.operands ++ rest) (suc at) n
    ∙ ap (insts_from (suc at + n) 0) (drop-append_seam i.operands rest)
    ∙ ap (λ k. insts_from k 0 rest) (omega arith))

-- an instruction's operands stand in the words at its place
pub operands_at : (before rest : List ℕ) (i : Instruction) → instruction_at (before ++ (words_of i ++ rest)) (placed (length before) i) ≡ i
operands_at before rest i =
    ap (λ l. record { opcode = i.opcode; operands = drop 1 (take (suc (length i.operands)) l) }) (drop-append_seam before (words_of i ++ rest))
    ∙ ap (λ l. record { opcode = i.opcode; operands = l }) (take-append_seam i.operands rest)

-- the instructions in a stream behind some words
pub stream_cut : (before : List ℕ) (is : List Instruction) → All (λ i. IsHalf i.opcode) is → map (instruction_at (before ++ stream is)) (insts_from (length before) 0 (stream is)) ≡ is
stream_cut before [] short = refl
stream_cut before (i ∷ is) short =
    let ws : List ℕ = before ++ stream (i ∷ is) in
    let end : ℕ = length before + suc (length i.operands) in
    let opcode : IsHalf i.opcode = All-first (λ i. IsHalf i.opcode) i is short in
    ap (map (instruction_at ws)) (insts_from_words_of (length before) i (stream is) opcode)
    ∙ ap (λ x. x ∷ map (instruction_at ws) (insts_from end 0 (stream is))) (operands_at before (stream is) i)
    ∙ ap (λ l. i ∷ l) (ap (λ k. map (instruction_at ws) (insts_from k 0 (stream is))) (sym (length-append before (words_of i)))
    ∙ ap (λ l. map (instruction_at l) (insts_from (length (before ++ words_of i)) 0 (stream is))) (sym (append_assoc before (words_of i) (stream is)))
    ∙ stream_cut (before ++ words_of i) is (All-rest (λ i. IsHalf i.opcode) i is short))

-- an instruction that ends within the words is not at fault
pub fine_at : (end at : ℕ) (i : Instruction) → at + suc (length i.operands) ≤ end → is_at_fault end (placed at i) ≡ false
fine_at end at i within = grind (arith, nat_tests)

-- none of a stream's instructions is at fault
pub stream_whole : (end at : ℕ) (is : List Instruction) → All (λ i. IsHalf i.opcode) is → end ≡ at + length (stream is) → find (is_at_fault end) (insts_from at 0 (stream is)) ≡ None
stream_whole end at [] short ends = refl
stream_whole end at (i ∷ is) short ends =
    let next : ℕ = at + suc (length i.operands) in
    let opcode : IsHalf i.opcode = All-first (λ i. IsHalf i.opcode) i is short in
    let size : length (stream (i ∷ is)) ≡ suc (length i.operands) + length (stream is) = length-append (words_of i) (stream is) in
    ap (find (is_at_fault end)) (insts_from_words_of at i (stream is) opcode)
    ∙ ap (λ b. cond b (Some (placed at i)) (find (is_at_fault end) (insts_from next 0 (stream is)))) (fine_at end at i (omega (arith, size, ends)))
    ∙ stream_whole end next is (All-rest (λ i. IsHalf i.opcode) i is short) (omega (arith, size, ends))

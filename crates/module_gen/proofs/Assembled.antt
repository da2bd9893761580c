-- The words of a module that was built, from its bytes.
use Rattle.std.proofs.Common.{◌≡◌, ◌<◌, ◌+◌, ◌*◌, ◌^◌, ◌∙◌, ℕ, suc, List, [], ◌∷◌, length, ap, arith}
use Rattle.std.specs.Prelude.{All, None}
use Rattle.std.proofs.lemmas.List.Elements.{All-append, All-cons, All-nil}
use Rattle.spv_words.specs.Words.{magic, words, first_fault, octets_of}
use Rattle.module_gen.specs.Assembly.{Assembly, Instruction, words_of, stream, module_words, instructions_of}
use Rattle.module_gen.specs.Held.{IsEncodable, IsHalf}
use Rattle.module_gen.proofs.Octets.{All-first, All-rest, words_back}
use Rattle.module_gen.proofs.Cuts.{stream_cut, stream_whole}

abbrev pub IsWord : ℕ → Type 0
IsWord w = w < 2 ^ 32

pub stream_fits : (is : List Instruction) → All IsEncodable is → All IsWord (stream is)
stream_fits [] held = All-nil IsWord
stream_fits (i ∷ is) held =
    let first : IsEncodable i = All-first IsEncodable i is held in
    let word : suc (length i.operands) * 65536 + i.opcode < 2 ^ 32 = omega (arith, first.opcode, first.short) in
    All-append IsWord (words_of i) (stream is) (All-cons IsWord _ i.operands word first.operands) (stream_fits is (All-rest IsEncodable i is held))

-- these bytes are a module whose words fit
pub record IsBuilt (m : Assembly) (bound : ℕ) (bytes : List ℕ) : Type 0 where
  pub version_fits : m.version < 2 ^ 32
  pub bound_fits : bound < 2 ^ 32
  pub insts_fit : All IsEncodable m.insts
  pub octets : bytes ≡ octets_of (module_words m bound)

pub module_fits : (m : Assembly) (bound : ℕ) → m.version < 2 ^ 32 → bound < 2 ^ 32 → All IsEncodable m.insts → All IsWord (module_words m bound)
module_fits m bound version fits held =
    let body : List ℕ = stream m.insts in
    All-cons IsWord magic (m.version ∷ 0 ∷ bound ∷ 0 ∷ body) (omega arith)
    (All-cons IsWord m.version (0 ∷ bound ∷ 0 ∷ body) version
    (All-cons IsWord 0 (bound ∷ 0 ∷ body) (omega arith)
    (All-cons IsWord bound (0 ∷ body) fits
    (All-cons IsWord 0 body (omega arith) (stream_fits m.insts held)))))

pub built_words : (m : Assembly) (bound : ℕ) (bytes : List ℕ) → IsBuilt m bound bytes → words bytes ≡ module_words m bound
built_words m bound bytes built =
    ap words built.octets ∙ words_back (module_words m bound) (module_fits m bound built.version_fits built.bound_fits built.insts_fit)

pub opcodes_fit : (is : List Instruction) → All IsEncodable is → All (λ i. IsHalf i.opcode) is
opcodes_fit is held = λ k d inside. (held k d inside).opcode

pub built_insts : (m : Assembly) (bound : ℕ) (bytes : List ℕ) → IsBuilt m bound bytes → instructions_of (words bytes) ≡ m.insts
built_insts m bound bytes built =
    ap instructions_of (built_words m bound bytes built)
    ∙ stream_cut (magic ∷ m.version ∷ 0 ∷ bound ∷ 0 ∷ []) m.insts (opcodes_fit m.insts built.insts_fit)

pub built_whole : (m : Assembly) (bound : ℕ) (bytes : List ℕ) → IsBuilt m bound bytes → first_fault (words bytes) ≡ None
built_whole m bound bytes built =
    ap first_fault (built_words m bound bytes built)
    ∙ stream_whole (length (module_words m bound)) 5 m.insts (opcodes_fit m.insts built.insts_fit) (omega arith)

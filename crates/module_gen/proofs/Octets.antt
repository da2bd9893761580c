-- Words as octets, read back as words.
use Rattle.std.proofs.Common.{◌≡◌, ◌<◌, ◌^◌, ◌∙◌, ℕ, zero, suc, List, [], ◌∷◌, refl, ap, arith}
use Rattle.std.specs.Prelude.{All}
use Rattle.byteorder.specs.Endian.{little_number}
use Rattle.byteorder.specs.Numbers.{little_number-reads_back}
use Rattle.spv_words.specs.Words.{words_by, octets_of}

-- what holds of each element holds of each but the first
pub All-rest : {A : Type 0} (P : A → Type 0) (x : A) (xs : List A) → All P (x ∷ xs) → All P xs
All-rest P x xs all = λ k d inside. all (suc k) d (omega arith)

pub All-first : {A : Type 0} (P : A → Type 0) (x : A) (xs : List A) → All P (x ∷ xs) → P x
All-first P x xs all = all zero x (omega arith)

pub words_back : (ws : List ℕ) → All (λ w. w < 2 ^ 32) ws → words_by little_number (octets_of ws) ≡ ws
words_back [] small = refl
words_back (w ∷ ws) small =
    ap (λ n. n ∷ words_by little_number (octets_of ws)) (little_number-reads_back 4 w [] (All-first (λ x. x < 2 ^ 32) w ws small))
    ∙ ap (λ l. w ∷ l) (words_back ws (All-rest (λ x. x < 2 ^ 32) w ws small))

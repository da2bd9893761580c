-- Answers of words are such as the machine of a module takes.
use Rattle.std.proofs.Common.{◌≡◌, ◌<◌, ◌^◌, ℕ, true, List, [], ◌∷◌, nat_lt, refl, arith}
use Rattle.std.proofs.lemmas.Bool.Decides.{nat_tests}
use Rattle.std.proofs.lemmas.Bool.{and_from}
use Rattle.dispatch_semantics.specs.Store.{AreWords, AreAnswers}
use Rattle.agree_law.specs.Answers.{are_words, AreWorded}

words_on : (ws : List ℕ) → AreWords ws → are_words ws ≡ true
words_on [] are = refl
words_on (w ∷ ws) are = and_from (nat_lt w (2 ^ 32)) (are_words ws) (below w are.0) (words_on ws are.1)
  where
    below : (w : ℕ) → w < 2 ^ 32 → nat_lt w (2 ^ 32) ≡ true
    below w less = grind (arith, nat_tests, less)

pub worded : (answers : List (List ℕ)) → AreAnswers answers → AreWorded answers
worded [] are = tt
worded (a ∷ more) are = (words_on a are.0, worded more are.1)

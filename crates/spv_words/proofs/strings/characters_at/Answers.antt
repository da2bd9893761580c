use Rattle.std.proofs.Common.{◌≡◌, ◌<◌, ◌-◌, ℕ, List, [], ◌∷◌, length, take, drop, min, sym, subst, ap, arith}
use Rattle.std.specs.Str.{IsUtf8}
use Rattle.spv_words.specs.Words.{octets_of}
use Rattle.spv_words.proofs.Characters.{window, length_part, front_whole, no_character}
use Rattle.spv_words.proofs.strings.characters_at.Goals as goal

pub returns-clause-whole : goal.returns-clause-whole
returns-clause-whole c =
    let os : List ℕ = octets_of c.args.words.now in
    let part : List ℕ = drop c.args.at (take c.args.end os) in
    let four : List ℕ = take c.min.result (c.octet.result ∷ c.octet-2.result ∷ c.octet-3.result ∷ c.octet-4.result ∷ []) in
    let same : four ≡ take (min (c.args.end - c.args.at) 4) part = rw (c.min.ensures, c.octet.ensures, c.octet-2.ensures, c.octet-3.ensures, c.octet-4.ensures) (window os c.args.at c.args.end c.requires.there) in
    front_whole part four (min (c.args.end - c.args.at) 4) c.whole_characters.result same c.whole_characters.ensures.within c.whole_characters.ensures.whole

pub returns-clause-none : goal.returns-clause-none
returns-clause-none c =
    let os : List ℕ = octets_of c.args.words.now in
    let part : List ℕ = drop c.args.at (take c.args.end os) in
    let size : length part ≡ c.args.end - c.args.at = length_part os c.args.at c.args.end c.requires.there in
    let some : 0 < length part = omega (arith, size, c.requires.more) in
    let four : List ℕ = take c.min.result (c.octet.result ∷ c.octet-2.result ∷ c.octet-3.result ∷ c.octet-4.result ∷ []) in
    let same : four ≡ take (min (c.args.end - c.args.at) 4) part = rw (c.min.ensures, c.octet.ensures, c.octet-2.ensures, c.octet-3.ensures, c.octet-4.ensures) (window os c.args.at c.args.end c.requires.there) in
    λ zero text. no_character part (min (c.args.end - c.args.at) 4) (ap (λ n. min n 4) (sym size)) some (λ n positive whole. c.whole_characters.ensures.none zero n positive (subst (λ l. IsUtf8 (take n l)) (sym same) whole)) text

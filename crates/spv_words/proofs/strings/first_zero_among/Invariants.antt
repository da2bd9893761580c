use Rattle.std.proofs.Common.{◌≡◌, ◌==◌, drop}
use Rattle.std.specs.List.{position, position_from}
use Rattle.spv_words.specs.Words.{octets_of}
use Rattle.spv_words.proofs.strings.first_zero_among.Given as goal

abbrev pub invariant-loop-k : goal.invariant-loop-k
invariant-loop-k l = position_from (λ b. b == 0) l.k (drop l.k (octets_of l.words)) ≡ position (λ b. b == 0) (octets_of l.words)

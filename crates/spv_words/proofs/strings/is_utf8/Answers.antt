use Rattle.std.proofs.Common.{ℕ, List, take, arith}
use Rattle.spv_words.specs.Words.{octets_of}
use Rattle.spv_words.proofs.Characters.{length_whole, text_more, rest_more}
use Rattle.spv_words.proofs.strings.is_utf8.Goals as goal

pub loop-at-preserved : goal.loop-at-preserved
loop-at-preserved c =
    let whole : List ℕ = take c.args.end (octets_of c.args.words.now) in
    let size = length_whole (octets_of c.args.words.now) c.args.end c.requires.there in
    let within = c.characters_at-more.ensures.within in
    record {
      within = omega (arith, within);
      front = text_more whole c.loop-at.at c.characters_at-more.result (omega (arith, size, within)) c.loop-at.invariant.front c.characters_at-more.ensures.whole;
      rest = λ text. rest_more whole c.loop-at.at c.characters_at-more.result (omega (arith, size, within)) (c.loop-at.invariant.rest text) c.characters_at-more.ensures.whole;
    }

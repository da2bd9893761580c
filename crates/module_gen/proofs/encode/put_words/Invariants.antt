use Rattle.std.proofs.Common.{◌≡◌, ◌++◌, take}
use Rattle.spv_words.specs.Words.{octets_of}
use Rattle.module_gen.proofs.encode.put_words.Given as goal

abbrev pub invariant-loop-word : goal.invariant-loop-word
invariant-loop-word l = l.bytes.items ≡ l.initial.bytes.items ++ octets_of (take l.word-index l.words)

use Rattle.std.proofs.Common.{◌≡◌, ◌++◌, drop}
use Rattle.spv_types.specs.View.{value_of}
use Rattle.value_words.specs.Words.{words_of_all}
use Rattle.value_ops.proofs.Values.{value_size, values_size, plain}
use Rattle.value_ops.proofs.words.+writing.Given as goal

abbrev pub decreases-add_words : goal.decreases-add_words
decreases-add_words l = value_size (value_of l.value.now)

abbrev pub decreases-add_all_words : goal.decreases-add_all_words
decreases-add_all_words l = values_size (plain l.values.now)

abbrev pub invariant-add_all_words-loop-value : goal.invariant-add_all_words-loop-value
invariant-add_all_words-loop-value l = l.words.items ++ words_of_all (plain (drop l.value-index l.values)) ≡ l.initial.words.items ++ words_of_all (plain l.values)

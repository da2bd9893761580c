use Rattle.std.proofs.Common.{◌≡◌, map, take}
use Rattle.spv_types.specs.View.{value_of}
use Rattle.value_words.specs.Words.{elem_from}
use Rattle.value_ops.proofs.words.elems_from.Given as goal

abbrev pub invariant-loop-word : goal.invariant-loop-word
invariant-loop-word l = map value_of l.values.items ≡ map (elem_from l.elem) (take l.word-index l.words)

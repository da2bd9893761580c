use Rattle.std.proofs.Common.{◌≡◌, ◌++◌, string_bytes}
use Rattle.std.specs.List.{flat_map, range_with_len}
use Rattle.group_sched.specs.Stores.{words_in}
use Rattle.run_lines.specs.Lines.{word_text}
use Rattle.run_lines.proofs.lines.push_words.Given as goal

abbrev pub invariant-loop-k : goal.invariant-loop-k
invariant-loop-k l = string_bytes l.text ≡ string_bytes l.initial.text ++ flat_map (word_text (words_in l.store) l.row) (range_with_len 0 l.k)

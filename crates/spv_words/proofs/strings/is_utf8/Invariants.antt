use Rattle.std.proofs.Common.{◌≤◌, ◌-◌, take, drop}
use Rattle.std.specs.Str.{IsUtf8}
use Rattle.spv_words.specs.Words.{octets_of}
use Rattle.spv_words.proofs.strings.is_utf8.Given as goal

abbrev pub invariant-loop-at : goal.invariant-loop-at
invariant-loop-at l = record {
  within : l.at ≤ l.end;
  front : IsUtf8 (take l.at (take l.end (octets_of l.words)));
  rest : IsUtf8 (take l.end (octets_of l.words)) → IsUtf8 (drop l.at (take l.end (octets_of l.words)));
}

abbrev pub decreases-loop-at : goal.decreases-loop-at
decreases-loop-at l = l.end - l.at

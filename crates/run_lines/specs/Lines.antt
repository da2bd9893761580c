-- The lines of a run: one for each buffer of its case, one that says how many events there were, and one that says how it ended.
use Rattle.std.specs.Prelude.{◌≡◌, ℕ, ◌*◌, List, ◌++◌, codes, length, map}
use Rattle.std.specs.List.{flat_map, range_with_len}
use Rattle.std.specs.List.Sorted.{IsPermutation, IsSorted}
use Rattle.std.specs.Ordering.{nat_cmp, ordering_then}
use Rattle.std.specs.declared.cmp.Ordering.{Ordering}
use Rattle.std.specs.Fmt.{decimal}
use Rattle.traces.specs.Events.{buffer}
use Rattle.dispatch_semantics.specs.Store.{Store, found_at}
use Rattle.group_items.specs.declared.schedule.End.{End}
use Rattle.group_items.specs.declared.schedule.End.TheVariants.{Ended, Waiting, Undefined, Cut}
use Rattle.dispatch_case.specs.Cases.{Buffer}

-- a buffer by its set and its binding, and how many words it has
abbrev pub Row : Type 0
Row = ℕ × ℕ × ℕ

abbrev pub row_of : Buffer → Row
row_of b = (b.0, b.1, length b.2)

-- by sets, and in a set by bindings
abbrev pub row_order : Row → Row → Ordering
row_order a b = ordering_then (nat_cmp a.0 b.0) (nat_cmp a.1 b.1)

-- each of the buffers once, in order
pub record AreInOrder (bs : List Buffer) (rows : List Row) : Type 0 where
  pub same : IsPermutation (map row_of bs) rows
  pub sorted : IsSorted row_order rows

-- a blank and word k of a buffer, which stands at its byte 4 k
abbrev pub word_text : Store → Row → ℕ → List ℕ
word_text store r k = codes " " ++ decimal (found_at store 0 (buffer r.0 r.1 (4 * k)))

abbrev pub words_text : Store → Row → List ℕ
words_text store r = flat_map (word_text store r) (range_with_len 0 r.2)

abbrev pub row_name : Row → List ℕ
row_name r = decimal r.0 ++ (codes "." ++ (decimal r.1 ++ codes ":"))

abbrev pub row_line : Store → Row → List ℕ
row_line store r = row_name r ++ (words_text store r ++ codes "\n")

abbrev pub end_line : End → List ℕ
end_line Ended = codes "ended\n"
end_line Waiting = codes "waiting\n"
end_line (Undefined i) = codes "undefined " ++ (decimal i ++ codes "\n")
end_line (Cut i) = codes "cut " ++ (decimal i ++ codes "\n")

abbrev pub last_lines : ℕ → End → List ℕ
last_lines count end = codes "events " ++ (decimal count ++ (codes "\n" ++ end_line end))

-- the lines of these buffers, as the memory has them, of so many events and of the end
pub record AreLines (bs : List Buffer) (store : Store) (count : ℕ) (end : End) (text : List ℕ) : Type 0 where
  pub rows : List Row
  pub order : AreInOrder bs rows
  pub is : text ≡ flat_map (row_line store) rows ++ last_lines count end

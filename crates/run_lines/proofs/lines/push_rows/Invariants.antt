use Rattle.std.proofs.Common.{◌≡◌, ◌++◌, drop, string_bytes}
use Rattle.std.specs.List.{flat_map}
use Rattle.group_sched.specs.Stores.{words_in}
use Rattle.run_lines.specs.Lines.{row_line}
use Rattle.run_lines.proofs.lines.push_rows.Given as goal

abbrev pub invariant-loop-row : goal.invariant-loop-row
invariant-loop-row l =
    string_bytes l.text ++ flat_map (row_line (words_in l.store)) (drop l.row-index l.rows) ≡ string_bytes l.initial.text ++ flat_map (row_line (words_in l.store)) l.rows

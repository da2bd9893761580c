use Rattle.std.proofs.Common.{◌≡◌, take, map}
use Rattle.dispatch_case.specs.Cases.{buffer_view}
use Rattle.run_lines.specs.Lines.{row_of}
use Rattle.run_lines.proofs.rows.rows_in_order.Given as goal

abbrev pub invariant-loop-buffer : goal.invariant-loop-buffer
invariant-loop-buffer l = l.rows.items ≡ map row_of (map buffer_view (take l.buffer-index l.buffers))

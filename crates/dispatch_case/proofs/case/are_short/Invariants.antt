use Rattle.std.proofs.Common.{◌≡◌, drop, map}
use Rattle.std.specs.List.{list_all}
use Rattle.dispatch_case.specs.Cases.{Buffer, buffer_view, is_short}
use Rattle.dispatch_case.proofs.case.are_short.Given as goal

abbrev pub invariant-loop-buffer : goal.invariant-loop-buffer
invariant-loop-buffer l = list_all (λ (b : Buffer). is_short b.2) (map buffer_view (drop l.buffer-index l.buffers)) ≡ list_all (λ (b : Buffer). is_short b.2) (map buffer_view l.buffers)

use Rattle.std.proofs.Common.{◌≡◌, ℕ, false, take, map}
use Rattle.std.specs.BTreeSet.{contains}
use Rattle.dispatch_case.specs.Cases.{buffer_view, buffers_repeat}
use Rattle.dispatch_case.proofs.Repeats.{has_at}
use Rattle.dispatch_case.proofs.Pairs.{pair_cmp}
use Rattle.dispatch_case.proofs.case.repeat.Given as goal

abbrev pub invariant-loop-buffer : goal.invariant-loop-buffer
invariant-loop-buffer l = record {
  none : buffers_repeat (take l.buffer-index (map buffer_view l.buffers)) ≡ false;
  seen : (set binding : ℕ) → contains pair_cmp l.seen (set, binding) ≡ has_at (take l.buffer-index (map buffer_view l.buffers)) set binding;
}

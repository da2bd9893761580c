use Rattle.std.proofs.Common.{◌≡◌, drop, map}
use Rattle.dispatch_case.specs.Cases.{buffer_view}
use Rattle.group_sched.specs.Stores.{words_in, rooms_in}
use Rattle.group_sched.specs.Start.{with_buffers}
use Rattle.group_sched.proofs.start.put_buffers.Given as goal

abbrev pub invariant-loop-buffer : goal.invariant-loop-buffer
invariant-loop-buffer l = record {
  rooms : rooms_in l.store ≡ rooms_in l.initial.store;
  put : with_buffers (map buffer_view (drop l.buffer-index l.buffers)) (words_in l.store) ≡ with_buffers (map buffer_view l.buffers) (words_in l.initial.store);
}

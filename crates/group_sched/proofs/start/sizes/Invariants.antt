use Rattle.std.proofs.Common.{◌≡◌, take, map}
use Rattle.dispatch_case.specs.Cases.{buffer_view}
use Rattle.group_sched.specs.Start.{size_of}
use Rattle.group_sched.proofs.start.sizes.Given as goal

abbrev pub invariant-loop-buffer : goal.invariant-loop-buffer
invariant-loop-buffer l = l.sizes.items ≡ map size_of (map buffer_view (take l.buffer-index l.buffers))

use Rattle.std.proofs.Common.{◌<◌, length, get_or}
use Rattle.std.specs.BTreeSet.{contains}
use Rattle.std.specs.Ordering.{nat_cmp}
use Rattle.call_order.proofs.Release.{released_none, released_ready, released_waiting, some_left}
use Rattle.call_order.proofs.queue.release.Goals as goal
use Rattle.call_order.proofs.queue.release.Goals.{then-left-eq0+in_ok-insert, else-left-eq0}

pub overflow_sub-left : goal.overflow_sub-left
overflow_sub-left c =
    some_left c.args.callers.now c.args.missing.now c.loop-caller.missing (contains nat_cmp c.args.ready.now) (contains nat_cmp c.loop-caller.ready) c.loop-caller.caller-index c.loop-caller-test.true c.requires.enough c.loop-caller.invariant

pub loop-caller-init : goal.loop-caller-init
loop-caller-init c = released_none c.args.missing.now (contains nat_cmp c.args.ready.now)

pub loop-caller-preserved : goal.loop-caller-preserved
loop-caller-preserved c =
    let fits : get_or c.args.callers.now c.loop-caller.caller-index 0 < length c.loop-caller.missing = rw c.loop-caller.auto.missing (c.requires.inside c.loop-caller.caller-index 0 c.loop-caller-test.true) in
    elim c.if-left-eq0.branch [
      | then-left-eq0+in_ok-insert w ↦
          rw w.ready-is (released_ready c.args.callers.now c.args.missing.now c.loop-caller.missing (contains nat_cmp c.args.ready.now) (contains nat_cmp c.loop-caller.ready) (contains nat_cmp w.insert.new.self) c.loop-caller.caller-index c.loop-caller-test.true fits c.requires.enough c.loop-caller.invariant w.if-left-eq0.true w.in_ok-insert.ensures.updates.0)
      | else-left-eq0 w ↦
          rw w.ready-is (released_waiting c.args.callers.now c.args.missing.now c.loop-caller.missing (contains nat_cmp c.args.ready.now) (contains nat_cmp c.loop-caller.ready) c.loop-caller.caller-index c.loop-caller-test.true fits c.requires.enough c.loop-caller.invariant w.if-left-eq0.false)
    ]

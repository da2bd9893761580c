use Rattle.std.proofs.Common.{◌<◌, arith, get_or, length}
use Rattle.std.proofs.lemmas.List.{get_or_read}
use Rattle.call_order.proofs.CallCounts.{counts_more, few_calls}
use Rattle.call_order.proofs.queue.call_counts.Goals as goal

pub overflow_add-index_mut : goal.overflow_add-index_mut
overflow_add-index_mut c =
    let call = get_or c.args.calls.now c.loop-call.call-index (record { caller = 0; callee = 0; at = 0 }) in
    let below = (c.requires c.loop-call.call-index (record { caller = 0; callee = 0; at = 0 }) c.loop-call-test.true).0 in
    let inside : call.caller < length c.loop-call.counts.items = omega (arith, below, c.loop-call.invariant.size) in
    let was = get_or_read c.loop-call.counts.items call.caller c.index_mut.result.now inside c.index_mut.ensures.value 0 in
    let few = few_calls c.args.calls.now c.loop-call.call-index call.caller (omega arith) in
    let is = c.loop-call.invariant.counts_are call.caller below in
    omega (arith, few, is, was)

pub loop-call-preserved : goal.loop-call-preserved
loop-call-preserved c =
    let call = get_or c.args.calls.now c.loop-call.call-index (record { caller = 0; callee = 0; at = 0 }) in
    let below = (c.requires c.loop-call.call-index (record { caller = 0; callee = 0; at = 0 }) c.loop-call-test.true).0 in
    let inside : call.caller < length c.loop-call.counts.items = omega (arith, below, c.loop-call.invariant.size) in
    let was = get_or_read c.loop-call.counts.items call.caller c.index_mut.result.now inside c.index_mut.ensures.value 0 in
    counts_more c.args.calls.now c.args.count c.loop-call.call-index c.loop-call.counts.items (record { caller = 0; callee = 0; at = 0 }) c.index_mut.result.now c.loop-call-test.true below c.loop-call.invariant was

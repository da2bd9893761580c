use Rattle.std.proofs.Common.{◌∙◌, ap, Option, unwrap_or}
use Rattle.call_order.specs.declared.graph.Call.{Call}
use Rattle.call_order.proofs.Trail.{trail_step}
use Rattle.call_order.proofs.cycle.closing_call.Goals as goal

pub loop-seen-preserved : goal.loop-seen-preserved
loop-seen-preserved c =
    trail_step c.args.waits.now c.loop-seen.seen.items c.loop-seen.call c.unwrap_or-call.result c.requires.linked c.loop-seen.invariant
    (c.unwrap_or-call.ensures ∙ ap (λ (o : Option Call). unwrap_or o c.loop-seen.call) c.wait.ensures)

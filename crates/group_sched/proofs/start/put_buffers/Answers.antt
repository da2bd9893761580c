use Rattle.std.proofs.Common.{◌≤◌, sym, subst, length}
use Rattle.dispatch_case.specs.Cases.{most_numbers}
use Rattle.group_sched.proofs.Beginning.{short_here}
use Rattle.group_sched.proofs.start.put_buffers.Goals as goal

pub put_words-requires-clause-few : goal.put_words-requires-clause-few
put_words-requires-clause-few c =
    subst (λ ws. length ws ≤ most_numbers) (sym c.deref.ensures.value) (short_here c.args.buffers.now c.loop-buffer.buffer-index c.buffer-item.result c.loop-buffer-test.true c.buffer-item.is c.requires.few)

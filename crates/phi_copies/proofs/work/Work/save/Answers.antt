use Rattle.std.proofs.Common.{rules, arith, ◌<◌, ◌^◌, length, reverse}
use Rattle.phi_copies.specs.Sequence.{saves}
use Rattle.phi_copies.proofs.Few.{few_saves}
use Rattle.std.specs.BTreeMap.{get}
use Rattle.std.specs.BTreeSet.{contains}
use Rattle.std.specs.Ordering.{nat_cmp}
use Rattle.list_law.proofs.Numbers.{not_past}
use Rattle.phi_copies.proofs.Saved.{state_save}
use Rattle.phi_copies.proofs.Started.{reverse_push, none_in}
use Rattle.phi_copies.proofs.work.Work.save.Goals as goal

pub returns-clause-work : goal.returns-clause-work
returns-clause-work c =
    let w = c.args.self.now in
    record {
      are = c.requires.work.are;
      few = c.requires.work.few;
      state = rw (c.in_ok-push.ensures.items, reverse_push)
          (state_save c.args.pairs.now (reverse w.moves.items) w.counts.items (contains nat_cmp w.left) (contains nat_cmp w.ready) (get nat_cmp w.spares) w.saves c.args.first (contains nat_cmp c.insert-2.new.self) (get nat_cmp c.insert.new.self)
          c.requires.own c.requires.work.state
          (none_in w.ready.keys c.requires.stuck)
          c.requires.left
          (λ j l. not_past c.args.first j (c.requires.least j l))
          c.in_ok-insert-2.ensures.updates.0
          c.in_ok-insert.ensures.updates.0);
    }

-- fewer pairs have spares than there are targets
pub overflow_cast-spare : goal.overflow_cast-spare
overflow_cast-spare c =
    let w = c.args.self.now in
    let state = c.requires.work.state in
    let left = state.left_sound c.args.first c.requires.left in
    let less : saves (reverse w.moves.items) < length c.args.pairs.now =
    few_saves c.args.pairs.now (reverse w.moves.items) c.args.first c.requires.own state.next (λ j r. none_in w.ready.keys c.requires.stuck j (state.ready_complete j r)) left in
    let small : w.saves < 2 ^ 32 = omega (arith, less, state.number, c.requires.work.few) in
    search (rules, small)

use Rattle.std.proofs.Common.{◌≡◌, ◌≤◌, ◌∙◌, List, ap, sym, subst, length, map, take_all, arith}
use Rattle.std.specs.List.Sorted.{IsPermutation}
use Rattle.dispatch_case.specs.Cases.{buffer_view, most_numbers}
use Rattle.group_sched.proofs.Beginning.{short_here}
use Rattle.run_lines.specs.Lines.{Row, row_of}
use Rattle.run_lines.proofs.Order.{first_order}
use Rattle.run_lines.proofs.rows.rows_in_order.Goals as goal

pub count-requires : goal.count-requires
count-requires c =
    subst (λ ws. length ws ≤ most_numbers) (sym c.deref.ensures.value) (short_here c.args.buffers.now c.loop-buffer.buffer-index c.buffer-item.result c.loop-buffer-test.true c.buffer-item.is c.requires)

pub returns : goal.returns
returns c =
    let all : c.loop-buffer.rows.items ≡ map row_of (map buffer_view c.args.buffers.now) =
    c.loop-buffer.invariant ∙ ap (λ bs. map row_of (map buffer_view bs)) (take_all c.loop-buffer.buffer-index c.args.buffers.now (omega (arith, c.loop-buffer-test.false))) in
    record {
      same = subst (λ (rows : List Row). IsPermutation rows c.sort_unstable.new.self.items) all c.sort_unstable.ensures.permutation;
      sorted = λ k d low high. first_order _ _ (c.sort_unstable.ensures.sorted k d low high);
    }

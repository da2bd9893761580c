use Rattle.std.proofs.Common.{◌≡◌, ◌∙◌, ◌<◌, ◌≤◌, sym, ap, subst, arith, true, false, length, map}
use Rattle.std.proofs.lemmas.List.{length-map}
use Rattle.std.proofs.Math.ListN.{get_or-map}
use Rattle.std.specs.BTreeSet.{contains}
use Rattle.dispatch_case.specs.Cases.{Buffer, buffer_view}
use Rattle.dispatch_case.proofs.Repeats.{none_repeats}
use Rattle.dispatch_case.proofs.Pairs.{pair_cmp, set_more, apart_more, twice_at}
use Rattle.dispatch_case.proofs.case.repeat.Goals as goal

pub returns-then-not-branch : goal.returns-then-not-branch
returns-then-not-branch c =
    let xs = c.args.buffers.now in
    let i = c.loop-buffer.buffer-index in
    let b : Buffer = buffer_view c.buffer-item.result in
    let seen : contains pair_cmp c.loop-buffer.seen (b.0, b.1) ≡ true = grind (arith, c.in_ok-insert.ensures.added, c.if-not-branch.true) in
    sym (twice_at (map buffer_view xs) i b (subst (λ n. i < n) (sym (length-map xs buffer_view)) c.loop-buffer-test.true) (ap buffer_view c.buffer-item.is ∙ sym (get_or-map buffer_view xs i c.buffer-item.result))
    (sym (c.loop-buffer.invariant.seen b.0 b.1) ∙ seen))

pub loop-buffer-preserved : goal.loop-buffer-preserved
loop-buffer-preserved c =
    let xs = c.args.buffers.now in
    let i = c.loop-buffer.buffer-index in
    let b : Buffer = buffer_view c.buffer-item.result in
    let new : contains pair_cmp c.loop-buffer.seen (b.0, b.1) ≡ false = grind (arith, c.in_ok-insert.ensures.added, c.if-not-branch.false) in
    let inside = subst (λ n. i < n) (sym (length-map xs buffer_view)) c.loop-buffer-test.true in
    let is = ap buffer_view c.buffer-item.is ∙ sym (get_or-map buffer_view xs i c.buffer-item.result) in
    record {
      none = apart_more (map buffer_view xs) i b inside is c.loop-buffer.invariant.none (sym (c.loop-buffer.invariant.seen b.0 b.1) ∙ new);
      seen = λ set binding. set_more (map buffer_view xs) i b inside is set binding (contains pair_cmp c.insert.new.self (set, binding)) (contains pair_cmp c.loop-buffer.seen (set, binding)) (c.in_ok-insert.ensures.updates.0 (set, binding)) (c.loop-buffer.invariant.seen set binding);
    }

pub returns : goal.returns
returns c =
    let xs = c.args.buffers.now in
    let i = c.loop-buffer.buffer-index in
    let all : length xs ≤ i = omega (arith, c.loop-buffer-test.false) in
    sym (none_repeats (map buffer_view xs) i (subst (λ n. n ≤ i) (sym (length-map xs buffer_view)) all) c.loop-buffer.invariant.none)

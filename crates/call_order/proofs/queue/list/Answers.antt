use Rattle.std.proofs.Common.{◌≡◌, ◌<◌, ◌∙◌, true, length, ap, arith, Vec, ℕ}
use Rattle.std.specs.declared.alloc.Global.{Global}
use Rattle.std.specs.BTreeSet.{contains}
use Rattle.std.specs.Ordering.{nat_cmp}
use Rattle.std.specs.Vec.{with_items}
use Rattle.std.proofs.lemmas.List.{with_items_is}
use Rattle.list_law.proofs.Numbers.{not_past}
use Rattle.call_order.specs.Graph.{callers}
use Rattle.call_order.proofs.Steps.{callers_below, enough_calls, state_push, caller_below}
use Rattle.call_order.proofs.Unlisted.{unlisted_push}
use Rattle.call_order.proofs.queue.list.Goals as goal

pub release-requires-clause-inside : goal.release-requires-clause-inside
release-requires-clause-inside c =
    let here : contains nat_cmp c.loop-next.ready c.in-Some.next ≡ true = c.in-Some.ensures.member in
    let inside : c.in-Some.next < length c.args.callers.now = (c.loop-next.invariant.sound c.in-Some.next here).0 in
    let who : c.deref-in-Some.result.now ≡ callers c.args.calls.now c.in-Some.next = c.deref-in-Some.ensures.value ∙ (ap (λ (v : Vec ℕ Global). v.items) c.index-callers-next.is ∙ c.requires.callers.each c.in-Some.next c.index-callers-next.result inside) in
    rw (who, c.deref_mut.ensures.value, c.loop-next.invariant.size) (callers_below c.args.calls.now (length c.args.callers.now) c.in-Some.next c.requires.below)

pub release-requires-clause-enough : goal.release-requires-clause-enough
release-requires-clause-enough c =
    let here : contains nat_cmp c.loop-next.ready c.in-Some.next ≡ true = c.in-Some.ensures.member in
    let inside : c.in-Some.next < length c.args.callers.now = (c.loop-next.invariant.sound c.in-Some.next here).0 in
    let who : c.deref-in-Some.result.now ≡ callers c.args.calls.now c.in-Some.next = c.deref-in-Some.ensures.value ∙ (ap (λ (v : Vec ℕ Global). v.items) c.index-callers-next.is ∙ c.requires.callers.each c.in-Some.next c.index-callers-next.result inside) in
    λ p. rw (who, c.deref_mut.ensures.value) (enough_calls c.args.calls.now (length c.args.callers.now) c.loop-next.order.items c.loop-next.missing.items (contains nat_cmp c.loop-next.ready) c.in-Some.next p c.requires.below c.loop-next.invariant here)

pub loop-next-smaller : goal.loop-next-smaller
loop-next-smaller c =
    let here : contains nat_cmp c.loop-next.ready c.in-Some.next ≡ true = c.in-Some.ensures.member in
    let known = c.loop-next.invariant.sound c.in-Some.next here in
    let fewer = unlisted_push (length c.args.callers.now) c.loop-next.order.items c.in-Some.next known.0 known.1 in
    rw c.in_ok-push.ensures.items (omega (arith, fewer))

pub loop-next-preserved : goal.loop-next-preserved
loop-next-preserved c =
    let here : contains nat_cmp c.loop-next.ready c.in-Some.next ≡ true = c.in-Some.ensures.member in
    let inside : c.in-Some.next < length c.args.callers.now = (c.loop-next.invariant.sound c.in-Some.next here).0 in
    let who : c.deref-in-Some.result.now ≡ callers c.args.calls.now c.in-Some.next = c.deref-in-Some.ensures.value ∙ (ap (λ (v : Vec ℕ Global). v.items) c.index-callers-next.is ∙ c.requires.callers.each c.in-Some.next c.index-callers-next.result inside) in
    let released = rw (who, c.deref_mut.ensures.value) at c.in_ok-release.ensures in
    let size : length c.release.new.missing ≡ c.loop-next.missing.len = c.in_ok-release.ensures.size ∙ c.deref_mut.ensures.len in
    let items : (with_items c.loop-next.missing c.release.new.missing).items ≡ c.release.new.missing = with_items_is c.loop-next.missing c.release.new.missing size in
    rw (c.in_ok-push.ensures.items, items)
    (state_push c.args.calls.now (length c.args.callers.now) c.loop-next.order.items c.loop-next.missing.items (contains nat_cmp c.loop-next.ready) c.in-Some.next (contains nat_cmp c.pop_first.new.self) c.release.new.missing (contains nat_cmp c.release.new.ready)
    c.loop-next.invariant here
    (λ p h. not_past c.in-Some.next p (c.in-Some.ensures.least p h))
    c.in-Some.ensures.updates.0
    (λ p. caller_below c.args.calls.now (length c.args.callers.now) c.in-Some.next p c.requires.below)
    released)

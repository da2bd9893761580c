use Rattle.std.proofs.Common.{◌≡◌, ◌<◌, ◌-◌, ◌∙◌, length, get_or, ap, refl, arith, Vec, ℕ}
use Rattle.std.specs.declared.alloc.Global.{Global}
use Rattle.std.proofs.lemmas.List.{get_or_read}
use Rattle.call_order.specs.Graph.{callers, Edge}
use Rattle.call_order.specs.Depths.{IsDepth, IsDeepest}
use Rattle.call_order.proofs.Steps.{callers_below}
use Rattle.call_order.proofs.Deep.{depth_of, depths_more, depths_all, too_deep}
use Rattle.call_order.proofs.reach.depths.Goals as goal

pub deepest-requires-clause-inside : goal.deepest-requires-clause-inside
deepest-requires-clause-inside c =
    let place = get_or c.args.order.now (c.loop-k.k - 1) 0 in
    let inside : place < length c.args.callers.now = (c.requires.listing (c.loop-k.k - 1) (omega arith)).ready.below in
    let who : c.deref.result.now ≡ callers c.args.calls.now place = c.deref.ensures.value ∙ (ap (λ (v : Vec ℕ Global). v.items) c.index-callers-function.is ∙ c.requires.callers.each place c.index-callers-function.result inside) in
    rw (who, c.deref-in-loop-k.ensures.value, c.loop-k.invariant.size) (callers_below c.args.calls.now (length c.args.callers.now) place c.requires.below)

pub returns-then-depth-number-clause-refused : goal.returns-then-depth-number-clause-refused
returns-then-depth-number-clause-refused c =
    let place = get_or c.args.order.now (c.loop-k.k - 1) 0 in
    let inside : place < length c.args.callers.now = (c.requires.listing (c.loop-k.k - 1) (omega arith)).ready.below in
    let who : c.deref.result.now ≡ callers c.args.calls.now place = c.deref.ensures.value ∙ (ap (λ (v : Vec ℕ Global). v.items) c.index-callers-function.is ∙ c.requires.callers.each place c.index-callers-function.result inside) in
    let own : c.index.result.now ≡ get_or c.loop-k.depths.items place 0 = get_or_read c.loop-k.depths.items place c.index.result.now (omega (arith, inside, c.loop-k.invariant.size)) c.index.ensures 0 in
    let deepest : IsDeepest (callers c.args.calls.now place) c.loop-k.depths.items c.deepest.result = rw (who, c.deref-in-loop-k.ensures.value) at c.deepest.ensures in
    let depth : IsDepth (Edge c.args.calls.now) c.args.entry place c.max-depth.result = depth_of c.args.calls.now (length c.args.callers.now) c.args.entry c.args.order.now c.loop-k.k c.loop-k.depths.items c.deepest.result c.max-depth.result c.requires.listing c.requires.listed c.requires.below (omega arith) (omega arith) c.loop-k.invariant deepest (rw (← own) c.max-depth.ensures) in
    (refl, too_deep c.args.calls.now c.args.entry place c.max-depth.result depth (omega arith))

pub loop-k-preserved : goal.loop-k-preserved
loop-k-preserved c =
    let place = get_or c.args.order.now (c.loop-k.k - 1) 0 in
    let inside : place < length c.args.callers.now = (c.requires.listing (c.loop-k.k - 1) (omega arith)).ready.below in
    let who : c.deref.result.now ≡ callers c.args.calls.now place = c.deref.ensures.value ∙ (ap (λ (v : Vec ℕ Global). v.items) c.index-callers-function.is ∙ c.requires.callers.each place c.index-callers-function.result inside) in
    let own : c.index.result.now ≡ get_or c.loop-k.depths.items place 0 = get_or_read c.loop-k.depths.items place c.index.result.now (omega (arith, inside, c.loop-k.invariant.size)) c.index.ensures 0 in
    let deepest : IsDeepest (callers c.args.calls.now place) c.loop-k.depths.items c.deepest.result = rw (who, c.deref-in-loop-k.ensures.value) at c.deepest.ensures in
    let depth : IsDepth (Edge c.args.calls.now) c.args.entry place c.max-depth.result = depth_of c.args.calls.now (length c.args.callers.now) c.args.entry c.args.order.now c.loop-k.k c.loop-k.depths.items c.deepest.result c.max-depth.result c.requires.listing c.requires.listed c.requires.below (omega arith) (omega arith) c.loop-k.invariant deepest (rw (← own) c.max-depth.ensures) in
    depths_more c.args.calls.now (length c.args.callers.now) c.args.entry c.args.order.now c.loop-k.k c.loop-k.depths.items c.max-depth.result c.requires.listing (omega arith) (omega arith) c.loop-k.invariant depth (omega arith)

pub returns-clause-depths : goal.returns-clause-depths
returns-clause-depths c =
    let last : c.loop-k.k ≡ 0 = omega arith in
    depths_all c.args.calls.now (length c.args.callers.now) c.args.entry c.args.order.now c.loop-k.depths.items c.requires.listed (rw last at c.loop-k.invariant)

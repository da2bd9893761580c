use Rattle.std.proofs.Common.{◌≡◌, ◌∙◌, length, map, filter, ap}
use Rattle.std.proofs.lemmas.Result.{err_from_is_err_and}
use Rattle.profile_rules.specs.Calls.{place, numbers}
use Rattle.call_order.specs.Graph.{number, calls_of}
use Rattle.call_order.specs.Depths.{is_reached}
use Rattle.call_order.proofs.Numbers.{number_place}
use Rattle.call_order.proofs.Transfer.{IsClosed, all_below, acyclic, within, cycle_right, depth_right}
use Rattle.call_order.proofs.Ordered.{IsKnown, call_order}
use Rattle.call_order.proofs.function_order.order.Goals as goal

pub callers_of-requires : goal.callers_of-requires
callers_of-requires c =
    let fs = c.args.module.now.functions in
    let calls : c.deref.result.now ≡ calls_of fs = c.deref.ensures.value ∙ c.in_ok-calls.ensures ∙ ap calls_of c.functions-functions.ensures in
    rw (calls, c.functions-functions.ensures) (all_below fs (record { own = c.requires.own_ids; callees = c.requires.callees }))

pub whole_order-requires-clause-below : goal.whole_order-requires-clause-below
whole_order-requires-clause-below c =
    let fs = c.args.module.now.functions in
    let calls : c.deref-2.result.now ≡ calls_of fs = c.deref-2.ensures.value ∙ c.in_ok-calls.ensures ∙ ap calls_of c.functions-functions.ensures in
    rw (calls, c.deref-3.ensures.value, c.in_ok-callers.ensures.size, c.functions-functions.ensures) (all_below fs (record { own = c.requires.own_ids; callees = c.requires.callees }))

pub returns-in_err-all-clause-refused : goal.returns-in_err-all-clause-refused
returns-in_err-all-clause-refused c =
    let fs = c.args.module.now.functions in
    let calls : c.deref-2.result.now ≡ calls_of fs = c.deref-2.ensures.value ∙ c.in_ok-calls.ensures ∙ ap calls_of c.functions-functions.ensures in
    let p = err_from_is_err_and c.from_residual-in_err-all.result c.from_residual-in_err-all.ensures.1 in
    let cause = rw calls at c.in_err-all.ensures.refused in
    rw (p.1, p.2) (cycle_right fs c.args.entry.0 c.in_err-all.field-0.0 (record { own = c.requires.own_ids; callees = c.requires.callees }) cause)

pub depths-requires-clause-below : goal.depths-requires-clause-below
depths-requires-clause-below c =
    let fs = c.args.module.now.functions in
    let calls : c.deref-4.result.now ≡ calls_of fs = c.deref-4.ensures.value ∙ c.in_ok-calls.ensures ∙ ap calls_of c.functions-functions.ensures in
    rw (calls, c.deref-6.ensures.value, c.in_ok-callers.ensures.size, c.functions-functions.ensures) (all_below fs (record { own = c.requires.own_ids; callees = c.requires.callees }))

pub depths-requires-clause-entry : goal.depths-requires-clause-entry
depths-requires-clause-entry c =
    rw (c.place_of-start.ensures, c.in_ok-places.ensures, c.deref-6.ensures.value, c.in_ok-callers.ensures.size, c.functions-functions.ensures) (number_place c.args.module.now.functions c.args.entry.0 c.requires.own_ids c.requires.entry).0

pub returns-in_err-depths-clause-refused : goal.returns-in_err-depths-clause-refused
returns-in_err-depths-clause-refused c =
    let fs = c.args.module.now.functions in
    let closed : IsClosed fs = record { own = c.requires.own_ids; callees = c.requires.callees } in
    let calls : c.deref-4.result.now ≡ calls_of fs = c.deref-4.ensures.value ∙ c.in_ok-calls.ensures ∙ ap calls_of c.functions-functions.ensures in
    let calls_before : c.deref-2.result.now ≡ calls_of fs = c.deref-2.ensures.value ∙ c.in_ok-calls.ensures ∙ ap calls_of c.functions-functions.ensures in
    let size : length c.deref-3.result.now ≡ length fs = ap length c.deref-3.ensures.value ∙ c.in_ok-callers.ensures.size ∙ ap length c.functions-functions.ensures in
    let start : c.place_of-start.result ≡ place fs c.args.entry.0 = c.place_of-start.ensures ∙ ap (λ fs. place fs c.args.entry.0) c.in_ok-places.ensures in
    let whole = rw (calls_before, size) at c.in_ok-all.ensures.whole in
    let p = err_from_is_err_and c.from_residual-in_err-depths.result c.from_residual-in_err-depths.ensures.1 in
    let cause = rw (calls, start) at c.in_err-depths.ensures.refused in
    rw (p.1, p.2) (depth_right fs c.args.entry.0 c.in_err-depths.field-0.0 closed c.requires.entry (acyclic fs c.in_ok-all.all.items closed whole.listing whole.listed) cause)

pub returns-clause-order : goal.returns-clause-order
returns-clause-order c =
    let fs = c.args.module.now.functions in
    let closed : IsClosed fs = record { own = c.requires.own_ids; callees = c.requires.callees } in
    let calls_before : c.deref-2.result.now ≡ calls_of fs = c.deref-2.ensures.value ∙ c.in_ok-calls.ensures ∙ ap calls_of c.functions-functions.ensures in
    let size_before : length c.deref-3.result.now ≡ length fs = ap length c.deref-3.ensures.value ∙ c.in_ok-callers.ensures.size ∙ ap length c.functions-functions.ensures in
    let calls : c.deref-4.result.now ≡ calls_of fs = c.deref-4.ensures.value ∙ c.in_ok-calls.ensures ∙ ap calls_of c.functions-functions.ensures in
    let size : length c.deref-6.result.now ≡ length fs = ap length c.deref-6.ensures.value ∙ c.in_ok-callers.ensures.size ∙ ap length c.functions-functions.ensures in
    let start : c.place_of-start.result ≡ place fs c.args.entry.0 = c.place_of-start.ensures ∙ ap (λ fs. place fs c.args.entry.0) c.in_ok-places.ensures in
    let whole = rw (calls_before, size_before) at c.in_ok-all.ensures.whole in
    let depths_are = rw (calls, size, start) at c.in_ok-depths.ensures.depths in
    let ids : numbers c.in_ok-reached_ids.field-0.items ≡ map (number c.functions-functions.result.now) (filter (is_reached c.deref-8.result.now) c.deref-7.result.now) = c.in_ok-reached_ids.ensures in
    let known : IsKnown fs c.args.entry.0 c.in_ok-all.all.items c.in_ok-depths.depths.items = record { closed = closed; here = c.requires.entry; listing = whole.listing; listed = whole.listed; depths_are = depths_are } in
    rw (ids, c.functions-functions.ensures, c.deref-7.ensures.value, c.deref-8.ensures.value) (call_order fs c.args.entry.0 c.in_ok-all.all.items c.in_ok-depths.depths.items known)

pub returns-clause-acyclic : goal.returns-clause-acyclic
returns-clause-acyclic c =
    let fs = c.args.module.now.functions in
    let closed : IsClosed fs = record { own = c.requires.own_ids; callees = c.requires.callees } in
    let calls : c.deref-2.result.now ≡ calls_of fs = c.deref-2.ensures.value ∙ c.in_ok-calls.ensures ∙ ap calls_of c.functions-functions.ensures in
    let size : length c.deref-3.result.now ≡ length fs = ap length c.deref-3.ensures.value ∙ c.in_ok-callers.ensures.size ∙ ap length c.functions-functions.ensures in
    let whole = rw (calls, size) at c.in_ok-all.ensures.whole in
    acyclic fs c.in_ok-all.all.items closed whole.listing whole.listed

pub returns-clause-within : goal.returns-clause-within
returns-clause-within c =
    let fs = c.args.module.now.functions in
    let closed : IsClosed fs = record { own = c.requires.own_ids; callees = c.requires.callees } in
    let calls : c.deref-4.result.now ≡ calls_of fs = c.deref-4.ensures.value ∙ c.in_ok-calls.ensures ∙ ap calls_of c.functions-functions.ensures in
    let size : length c.deref-6.result.now ≡ length fs = ap length c.deref-6.ensures.value ∙ c.in_ok-callers.ensures.size ∙ ap length c.functions-functions.ensures in
    let start : c.place_of-start.result ≡ place fs c.args.entry.0 = c.place_of-start.ensures ∙ ap (λ fs. place fs c.args.entry.0) c.in_ok-places.ensures in
    let known = rw (calls, size, start) at c.in_ok-depths.ensures.depths in
    within fs c.args.entry.0 c.in_ok-depths.depths.items closed c.requires.entry known

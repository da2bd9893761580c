use Rattle.std.proofs.Common.{Option, ◌≡◌, ◌∙◌, ◌++◌, [], ◌∷◌, length, map, ap, sym, subst, arith, true}
use Rattle.std.proofs.lemmas.List.{append_assoc}
use Rattle.use_chains.specs.declared.slot.Slot.{Slot}
use Rattle.use_chains.specs.Links.{chain, is_in_chain}
use Rattle.hoist_plan.proofs.Walking.{at_first, a_step, left, slot_of, place_of}
use Rattle.hoist_plan.proofs.rows.list_mentions.Goals as goal

pub loop-at-init : goal.loop-at-init
loop-at-init g c =
    let all = ap (map place_of) (at_first c.args.uses.now c.args.id.0 c.walk-at.result c.requires c.walk-at.ensures.next) in
    (rw c.clear.ensures.items all, c.walk-at.ensures.there, c.walk-at.ensures.linked, (let sized = ap length all in omega (arith, sized, c.walk-at.ensures.steps)))

pub loop-at-preserved : goal.loop-at-preserved
loop-at-preserved g c =
    let has = subst (λ o. is_in_chain c.args.uses.now c.args.id.0 o ≡ true) c.in-Some.is c.loop-at.invariant.1 in
    let next = c.walk-at-in-Some.ensures.next in
    let step = a_step c.args.uses.now c.args.id.0 c.in-Some.slot c.place.result c.walk-at-in-Some.result c.requires has c.place.ensures.place next in
    let sized = ap length step in (
      rw c.in_ok-push.ensures.items (append_assoc c.loop-at.places.items (c.place.result ∷ []) (map place_of (left (slot_of c.walk-at-in-Some.result) (chain c.args.uses.now c.args.id.0))) ∙ (ap (λ ps. c.loop-at.places.items ++ ps) (sym step) ∙ rw c.in-Some.is at c.loop-at.invariant.0)),
      c.walk-at-in-Some.ensures.there,
      c.walk-at-in-Some.ensures.linked,
      (let before = rw c.in-Some.is at c.loop-at.invariant.3 in omega (arith, sized, before, c.place.ensures.steps, c.walk-at-in-Some.ensures.steps)),
    )

pub loop-at-smaller : goal.loop-at-smaller
loop-at-smaller g c =
    let has = subst (λ o. is_in_chain c.args.uses.now c.args.id.0 o ≡ true) c.in-Some.is c.loop-at.invariant.1 in
    let next = c.walk-at-in-Some.ensures.next in
    let step = a_step c.args.uses.now c.args.id.0 c.in-Some.slot c.place.result c.walk-at-in-Some.result c.requires has c.place.ensures.place next in
    let sized = ap length step in
    let before = ap (λ (o : Option Slot). length (map place_of (left (slot_of o) (chain c.args.uses.now c.args.id.0)))) c.in-Some.is in
    omega (arith, sized, before)

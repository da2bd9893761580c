use Rattle.std.proofs.Common.{◌∙◌, [], ◌∷◌, List, ap, arith, length, subst, sym}
use Rattle.structure_rules.specs.declared.graph.Part.{Part}
use Rattle.nest_place.specs.Spots.{list_at}
use Rattle.nest_place.specs.Rings.{IsRing}
use Rattle.nest_place.proofs.Ringed.{length-grown, first_empty, ring_read}
use Rattle.nest_place.proofs.rings.Rings.ring.Goals as goal

pub index-requires : goal.index-requires
index-requires c =
    let all = length-grown ([] ∷ []) c.self.inside.rings.items in
    let seen = ap length c.self.view_is in
    let h = c.requires in
    let some = c.if-place-eq0.false in
    omega (arith, all, seen, h, some)

pub returns-then-place-eq0 : goal.returns-then-place-eq0
returns-then-place-eq0 c =
    ap (λ ls. list_at ls c.args.place) (sym c.self.view_is) ∙ first_empty c.self.inside.rings.items c.args.place c.if-place-eq0.true

pub returns-else-place-eq0 : goal.returns-else-place-eq0
returns-else-place-eq0 c =
    let h = c.requires in
    let seen = ap length c.self.view_is in
    subst (λ (ls : List (List Part)). IsRing ls c.args.place c.index.result.now) c.self.view_is (ring_read c.self.inside.rings.items c.args.place c.index.result.now c.self.invariant (omega (arith, seen, h)) c.if-place-eq0.false c.index.ensures)

use Rattle.std.proofs.Common.{◌∙◌, List, ap, arith, length, take, drop, ◌-◌}
use Rattle.structure_rules.specs.declared.graph.Part.{Part}
use Rattle.nest_place.specs.Spots.{list_at}
use Rattle.nest_place.proofs.Sharing.{list_read}
use Rattle.nest_place.proofs.outer.Constructs.at.Goals as goal

pub returns : goal.returns
returns c =
    let s = c.index-own.result.now in
    let seen = ap length c.self.view_is in
    let h = c.requires in
    ap (λ (ps : List Part). take (s.end - s.start) (drop s.start ps)) c.deref.ensures.value
    ∙ (list_read c.self.inside.parts.items c.self.inside.bounds.items c.args.place s (omega (arith, seen, h)) c.index-own.ensures
    ∙ ap (λ (ls : List (List Part)). list_at ls c.args.place) c.self.view_is)

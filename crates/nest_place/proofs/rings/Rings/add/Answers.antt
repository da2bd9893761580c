use Rattle.std.proofs.Common.{◌∙◌, ◌++◌, [], ◌∷◌, List, ap, arith, length, subst, sym}
use Rattle.structure_rules.specs.declared.graph.Part.{Part}
use Rattle.nest_place.specs.declared.rings.Ring.{Ring}
use Rattle.nest_place.specs.Rings.{ring_list, grown, AreInward}
use Rattle.nest_place.proofs.Ringed.{length-grown, grown-push, inward-push}
use Rattle.nest_place.proofs.rings.Rings.add.Goals as goal

pub invariant_of-self-2 : goal.invariant_of-self-2
invariant_of-self-2 c =
    let rs = c.self.inside.rings.items in
    let r : Ring = record { part = c.args.part; around = c.args.around } in
    let all = length-grown ([] ∷ []) rs in
    let seen = ap length c.self.view_is in
    let h = c.requires in
    subst (AreInward 1) (sym c.in_ok-push.ensures.items) (inward-push 1 rs r c.self.invariant (omega (arith, all, seen, h)))

pub returns-clause-place : goal.returns-clause-place
returns-clause-place c =
    let all = length-grown ([] ∷ []) c.self.inside.rings.items in
    let seen = ap length c.self.view_is in
    omega (arith, all, seen, c.len.ensures, c.in_ok-push.ensures.len)

pub returns-clause-lists : goal.returns-clause-lists
returns-clause-lists c =
    let r : Ring = record { part = c.args.part; around = c.args.around } in
    ap (grown ([] ∷ [])) c.in_ok-push.ensures.items
    ∙ (grown-push ([] ∷ []) c.self.inside.rings.items r
    ∙ ap (λ (ls : List (List Part)). ls ++ ring_list ls r ∷ []) c.self.view_is)

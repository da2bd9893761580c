use Rattle.std.proofs.Common.{◌≡◌, List, IfOk, ap, subst, sym, ◌∙◌}
use Rattle.std.specs.Prelude.{flat_map}
use Rattle.access_paths.specs.declared.forms.Step.{Step}
use Rattle.access_paths.specs.declared.link.Link.{Link}
use Rattle.access_paths.specs.Links.{link_steps, way_in}
use Rattle.access_paths.proofs.Pushes.{IsStep, at_place, first_way}
use Rattle.access_paths.proofs.walk.steps_to.Goals as goal

pub returns-in-None : goal.returns-in-None
returns-in-None c =
    let gs = c.args.module.now.globals in
    let printed = c.args.printed in
    let ls : List Link = c.args.links.now in
    let k = c.args.place in
    let x : Link = c.index-links-place.result in
    let step : IsStep (way_in ls) k x = at_place ls k x c.index-links-place.is c.requires.back c.requires.within in
    let steps_are = ap (flat_map (link_steps gs printed)) c.from_ref.ensures.value ∙ sym (first_way gs printed k ls x step c.in-None.is) in
    subst (λ (t : List Step). IfOk c.steps_of.result (λ steps. steps.items ≡ t)) steps_are c.steps_of.ensures

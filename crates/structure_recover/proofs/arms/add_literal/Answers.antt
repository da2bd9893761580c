use Rattle.std.proofs.Common.{◌≡◌, ◌<◌, get_or, length, subst, sym, ap, ◌∙◌, refl}
use Rattle.std.proofs.lemmas.List.{length-map, get_or-map}
use Rattle.structure_recover.specs.Arms.{target_of}
use Rattle.structure_recover.proofs.Labelled.{adds_at, adds_absent, found_at, found_none}
use Rattle.structure_recover.proofs.arms.add_literal.Goals as goal

pub returns-in_ok-push-in-Ok : goal.returns-in_ok-push-in-Ok
returns-in_ok-push-in-Ok c =
    let old = c.index_mut.result.now in
    let same = c.requires.order in
    let inside : c.in-Ok.place < length c.args.arms.now.items = subst (λ n. c.in-Ok.place < n) (sym (ap length same) ∙ length-map c.args.arms.now.items target_of) c.in-Ok.ensures.bound in
    let is : old.target ≡ c.args.target = ap target_of c.index_mut.ensures.value ∙ (sym (get_or-map target_of c.args.arms.now.items c.in-Ok.place old 0 inside) ∙ (ap (λ xs. get_or xs c.in-Ok.place 0) same ∙ found_at c.args.order.now c.args.target c.in-Ok.place c.requires.up c.in-Ok.ensures.position)) in
    adds_at c.args.arms.now.items c.args.order.now c.in-Ok.place old _ c.args.target c.args.literal same c.requires.up inside c.index_mut.ensures.value is refl c.in_ok-push-in-Ok.ensures.items refl

pub returns-in-Err : goal.returns-in-Err
returns-in-Err c = adds_absent c.args.arms.now.items c.args.order.now c.args.target c.args.literal c.requires.order (found_none c.args.order.now c.args.target c.in-Err.field-0 c.requires.up c.in-Err.ensures.position)

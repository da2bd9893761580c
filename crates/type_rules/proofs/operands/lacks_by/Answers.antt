use Rattle.std.proofs.Common.{◌≡◌, ◌∙◌, length, take, ap, sym, arith}
use Rattle.type_rules.specs.Scopes.{there}
use Rattle.type_rules.specs.Needed.{lacks_of}
use Rattle.type_rules.proofs.Needed.{first_lack}
use Rattle.type_rules.proofs.operands.lacks_by.Goals as goal

pub returns-in-Some : goal.returns-in-Some
returns-in-Some c =
    let i = c.args.inst.now in
    let many : length c.as_slice-args.result.now ≡ length i.args = ap length c.as_slice-args.ensures in
    c.lacks_of.ensures
    ∙ ap (lacks_of (there c.args.scope.now i.at) c.args.needs) (c.first.ensures ∙ ap (take c.in-Some.n) c.as_slice-args.ensures)
    ∙ first_lack (there c.args.scope.now i.at) i c.args.needs c.requires.needs.each c.in-Some.n i.args (λ j inside. sym (c.requires.ids j) ∙ c.in-Some.ensures.all j (omega (arith, inside, many)))

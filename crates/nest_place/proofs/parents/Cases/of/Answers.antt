use Rattle.std.proofs.Common.{◌≡◌, sym, ◌∙◌, subst}
use Rattle.structure_rules.specs.Nesting.{case_links}
use Rattle.nest_place.specs.Steps.{AreParentLinks}
use Rattle.nest_place.proofs.Parenthood.{cases_are_parents}
use Rattle.nest_place.proofs.parents.Cases.of.Goals as goal

pub parent_table-requires : goal.parent_table-requires
parent_table-requires c =
    let links : c.deref.result.now ≡ case_links c.args.headers = c.deref.ensures.value ∙ c.in_ok-links.ensures in
    subst (λ ls. AreParentLinks c.nodes.result.now ls) (sym links) (subst (λ g. AreParentLinks g (case_links c.args.headers)) (sym c.nodes.ensures) (cases_are_parents c.args.headers c.requires))

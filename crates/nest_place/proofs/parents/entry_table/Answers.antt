use Rattle.std.proofs.Common.{◌≡◌, sym, ◌∙◌, subst}
use Rattle.structure_rules.specs.Nesting.{entry_links}
use Rattle.nest_place.specs.Steps.{AreParentLinks}
use Rattle.nest_place.proofs.Parenthood.{entries_are_parents}
use Rattle.nest_place.proofs.parents.entry_table.Goals as goal

pub parent_table-requires : goal.parent_table-requires
parent_table-requires c =
    let links : c.deref.result.now ≡ entry_links c.args.cases.now = c.deref.ensures.value ∙ c.in_ok-links.ensures in
    subst (λ ls. AreParentLinks c.nodes.result.now ls) (sym links) (subst (λ g. AreParentLinks g (entry_links c.args.cases.now)) (sym c.nodes.ensures) (entries_are_parents c.args.cases.now c.requires))

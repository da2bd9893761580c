use Rattle.spv_words.specs.declared.rule.Rule.TheVariants.{K5}
use Rattle.structure_rules.specs.Structure.{IsRightIn}
use Rattle.std.proofs.Common.{rules}
use Rattle.nest_place.proofs.Verdict.{before_5, fine_6, formed, right_after}
use Rattle.nest_place.proofs.judge.roles_of.Goals as goal

pub roles-requires : goal.roles-requires
roles-requires c = formed c.args.nodes.now c.in_ok-headers.headers c.in_ok-headers.ensures.headers c.requires.within c.requires.reached c.in_ok-check_first.ensures.passes c.in_ok-headers.ensures.single

pub returns-in_err-check_order-clause-refused : goal.returns-in_err-check_order-clause-refused
returns-in_err-check_order-clause-refused c =
    let before = before_5 c.args.nodes.now c.in_ok-headers.headers c.in_ok-headers.ensures.headers c.in_ok-check_merges.ensures.passes c.in_ok-check_first.ensures.passes c.in_ok-headers.ensures.passes c.in_ok-roles.ensures.passes in
    let right : IsRightIn c.args.nodes.now c.in_err-check_order.field-0.0 = right_after c.args.nodes.now K5 c.in_err-check_order.field-0.0 before c.in_err-check_order.ensures.refused in
    search rules

pub returns-clause-passes : goal.returns-clause-passes
returns-clause-passes c =
    fine_6 c.args.nodes.now
    (before_5 c.args.nodes.now c.in_ok-headers.headers c.in_ok-headers.ensures.headers c.in_ok-check_merges.ensures.passes c.in_ok-check_first.ensures.passes c.in_ok-headers.ensures.passes c.in_ok-roles.ensures.passes)
    c.in_ok-check_order.ensures.passes

use Rattle.std.proofs.Common.{rules}
use Rattle.spv_words.specs.declared.rule.Rule.TheVariants.{K7, K8}
use Rattle.structure_rules.specs.Structure.{IsRightIn}
use Rattle.nest_place.proofs.Verdict.{before_7, fine_8, fine_9, right_after}
use Rattle.nest_place.proofs.judge.check_edges.Goals as goal

pub returns-in_err-check_kinds-clause-refused : goal.returns-in_err-check_kinds-clause-refused
returns-in_err-check_kinds-clause-refused c =
    let before = before_7 c.args.nest.now c.nodes.result.now c.nodes.ensures c.requires.earlier c.in_ok-check_targets.ensures.passes in
    let right : IsRightIn c.args.nest.now c.in_err-check_kinds.field-0.0 = right_after c.args.nest.now K7 c.in_err-check_kinds.field-0.0 before c.in_err-check_kinds.ensures.refused in
    search rules

pub returns-in_err-check_loose-clause-refused : goal.returns-in_err-check_loose-clause-refused
returns-in_err-check_loose-clause-refused c =
    let before = fine_8 c.args.nest.now (before_7 c.args.nest.now c.nodes.result.now c.nodes.ensures c.requires.earlier c.in_ok-check_targets.ensures.passes) c.in_ok-check_kinds.ensures.passes in
    let right : IsRightIn c.args.nest.now c.in_err-check_loose.field-0.0 = right_after c.args.nest.now K8 c.in_err-check_loose.field-0.0 before c.in_err-check_loose.ensures.refused in
    search rules

pub returns-clause-passes : goal.returns-clause-passes
returns-clause-passes c =
    fine_9 c.args.nest.now
    (fine_8 c.args.nest.now (before_7 c.args.nest.now c.nodes.result.now c.nodes.ensures c.requires.earlier c.in_ok-check_targets.ensures.passes) c.in_ok-check_kinds.ensures.passes)
    c.in_ok-check_loose.ensures.passes

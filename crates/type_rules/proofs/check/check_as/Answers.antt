use Rattle.std.proofs.Common.{◌≡◌, ◌||◌, IfErr, ap, ◌∙◌, subst}
use Rattle.spv_ops.specs.OpGroups.{group_of}
use Rattle.spv_words.specs.declared.rule.Rule.{Rule}
use Rattle.profile_rules.specs.TypeRules.{rule_of, broken_if, is_broken_outside, is_number_broken, is_value_broken, IsRefusedBy}
use Rattle.type_rules.specs.Scopes.{Scoped, types}
use Rattle.type_rules.proofs.check.check_as.Goals as goal

pub returns-clause-refused : goal.returns-clause-refused
returns-clause-refused c =
    let m = c.args.judge.now.m in
    let i = c.args.inst.now in
    let asked = c.group-group.result in
    let group = group_of c.args.op in
    let outside_is : c.in_ok-is_broken.is_broken ≡ is_broken_outside m i asked =
    c.in_ok-is_broken.ensures.value ∙ ap (λ (s : Scoped). is_value_broken m (types s) i asked || is_number_broken m.globals (types s) i asked) c.requires in
    let at_fault : c.in_ok-is_broken.is_broken ≡ is_broken_outside m i group = outside_is ∙ ap (is_broken_outside m i) c.group-group.ensures.group in
    let by : c.rule_of.result ≡ rule_of group = c.rule_of.ensures ∙ ap rule_of c.group-group.ensures.group in
    subst (λ (rule : Rule). IfErr c.refuse_if.result (IsRefusedBy (broken_if (is_broken_outside m i group) rule i.at))) by
    (subst (λ b. IfErr c.refuse_if.result (IsRefusedBy (broken_if b c.rule_of.result i.at))) at_fault c.refuse_if.ensures.refused)

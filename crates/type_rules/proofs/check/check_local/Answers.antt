use Rattle.std.proofs.Common.{◌≡◌, [], Bool, ap, sym, ◌∙◌, subst}
use Rattle.std.proofs.lemmas.Result.{err_from_is_err_and, on_ok_weaker}
use Rattle.spv_ops.specs.OpGroups.{group_of}
use Rattle.spv_words.specs.declared.rule.Rule.{Rule}
use Rattle.spv_words.specs.declared.rule.Rule.TheVariants.{T1}
use Rattle.profile_rules.specs.Operands.{breaks_t1_in, lacks}
use Rattle.profile_rules.specs.TypeRules.{rule_of, broken_if, is_broken_in, IsRefusedBy}
use Rattle.type_rules.specs.Scopes.{Scoped, there}
use Rattle.type_rules.proofs.Refused.{by_left, none_of_both}
use Rattle.type_rules.proofs.check.check_local.Goals as goal

pub returns-in_err-refuse_if-clause-refused : goal.returns-in_err-refuse_if-clause-refused
returns-in_err-refuse_if-clause-refused c =
    let p = err_from_is_err_and c.from_residual.result c.from_residual.ensures.1 in
    let m = c.args.judge.now.m in
    let f = c.args.here.now.function in
    let i = c.args.inst.now in
    let fault = c.in_err-refuse_if.field-0.0 in
    let lacking : c.is_lacking.result ≡ breaks_t1_in m f i = c.is_lacking.ensures ∙ ap (λ (s : Scoped). lacks (there s i.at) i) (c.scope.ensures ∙ c.requires) in
    let P : Bool → Type 0 = λ b. IsRefusedBy (broken_if b T1 i.at) fault in
    rw (p.1, p.2) (by_left (broken_if (breaks_t1_in m f i) T1 i.at) (broken_if (is_broken_in m f c.args.here.now.block i (group_of i.op)) (rule_of (group_of i.op)) i.at) fault (subst P lacking c.in_err-refuse_if.ensures.refused))

pub returns-clause-passes : goal.returns-clause-passes
returns-clause-passes c =
    let m = c.args.judge.now.m in
    let f = c.args.here.now.function in
    let b = c.args.here.now.block in
    let i = c.args.inst.now in
    let lacking : c.is_lacking.result ≡ breaks_t1_in m f i = c.is_lacking.ensures ∙ ap (λ (s : Scoped). lacks (there s i.at) i) (c.scope.ensures ∙ c.requires) in
    let first : broken_if (breaks_t1_in m f i) T1 i.at ≡ [] = ap (λ x. broken_if x T1 i.at) (sym lacking) ∙ c.in_ok-refuse_if.ensures.passes in
    let at_fault : c.in_ok-is_broken.is_broken ≡ is_broken_in m f b i (group_of i.op) = c.in_ok-is_broken.ensures.value ∙ ap (is_broken_in m f b i) c.group-group.ensures.group in
    let by : c.rule_of.result ≡ rule_of (group_of i.op) = c.rule_of.ensures ∙ ap rule_of c.group-group.ensures.group in
    let P : Bool → Rule → Type 0 = λ x rule. broken_if x rule i.at ≡ [] in
    on_ok_weaker c.refuse_if-2.result
    (λ last. none_of_both (broken_if (breaks_t1_in m f i) T1 i.at) (broken_if (is_broken_in m f b i (group_of i.op)) (rule_of (group_of i.op)) i.at) first (subst (P (is_broken_in m f b i (group_of i.op))) by (subst (λ x. P x c.rule_of.result) at_fault last)))
    c.refuse_if-2.ensures.passes

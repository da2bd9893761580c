use Rattle.std.proofs.Common.{◌≡◌, ◌++◌, [], OnOk, IfErr, sym, Bool, ap, ◌∙◌, subst}
use Rattle.std.proofs.lemmas.Result.{IfErr-weaker, err_from_is_err_and, on_ok_weaker}
use Rattle.spv_words.specs.declared.rule.Rule.TheVariants.{T1}
use Rattle.profile_rules.specs.Operands.{breaks_t1, lacks}
use Rattle.profile_rules.specs.TypeRules.{broken_if, broken_as, broken_inside, IsRefusedBy}
use Rattle.type_rules.specs.Scopes.{Scoped, outside, there}
use Rattle.type_rules.proofs.Refused.{by_left, by_right, none_of_both}
use Rattle.type_rules.proofs.check.check_global.Goals as goal

pub returns-clause-passes : goal.returns-clause-passes
returns-clause-passes c =
    let m = c.args.judge.now.m in
    let i = c.args.inst.now in
    let lacking : c.is_lacking.result ≡ breaks_t1 m.globals i = c.is_lacking.ensures ∙ ap (λ (s : Scoped). lacks (there s i.at) i) (c.scope.ensures ∙ c.requires) in
    let first : broken_if (breaks_t1 m.globals i) T1 i.at ≡ [] = ap (λ b. broken_if b T1 i.at) (sym lacking) ∙ c.in_ok-refuse_if.ensures.passes in
    let inside_passes = subst (λ (s : Scoped). OnOk c.check_inside.result (broken_inside s.m i ≡ [])) c.in_ok-check_as.ensures.same c.check_inside.ensures.passes in
    on_ok_weaker c.check_inside.result
    (λ last. none_of_both (broken_if (breaks_t1 m.globals i) T1 i.at) (broken_as m i i.op ++ broken_inside m i) first (none_of_both (broken_as m i i.op) (broken_inside m i) c.in_ok-check_as.ensures.passes last))
    inside_passes

pub returns-in_err-refuse_if-clause-refused : goal.returns-in_err-refuse_if-clause-refused
returns-in_err-refuse_if-clause-refused c =
    let p = err_from_is_err_and c.from_residual.result c.from_residual.ensures.1 in
    let m = c.args.judge.now.m in
    let i = c.args.inst.now in
    let fault = c.in_err-refuse_if.field-0.0 in
    let lacking : c.is_lacking.result ≡ breaks_t1 m.globals i = c.is_lacking.ensures ∙ ap (λ (s : Scoped). lacks (there s i.at) i) (c.scope.ensures ∙ c.requires) in
    let P : Bool → Type 0 = λ b. IsRefusedBy (broken_if b T1 i.at) fault in
    rw (p.1, p.2) (by_left (broken_if (breaks_t1 m.globals i) T1 i.at) (broken_as m i i.op ++ broken_inside m i) fault (subst P lacking c.in_err-refuse_if.ensures.refused))

pub check_inside-requires : goal.check_inside-requires
check_inside-requires c = subst (λ (s : Scoped). s ≡ outside s.m) (sym c.in_ok-check_as.ensures.same) c.requires

pub returns-clause-refused : goal.returns-clause-refused
returns-clause-refused c =
    let m = c.args.judge.now.m in
    let i = c.args.inst.now in
    let refused = subst (λ (s : Scoped). IfErr c.check_inside.result (IsRefusedBy (broken_inside s.m i))) c.in_ok-check_as.ensures.same c.check_inside.ensures.refused in
    IfErr-weaker c.check_inside.result (IsRefusedBy (broken_inside m i)) (IsRefusedBy (broken_if (breaks_t1 m.globals i) T1 i.at ++ (broken_as m i i.op ++ broken_inside m i)))
    (λ fault h. by_right (broken_if (breaks_t1 m.globals i) T1 i.at) (broken_as m i i.op ++ broken_inside m i) fault (by_right (broken_as m i i.op) (broken_inside m i) fault h))
    refused

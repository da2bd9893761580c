use Rattle.std.proofs.Common.{◌≡◌, ◌∙◌, [], OnOk, IfErr, ap, refl, subst, sym}
use Rattle.profile_rules.specs.TypeRules.{broken_by_function, IsRefusedBy}
use Rattle.type_rules.specs.Scopes.{Scoped, inside}
use Rattle.type_rules.proofs.check.check_function.Goals as goal

pub check_in_function-requires : goal.check_in_function-requires
check_in_function-requires c = subst (λ (s : Scoped). s ≡ inside s.m c.args.locals.now) (sym c.enter.ensures) refl

pub returns-clause-passes : goal.returns-clause-passes
returns-clause-passes c = subst (λ (s : Scoped). OnOk c.check_in_function.result (broken_by_function s.m c.args.locals.now ≡ [])) c.enter.ensures c.check_in_function.ensures.passes

pub returns-clause-refused : goal.returns-clause-refused
returns-clause-refused c = subst (λ (s : Scoped). IfErr c.check_in_function.result (IsRefusedBy (broken_by_function s.m c.args.locals.now))) c.enter.ensures c.check_in_function.ensures.refused

pub returns-clause-same : goal.returns-clause-same
returns-clause-same c = ap (λ (s : Scoped). s.m) (c.check_in_function.ensures.same ∙ c.enter.ensures)

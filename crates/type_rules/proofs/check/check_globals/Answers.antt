use Rattle.std.proofs.Common.{◌≡◌, ◌<◌, ◌∙◌, [], length, List, refl, rules, subst, sym}
use Rattle.std.proofs.lemmas.Result.{err_from_is_err_and}
use Rattle.spv_module.specs.declared.inst.Inst.{Inst}
use Rattle.profile_rules.specs.TypeRules.{broken_by_global, IsRefusedBy}
use Rattle.type_rules.specs.Scopes.{Scoped, outside}
use Rattle.type_rules.proofs.Refused.{none_more, one_at}
use Rattle.type_rules.proofs.check.check_globals.Goals as goal

pub check_global-requires : goal.check_global-requires
check_global-requires c = subst (λ (s : Scoped). s ≡ outside s.m) (sym c.loop-inst.invariant.same) c.requires

pub returns-in_err-check_global-clause-refused : goal.returns-in_err-check_global-clause-refused
returns-in_err-check_global-clause-refused c =
    let p = err_from_is_err_and c.from_residual.result c.from_residual.ensures.1 in
    let xs : List Inst = c.args.globals.now in
    let within : c.loop-inst.inst-index < length xs = search rules in
    let refused = subst (λ (s : Scoped). IsRefusedBy (broken_by_global s.m c.inst-item.result) c.in_err-check_global.field-0.0) c.loop-inst.invariant.same c.in_err-check_global.ensures.refused in
    rw (p.1, p.2) (one_at (broken_by_global c.args.judge.now.m) xs c.args.globals.now c.loop-inst.inst-index c.inst-item.result c.in_err-check_global.field-0.0 refl within c.inst-item.is refused)

pub loop-inst-preserved : goal.loop-inst-preserved
loop-inst-preserved c =
    let xs : List Inst = c.args.globals.now in
    let within : c.loop-inst.inst-index < length xs = search rules in
    let passes = subst (λ (s : Scoped). broken_by_global s.m c.inst-item.result ≡ []) c.loop-inst.invariant.same c.in_ok-check_global.ensures.passes in
    record {
      same = c.in_ok-check_global.ensures.same ∙ c.loop-inst.invariant.same;
      none = none_more (broken_by_global c.args.judge.now.m) xs c.loop-inst.inst-index c.inst-item.result within c.inst-item.is c.loop-inst.invariant.none passes;
    }

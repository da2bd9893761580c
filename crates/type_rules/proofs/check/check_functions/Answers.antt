use Rattle.std.proofs.Common.{◌≡◌, ◌<◌, ◌∙◌, [], length, List, refl, rules, subst}
use Rattle.std.proofs.lemmas.Result.{err_from_is_err_and}
use Rattle.spv_module.specs.State.{ModuleState}
use Rattle.spv_module.specs.declared.inst.Function.{Function}
use Rattle.profile_rules.specs.TypeRules.{broken_by_function, IsRefusedBy}
use Rattle.type_rules.proofs.Refused.{none_more, one_at}
use Rattle.type_rules.proofs.check.check_functions.Goals as goal

pub returns-in_err-check_function-clause-refused : goal.returns-in_err-check_function-clause-refused
returns-in_err-check_function-clause-refused c =
    let p = err_from_is_err_and c.from_residual.result c.from_residual.ensures.1 in
    let xs : List Function = c.args.functions.now in
    let within : c.loop-function.function-index < length xs = search rules in
    let refused = subst (λ (m : ModuleState). IsRefusedBy (broken_by_function m c.function-item.result) c.in_err-check_function.field-0.0) c.loop-function.invariant.same c.in_err-check_function.ensures.refused in
    rw (p.1, p.2) (one_at (broken_by_function c.args.judge.now.m) xs c.args.functions.now c.loop-function.function-index c.function-item.result c.in_err-check_function.field-0.0 refl within c.function-item.is refused)

pub loop-function-preserved : goal.loop-function-preserved
loop-function-preserved c =
    let xs : List Function = c.args.functions.now in
    let within : c.loop-function.function-index < length xs = search rules in
    let passes = subst (λ (m : ModuleState). broken_by_function m c.function-item.result ≡ []) c.loop-function.invariant.same c.in_ok-check_function.ensures.passes in
    record {
      same = c.in_ok-check_function.ensures.same ∙ c.loop-function.invariant.same;
      none = none_more (broken_by_function c.args.judge.now.m) xs c.loop-function.function-index c.function-item.result within c.function-item.is c.loop-function.invariant.none passes;
    }

use Rattle.std.proofs.Common.{◌≡◌, ℕ, List, Option, Err, Result, IfErr, rules, option_map, string_bytes, subst, sym}
use Rattle.spv_words.specs.declared.rule.Fault.{Fault}
use Rattle.spv_module.specs.State.{ModuleState}
use Rattle.profile_rules.specs.declared.given.Given.{Given}
use Rattle.spec_constants.specs.Fit.{IsCause}
use Rattle.profile_check.specs.Data.{AreDeclarationsFine, IsRestRight, IsRight}
use Rattle.profile_check.specs.declared.checks.Profile.{Profile}
use Rattle.profile_check.proofs.Causes.{types_cause, leaves_cause, layout_cause, access_cause, override_cause, rest_cause}
use Rattle.profile_check.proofs.Plans.{laid}
use Rattle.profile_check.proofs.checks.check_data.Goals as goal

pub returns-in_err-check_limits-clause-refused : goal.returns-in_err-check_limits-clause-refused
returns-in_err-check_limits-clause-refused c =
    let m : ModuleState = c.args.module.now in
    let name : Option (List ℕ) = option_map string_bytes c.args.options.now.entry in
    let pairs : List (ℕ × Given) = c.args.options.now.overrides.pairs.items in
    let fine : AreDeclarationsFine m name = subst (AreDeclarationsFine m) c.entry_name.ensures c.in_ok-function.ensures.passes in
    let is : c.from_residual-in_err-check_limits.result ≡ Err c.in_err-check_limits.field-0.0 = search rules in
    let P : Result Profile Fault → Type 0 = λ r. IfErr r (IsRight m name pairs) in
    subst P (sym is) (types_cause m pairs name c.in_err-check_limits.field-0.0 fine c.in_err-check_limits.ensures.passed)

-- what refuses the rest refuses the data, where the declarations are fine
refused_by : (m : ModuleState) (asked name : Option (List ℕ)) (pairs : List (ℕ × Given)) (fault : Fault) (r : Result Profile Fault) → asked ≡ name → AreDeclarationsFine m asked → r ≡ Err fault → IsRestRight m pairs fault → IfErr r (IsRight m name pairs)
refused_by m asked name pairs fault r same fine is h = subst (λ (r : Result Profile Fault). IfErr r (IsRight m name pairs)) (sym is) (rest_cause m pairs name fault (subst (AreDeclarationsFine m) same fine) h)

pub returns-in_err-check_leaves-clause-refused : goal.returns-in_err-check_leaves-clause-refused
returns-in_err-check_leaves-clause-refused c =
    let pairs : List (ℕ × Given) = c.args.options.now.overrides.pairs.items in
    refused_by c.args.module.now _ _ pairs c.in_err-check_leaves.field-0.0 c.from_residual-in_err-check_leaves.result c.entry_name.ensures c.in_ok-function.ensures.passes (search rules) (leaves_cause c.args.module.now pairs c.in_err-check_leaves.field-0.0 c.in_err-check_leaves.ensures.refused)

pub returns-in_err-check_accesses-clause-refused : goal.returns-in_err-check_accesses-clause-refused
returns-in_err-check_accesses-clause-refused c =
    let pairs : List (ℕ × Given) = c.args.options.now.overrides.pairs.items in
    refused_by c.args.module.now _ _ pairs c.in_err-check_accesses.field-0.0 c.from_residual-in_err-check_accesses.result c.entry_name.ensures c.in_ok-function.ensures.passes (search rules) (access_cause c.args.module.now pairs c.in_err-check_accesses.field-0.0 c.in_err-check_accesses.ensures.refused)

pub returns-in_err-check_overrides-clause-refused : goal.returns-in_err-check_overrides-clause-refused
returns-in_err-check_overrides-clause-refused c =
    let pairs : List (ℕ × Given) = c.args.options.now.overrides.pairs.items in
    let right = subst (λ (ps : List (ℕ × Given)). IsCause c.args.module.now ps c.in_err-check_overrides.field-0.0) c.deref.ensures.value c.in_err-check_overrides.ensures.refused in
    refused_by c.args.module.now _ _ pairs c.in_err-check_overrides.field-0.0 c.from_residual-in_err-check_overrides.result c.entry_name.ensures c.in_ok-function.ensures.passes (search rules) (override_cause c.args.module.now pairs c.in_err-check_overrides.field-0.0 right)

pub returns-in_err-blocks-clause-refused : goal.returns-in_err-blocks-clause-refused
returns-in_err-blocks-clause-refused c =
    let pairs : List (ℕ × Given) = c.args.options.now.overrides.pairs.items in
    refused_by c.args.module.now _ _ pairs c.in_err-blocks.field-0.0 c.from_residual-in_err-blocks.result c.entry_name.ensures c.in_ok-function.ensures.passes (search rules) (layout_cause c.args.module.now pairs c.in_err-blocks.field-0.0 c.in_err-blocks.ensures.refused)

pub returns-clause-declared : goal.returns-clause-declared
returns-clause-declared c = subst (AreDeclarationsFine c.args.module.now) c.entry_name.ensures c.in_ok-function.ensures.passes

pub returns-clause-laid_out : goal.returns-clause-laid_out
returns-clause-laid_out c = laid c.args.module.now c.in_ok-blocks.blocks.items c.in_ok-blocks.ensures.plans

use Rattle.std.proofs.Common.{ℕ, subst}
use Rattle.profile_check.specs.Layouts.{AreLaidOut}
use Rattle.profile_check.proofs.Laid.{none_broken}
use Rattle.profile_check.proofs.layouts.check_layouts.Goals as goal

pub returns-clause-laid_out : goal.returns-clause-laid_out
returns-clause-laid_out c =
    let P : ℕ → Type 0 = λ class. AreLaidOut c.args.module.now class c.args.module.now.globals in
    none_broken c.args.module.now (subst P c.number.ensures c.in_ok-check_class.ensures.passes) (subst P c.number-2.ensures c.in_ok-check_class-2.ensures.passes) (subst P c.number-3.ensures c.in_ok-check_class-3.ensures.passes)

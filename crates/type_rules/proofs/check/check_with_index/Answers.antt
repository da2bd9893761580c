use Rattle.std.proofs.Common.{◌≡◌, refl, subst, sym}
use Rattle.type_rules.specs.Scopes.{Scoped, outside}
use Rattle.type_rules.proofs.check.check_with_index.Goals as goal

pub check_globals-requires : goal.check_globals-requires
check_globals-requires c = subst (λ (s : Scoped). s ≡ outside s.m) (sym c.of-judge.ensures) refl

use Rattle.std.proofs.Common.{◌≡◌, ◌∙◌, refl, subst, sym}
use Rattle.type_rules.specs.Scopes.{Scoped, outside}
use Rattle.type_rules.proofs.check.sound_among.Goals as goal

pub is_global_sound-requires : goal.is_global_sound-requires
is_global_sound-requires c = subst (λ (s : Scoped). s ≡ outside s.m) (sym (c.loop-inst.invariant.same ∙ c.of-judge.ensures)) refl

use Rattle.std.proofs.Common.{◌≡◌, map, take}
use Rattle.profile_rules.specs.TypeRules.{is_sound}
use Rattle.type_rules.proofs.check.sound_among.Given as goal

abbrev pub invariant-loop-inst : goal.invariant-loop-inst
invariant-loop-inst l = record {
  same : l.judge ≡ l.initial.judge;
  sound : l.sound.items ≡ map (is_sound l.index) (take l.inst-index l.globals);
}

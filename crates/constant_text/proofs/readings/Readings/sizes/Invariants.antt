use Rattle.std.proofs.Common.{◌≡◌, ℕ, map}
use Rattle.std.specs.Prelude.{flat_map}
use Rattle.std.specs.Map.Iter.{deref_pair}
use Rattle.profile_rules.specs.declared.size.SizePart.{SizePart}
use Rattle.text_rules.specs.Constants.{size_now, sizes_of}
use Rattle.constant_text.proofs.readings.Readings.sizes.Given as goal

abbrev pub invariant-loop-axis : goal.invariant-loop-axis
invariant-loop-axis l = l.sizes.items ≡ flat_map (λ (p : ℕ × SizePart). sizes_of p.0 (size_now l.self.overrides p.1)) (map deref_pair l.yielded)

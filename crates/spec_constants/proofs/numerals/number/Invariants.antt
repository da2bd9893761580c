use Rattle.std.proofs.Common.{◌≡◌, drop}
use Rattle.profile_rules.specs.Overrides.{number_from}
use Rattle.spec_constants.proofs.numerals.number.Given as goal

abbrev pub invariant-loop-byte : goal.invariant-loop-byte
invariant-loop-byte l = number_from l.base l.n (drop l.byte-index l.digits) ≡ number_from l.base 0 l.digits

use Rattle.std.proofs.Common.{◌≡◌, ◌++◌, drop, map}
use Rattle.buffer_layout.specs.Members.{member_of}
use Rattle.buffer_layout.proofs.Fits.{numbers_of}
use Rattle.buffer_layout.proofs.layouts.offsets.Given as goal

abbrev pub invariant-loop-member : goal.invariant-loop-member
invariant-loop-member l = l.offsets.items ++ numbers_of (map member_of (drop l.member-index l.members)) ≡ numbers_of (map member_of l.members)

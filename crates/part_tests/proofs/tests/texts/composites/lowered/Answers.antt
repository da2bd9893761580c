use Rattle.std.proofs.Common.{subst, sym, arith}
use Rattle.few_law.specs.Few.{HasFewMembers}
use Rattle.part_tests.proofs.tests.texts.composites.lowered.Goals as goal

pub lower_vector-requires : goal.lower_vector-requires
lower_vector-requires c = subst HasFewMembers (sym c.in_ok-item-2.ensures) (omega arith, (tt, (tt, tt)))

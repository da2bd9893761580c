use Rattle.std.proofs.Common.{◌+◌, ◌*◌}
use Rattle.constant_text.proofs.outlines.+outline.Given as goal

abbrev pub decreases-outline_before : goal.decreases-outline_before
decreases-outline_before l = 2 * l.before

abbrev pub decreases-outline_at : goal.decreases-outline_at
decreases-outline_at l = 2 * l.inst.now.at + 1

use Rattle.std.proofs.Common.{◌+◌, ◌*◌, length}
use Rattle.value_ops.proofs.parts.+putting.Given as goal

abbrev pub decreases-put_part : goal.decreases-put_part
decreases-put_part l = 2 * length l.indexes.now

abbrev pub decreases-put_below : goal.decreases-put_below
decreases-put_below l = 2 * length l.rest.now + 1

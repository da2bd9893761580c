use Rattle.std.proofs.Common.{[], ◌∷◌}
use Rattle.memory_places.proofs.Gaining.{part_gain}
use Rattle.memory_places.proofs.leaves.add_component.Goals as goal

pub returns : goal.returns
returns c = λ s whole at. part_gain s whole c.args.part c.args.index ([] ∷ []) c.args.all.now c.enter.new.all c.add_scalar.new.all c.leave.new.all at c.in_ok-enter.ensures (c.in_ok-add_scalar.ensures s) c.leave.ensures

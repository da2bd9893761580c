use Rattle.std.proofs.Common.{rules}
use Rattle.memory_places.specs.Kernel.{bare}
use Rattle.memory_places.proofs.Gaining.{next_component}
use Rattle.memory_places.proofs.leaves.add_components.Goals as goal

pub loop-index-preserved : goal.loop-index-preserved
loop-index-preserved c =
    next_component (bare c.args.module.now) c.args.whole c.args.all.now c.loop-index.all c.add_component.new.all c.loop-index.index c.args.count _ (search rules) c.loop-index.invariant
    (c.in_ok-add_component.ensures (bare c.args.module.now) c.args.whole c.part_at-part.ensures)

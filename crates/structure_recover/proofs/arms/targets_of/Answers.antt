use Rattle.structure_recover.proofs.Armed.{are_targets}
use Rattle.structure_recover.proofs.arms.targets_of.Goals as goal

pub returns : goal.returns
returns c =
    are_targets c.args.places.now c.args.head c.node.result.now c.as_slice.result.now c.in_ok-in_function.field-0.items c.node.ensures.sound c.requires c.node.ensures.node c.as_slice.ensures
    c.in_ok-in_function.ensures.up c.in_ok-in_function.ensures.same

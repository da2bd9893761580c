use Rattle.std.proofs.Common.{subst}
use Rattle.memory_places.specs.Kernel.{Kernel, bare}
use Rattle.memory_places.specs.Leaves.{IsPartOf}
use Rattle.memory_places.proofs.Positions.{location_from}
use Rattle.memory_places.proofs.map.MemoryMap.location.Goals as goal

pub returns : goal.returns
returns c = λ told.
    location_from c.args.self.now told c.args.variable.now c.args.path.now c.base-base.result c.part_along-part.result c.in_ok-place_at.field-0 c.base-base.ensures
    (subst (λ (k : Kernel). IsPartOf (bare k.of) c.args.variable.now c.args.path.now c.part_along-part.result) c.self.view_is c.part_along-part.ensures)
    c.in_ok-place_at.ensures

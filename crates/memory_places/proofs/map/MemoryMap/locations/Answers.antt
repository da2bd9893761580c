use Rattle.std.proofs.Common.{◌∙◌, ap}
use Rattle.group_items.specs.Events.{locations_of}
use Rattle.memory_places.specs.Kernel.{setting_for}
use Rattle.memory_places.proofs.Positions.{locations_none, locations_some}
use Rattle.memory_places.proofs.map.MemoryMap.locations.Goals as goal

pub returns-in-None : goal.returns-in-None
returns-in-None c = λ told.
    ap locations_of c.new.ensures.items ∙ locations_none (setting_for c.args.self.now told) c.args.variable.now c.args.path.now c.in_ok-shape_along.field-0 (c.in_ok-shape_along.ensures.shape told) c.in-None.is

pub returns-in_ok-locations_in-in-Some : goal.returns-in_ok-locations_in-in-Some
returns-in_ok-locations_in-in-Some c = λ told.
    locations_some (setting_for c.args.self.now told) c.args.variable.now c.args.path.now c.in_ok-shape_along.field-0 c.in-Some.shape (locations_of c.in_ok-locations_in-in-Some.field-0.items) (c.in_ok-shape_along.ensures.shape told) c.in-Some.is
    (c.in_ok-locations_in-in-Some.ensures told)

use Rattle.std.proofs.Common.{◌≡◌, subst}
use Rattle.spv_types.specs.View.{tree_of}
use Rattle.value_words.specs.Words.{scalar_paths}
use Rattle.group_items.specs.Events.{locations_of}
use Rattle.memory_places.specs.Kernel.{Kernel, bare}
use Rattle.memory_places.specs.Leaves.{IsPartOf, leaves}
use Rattle.memory_places.proofs.Positions.{locations_from}
use Rattle.memory_places.proofs.map.MemoryMap.locations_in.Goals as goal

pub returns : goal.returns
returns c = λ told.
    locations_from c.args.self.now told c.args.variable.now c.args.path.now c.base-base.result c.part_along-part.result (tree_of c.args.shape.now) c.in_ok-places_of.field-0.items c.base-base.ensures
    (subst (λ (k : Kernel). IsPartOf (bare k.of) c.args.variable.now c.args.path.now c.part_along-part.result) c.self.view_is c.part_along-part.ensures)
    (subst (λ (k : Kernel). locations_of c.in_ok-places_of.field-0.items ≡ leaves (bare k.of) c.base-base.result c.part_along-part.result c.args.path.now (scalar_paths (tree_of c.args.shape.now))) c.self.view_is
    c.in_ok-places_of.ensures)

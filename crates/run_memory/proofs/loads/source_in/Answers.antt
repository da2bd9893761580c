use Rattle.std.proofs.Common.{ap, sym, ◌∙◌}
use Rattle.std.specs.Prelude.{option_map}
use Rattle.spv_types.specs.View.{tree_of}
use Rattle.memory_places.specs.Kernel.{setting_for}
use Rattle.run_memory.proofs.Reading.{part_of_shape, part_without_shape}
use Rattle.run_memory.proofs.loads.source_in.Goals as goal

pub returns-in-None-clause-load : goal.returns-in-None-clause-load
returns-in-None-clause-load c = λ told d rest i r. part_without_shape (setting_for c.args.map.now told) d rest i r c.args.variable.now c.args.path.now (sym (ap (option_map tree_of) c.in-None.is) ∙ c.in_ok-shape_along.ensures.shape told)

pub returns-in-Some-clause-load : goal.returns-in-Some-clause-load
returns-in-Some-clause-load c = λ told d rest i r. part_of_shape (setting_for c.args.map.now told) d rest i r c.args.variable.now c.args.path.now (tree_of c.in-Some.shape) (sym (ap (option_map tree_of) c.in-Some.is) ∙ c.in_ok-shape_along.ensures.shape told)

use Rattle.std.proofs.Common.{◌∙◌, ap, option_and_then}
use Rattle.group_items.specs.Sides.{told_of}
use Rattle.module_semantics.specs.Accesses.{built_in_value}
use Rattle.memory_places.proofs.map.MemoryMap.input_value.Goals as goal

pub returns : goal.returns
returns c = c.value_of_built_in.ensures ∙ ap (option_and_then (built_in_value (told_of c.args.inv.now))) (c.built_in.ensures (told_of c.args.inv.now))

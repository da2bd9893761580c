use Rattle.std.proofs.Common.{◌≡◌, map, take}
use Rattle.vec_lowering.specs.Composite.{argument_of}
use Rattle.constant_text.specs.Named.{id_names}
use Rattle.text_items.specs.Names.{operand}
use Rattle.text_items.proofs.calculated.operands.Given as goal

abbrev pub invariant-loop-id : goal.invariant-loop-id
invariant-loop-id l = map argument_of l.args.items ≡ map (operand l.readings (id_names l.names)) (take l.id-index l.ids)

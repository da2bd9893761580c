use Rattle.std.proofs.Common.{◌∙◌}
use Rattle.memory_places.specs.Kernel.{nobody}
use Rattle.run_operands.proofs.Operands.{of_variable, of_no_variable}
use Rattle.run_operands.proofs.look.of_map.Goals as goal

pub returns-in-Some : goal.returns-in-Some
returns-in-Some c = of_variable c.args.map.now c.args.id c.in-Some.field-0.now (c.in-Some.ensures nobody)

pub returns-in-None : goal.returns-in-None
returns-in-None c = c.of_constant.ensures ∙ of_no_variable c.args.map.now c.args.id (c.in-None.ensures nobody)

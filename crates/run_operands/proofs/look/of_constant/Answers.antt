use Rattle.std.proofs.Common.{ap}
use Rattle.std.specs.Prelude.{option_map}
use Rattle.module_semantics.specs.State as state
use Rattle.memory_places.specs.Kernel.{nobody}
use Rattle.run_operands.proofs.look.of_constant.Goals as goal

pub returns-in-Some : goal.returns-in-Some
returns-in-Some c = ap (option_map state.value) (c.in-Some.ensures nobody)

pub returns-in-None : goal.returns-in-None
returns-in-None c = ap (option_map state.value) (c.in-None.ensures nobody)

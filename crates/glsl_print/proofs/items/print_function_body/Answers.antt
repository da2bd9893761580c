use Rattle.glsl_print.proofs.Levels.{level-Top}
use Rattle.glsl_print.proofs.Steps.{goes_then}
use Rattle.glsl_print.proofs.items.print_function_body.Goals as goal

pub returns : goal.returns
returns g c = goes_then (rw level-Top at c.print_body.ensures) c.put_mark.ensures

use Rattle.glsl_print.proofs.Levels.{indent-Under}
use Rattle.glsl_print.proofs.Steps.{goes_then, goes_as}
use Rattle.glsl_print.proofs.statements.+indent.Goals as goal

pub returns-in-Under : goal.returns-in-Under
returns-in-Under g t c = goes_as (indent-Under _ _ _ c.in-Under.is) (goes_then c.put_levels-in-Under.ensures c.indent.ensures)

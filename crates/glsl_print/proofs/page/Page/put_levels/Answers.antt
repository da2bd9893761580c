use Rattle.glsl_print.proofs.Levels.{indent-blanks}
use Rattle.glsl_print.proofs.Steps.{goes_as}
use Rattle.glsl_print.proofs.page.Page.put_levels.Goals as goal

pub returns : goal.returns
returns g c = goes_as (indent-blanks c.args.levels) c.put_blanks.ensures

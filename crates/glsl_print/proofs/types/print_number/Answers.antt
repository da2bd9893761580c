use Rattle.std.proofs.lemmas.Fmt.{decimal_digit}
use Rattle.glsl_print.proofs.Steps.{goes_as}
use Rattle.glsl_print.proofs.types.print_number.Goals as goal

pub returns-then-number-lt10 : goal.returns-then-number-lt10
returns-then-number-lt10 g c = goes_as (decimal_digit c.args.number c.if-number-lt10.true) c.put.ensures

use Rattle.std.proofs.lemmas.Result.{on_ok_weaker}
use Rattle.unit_text.proofs.unit.add_planned.Goals as goal

pub returns : goal.returns
returns c = on_ok_weaker c.add_functions.result (λ is. record { globals = c.in_ok-globals.globals; globals_are = c.in_ok-globals.ensures; items_are = is }) c.add_functions.ensures

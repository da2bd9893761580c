use Rattle.std.proofs.Common.{string_bytes}
use Rattle.std.specs.BTreeMap.{get}
use Rattle.std.specs.Ordering.{nat_cmp}
use Rattle.dispatch_case.specs.Three.{triple_of}
use Rattle.dispatch_case.specs.Cases.{parts_of}
use Rattle.run_lines.proofs.Idle.{said_idle}
use Rattle.run_lines.proofs.run.run_side.Goals as goal

pub returns-in_ok-idle_lines-clause-said : goal.returns-in_ok-idle_lines-clause-said
returns-in_ok-idle_lines-clause-said g c =
    said_idle (parts_of c.args.case.now) (triple_of c.args.size) (get nat_cmp c.args.special) (g.R.Runner.runs c.args.side.now) (string_bytes c.in_ok-idle_lines.field-0) c.if-is_empty.ensures c.in_ok-idle_lines.ensures

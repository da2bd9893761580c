use Rattle.std.proofs.lemmas.Result.{IfOk-weaker}
use Rattle.module_check.specs.Asked.{asked}
use Rattle.dispatch_case.specs.Cases.{parts_of}
use Rattle.run_module.proofs.Causes.{can_run}
use Rattle.run_module.proofs.Within.{run_of}
use Rattle.run_module.proofs.run.run_case.Goals as goal

pub run_from-requires-clause-can : goal.run_from-requires-clause-can
run_from-requires-clause-can c = can_run c.args.«module».now (asked c.args.options.now) c.in_ok-conforming.conforming.entry.function.0 c.requires.read c.in_ok-conforming.ensures.passes c.in_ok-conforming.ensures.entry

pub returns-clause-run : goal.returns-clause-run
returns-clause-run c =
    IfOk-weaker c.run_from.result _ _ (run_of c.args.«module».now (asked c.args.options.now) (parts_of c.args.case.now) c.in_ok-conforming.conforming.entry.function.0 c.in_ok-conforming.ensures.entry) c.run_from.ensures.run

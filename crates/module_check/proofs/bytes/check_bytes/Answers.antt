use Rattle.std.proofs.Common.{rules, ◌≡◌, Err, IfErr, subst, sym}
use Rattle.std.proofs.lemmas.Result.{IfErr-weaker, on_ok_weaker}
use Rattle.conformance.specs.Rules.{IsRight, Options}
use Rattle.module_check.specs.Asked.{asked}
use Rattle.module_check.specs.Judged.{IsFault}
use Rattle.module_check.proofs.OfBytes.{read_is, undecorated, faulty, fine}
use Rattle.module_check.proofs.bytes.check_bytes.Goals as goal

pub returns-in_err-module-clause-refused : goal.returns-in_err-module-clause-refused
returns-in_err-module-clause-refused c =
    let is : c.from_residual.result ≡ Err c.in_err-module.field-0.0 = search rules in
    subst (λ r. IfErr r (IsRight c.args.bytes.now (asked c.args.options.now))) (sym is) (c.in_err-module.ensures.refused.right (asked c.args.options.now))

pub returns-in_err-decor-clause-refused : goal.returns-in_err-decor-clause-refused
returns-in_err-decor-clause-refused c =
    let is : c.from_residual-in_err-decor.result ≡ Err c.in_err-decor.field-0.0 = search rules in
    subst (λ r. IfErr r (IsRight c.args.bytes.now (asked c.args.options.now))) (sym is) (undecorated c.args.bytes.now c.in_ok-module.module c.in_ok-module.ensures.read (asked c.args.options.now) c.in_err-decor.field-0.0 c.in_err-decor.ensures.refused)

pub judge-requires-clause-read : goal.judge-requires-clause-read
judge-requires-clause-read c = read_is c.args.bytes.now c.in_ok-module.module c.in_ok-module.ensures.read

pub returns-clause-refused : goal.returns-clause-refused
returns-clause-refused c =
    let o : Options = asked c.args.options.now in
    IfErr-weaker c.judge.result (IsFault c.in_ok-module.module o) (IsRight c.args.bytes.now o)
    (λ fault found. faulty c.args.bytes.now c.in_ok-module.module c.in_ok-module.ensures.read o c.in_ok-decor.ensures.passes fault found) c.judge.ensures.refused

pub returns-clause-passes : goal.returns-clause-passes
returns-clause-passes c =
    on_ok_weaker c.judge.result
    (λ passed. fine c.args.bytes.now c.in_ok-module.module c.in_ok-module.ensures.read (asked c.args.options.now) c.in_ok-decor.ensures.passes c.requires passed) c.judge.ensures.passes

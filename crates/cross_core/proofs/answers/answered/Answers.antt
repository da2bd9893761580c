use Rattle.std.proofs.Common.{◌≡◌, Err, Result, IfErr, rules, subst, sym}
use Rattle.spv_words.specs.declared.rule.Fault.{Fault}
use Rattle.conformance.specs.Rules.{Options, IsRight}
use Rattle.module_check.specs.Judged.{IsFine, IsFault}
use Rattle.module_check.proofs.OfBytes.{faulty, fine}
use Rattle.typed_law.specs.Words.{AreGivenWords}
use Rattle.command_line.specs.declared.endings.Ending.{Ending}
use Rattle.cross_core.proofs.answers.answered.Goals as goal

pub returns-in_err-module-clause-refused : goal.returns-in_err-module-clause-refused
returns-in_err-module-clause-refused g c =
    let o : Options = c.args.command.now.options in
    let is : c.from_residual.result ≡ Err c.in_err-module.field-0.0 = search rules in
    let P : Result Ending Fault → Type 0 = λ r. IfErr r (IsRight c.args.bytes.items o) in
    subst P (sym is) (c.in_err-module.ensures.refused.right o)

pub written-requires-clause-given : goal.written-requires-clause-given
written-requires-clause-given g c = record {
  read = record { bytes = c.args.bytes.items; is = c.in_ok-module.ensures.read };
  octets = c.in_ok-module.ensures.octets;
  words = subst (λ (p : Options). AreGivenWords p.overrides) (sym c.options.ensures) c.requires.given;
}

pub returns-in_err-ending-clause-refused : goal.returns-in_err-ending-clause-refused
returns-in_err-ending-clause-refused g c =
    let o : Options = c.args.command.now.options in
    let fault : Fault = c.in_err-ending.field-0.0 in
    let is : c.from_residual-in_err-ending.result ≡ Err fault = search rules in
    let P : Result Ending Fault → Type 0 = λ r. IfErr r (IsRight c.args.bytes.items o) in
    let found = subst (λ (p : Options). IsFault c.in_ok-module.module p fault) c.options.ensures c.in_err-ending.ensures.refused in
    subst P (sym is) (faulty c.args.bytes.items c.in_ok-module.module c.in_ok-module.ensures.read o c.in_ok-decor.ensures.passes fault found)

pub returns-clause-passes : goal.returns-clause-passes
returns-clause-passes g c =
    let o : Options = c.args.command.now.options in
    let passed = subst (λ (p : Options). IsFine c.in_ok-module.module p) c.options.ensures c.in_ok-ending.ensures.passes in
    fine c.args.bytes.items c.in_ok-module.module c.in_ok-module.ensures.read o c.in_ok-decor.ensures.passes c.requires.short passed

use Rattle.std.proofs.Common.{inr, refl}
use Rattle.cross_core.specs.Answers.{IsAnswer, above}
use Rattle.std.specs.Prelude.{Some}
use Rattle.command_line.proofs.Ends.{has_cause, read_to_end}
use Rattle.cross_core.proofs.Outputs.{output_of, answer_on_left}
use Rattle.cross_core.proofs.top.run_on_input.Goals as goal

pub returns-in-Ok-clause-cause : goal.returns-in-Ok-clause-cause
returns-in-Ok-clause-cause g c = has_cause _ (above c.args.command.now) _ _ _ _ c.in-Ok.ensures.all c.answer.ensures.cause

pub returns-in-Ok-clause-read : goal.returns-in-Ok-clause-read
returns-in-Ok-clause-read g c = read_to_end _ _ _ c.in-Ok.ensures.end

pub returns-in-Ok-clause-output : goal.returns-in-Ok-clause-output
returns-in-Ok-clause-output g c =
    output_of g.K.Sink.written g.K.Sink.faults (IsAnswer c.args.command.now (Some c.in-Ok.bytes.items)) (IsAnswer c.args.command.now (g.S.Source.left c.args.input.now)) c.args.output.now c.answer.new.output c.answer.result
    (λ text h. answer_on_left c.args.command.now (g.S.Source.left c.args.input.now) c.in-Ok.bytes.items c.in-Ok.ensures.all text h) c.answer.ensures.output

pub returns-in-Err-TooLong-clause-read : goal.returns-in-Err-TooLong-clause-read
returns-in-Err-TooLong-clause-read g c =
    let took = c.in-Err-TooLong.ensures.too_long in
    inr (took.bytes, took.taken, rw c.number.ensures at took.count.0 (rw c.in-Err-TooLong.field-0-is refl))

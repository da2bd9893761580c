use Rattle.std.proofs.Common.{◌≡◌, ◌∙◌, Some, string_bytes, subst}
use Rattle.run_module.specs.Ends.{IsRunOf}
use Rattle.command_line.proofs.Ends.{end_of_task}
use Rattle.command_line.specs.State.{runs}
use Rattle.cross_core.specs.Answers.{IsAnswerBy, above_by}
use Rattle.cross_core.proofs.Outputs.{output_of, run_answer}
use Rattle.cross_core.proofs.answers.put_run.Goals as goal

pub returns-in-Said-clause-end : goal.returns-in-Said-clause-end
returns-in-Said-clause-end g c = λ m o k run.
    let said = subst (IsRunOf m o k) c.in-Said.is run in
    end_of_task (above_by (runs k) o m) c.put.result said.1 c.put.ensures.end

pub returns-in-Said-clause-output : goal.returns-in-Said-clause-output
returns-in-Said-clause-output g c = λ m o k run.
    let said = subst (IsRunOf m o k) c.in-Said.is run in
    output_of g.K.Sink.written g.K.Sink.faults (λ text. text ≡ c.as_bytes.result.now) (IsAnswerBy (runs k) o (Some m)) c.args.output.now c.put.new.output c.put.result
    (λ text same. run_answer o m k (string_bytes c.in-Said.lines) text said.0 (same ∙ c.as_bytes.ensures.value)) c.put.ensures.output

pub returns-in-Above-clause-end : goal.returns-in-Above-clause-end
returns-in-Above-clause-end g c = λ m o k run. subst (IsRunOf m o k) c.in-Above.is run

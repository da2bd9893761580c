use Rattle.std.proofs.Common.{◌≡◌, ◌∙◌, ap, Some, subst, sym}
use Rattle.spv_module.specs.State.{ModuleState}
use Rattle.glsl_ast.specs.View.{unit_of}
use Rattle.glsl_grammar.specs.Layout.{unit_text}
use Rattle.conformance.specs.Rules.{Options}
use Rattle.module_check.specs.Asked.{asked}
use Rattle.command_line.specs.State.{Task, task_of, prints, reports, sums}
use Rattle.dispatch_case.specs.Cases.{parts_of}
use Rattle.command_line.specs.Endings.{IsEndOfTask, IsOutput}
use Rattle.cross_core.specs.Answers.{IsAnswerBy, above_by}
use Rattle.cross_core.proofs.Outputs.{output_by, glsl_answer}
use Rattle.cross_core.proofs.answers.written.Goals as goal

pub returns-in_ok-unit-in-Glsl-clause-output : goal.returns-in_ok-unit-in-Glsl-clause-output
returns-in_ok-unit-in-Glsl-clause-output g c =
    let o : Options = asked c.args.subject.now.options.now in
    let m : ModuleState = c.args.subject.now.«module».now in
    let unit = unit_of c.in_ok-unit-in-Glsl.unit in
    output_by g.K.Sink.written g.K.Sink.faults (λ text. text ≡ unit_text unit) (task_of c.args.action.now) prints o (Some m) c.args.output.now c.put_text-ending.new.output c.put_text-ending.result
    (ap task_of c.in-Glsl.is) (λ text same. glsl_answer o m unit text c.in_ok-unit-in-Glsl.ensures.tree same) c.put_text-ending.ensures.output

pub returns-in_ok-line-in-Report-clause-output : goal.returns-in_ok-line-in-Report-clause-output
returns-in_ok-line-in-Report-clause-output g c =
    let o : Options = asked c.args.subject.now.options.now in
    let m : ModuleState = c.args.subject.now.«module».now in
    output_by g.K.Sink.written g.K.Sink.faults (λ text. text ≡ c.as_bytes.result.now) (task_of c.args.action.now) reports o (Some m) c.args.output.now c.put-in-Report.new.output c.put-in-Report.result
    (ap task_of c.in-Report.is) (λ text same. subst (IsAnswerBy reports o (Some m)) (sym (same ∙ c.as_bytes.ensures.value)) c.in_ok-line-in-Report.ensures.line) c.put-in-Report.ensures.output

pub returns-in_ok-line-in-Summary-clause-output : goal.returns-in_ok-line-in-Summary-clause-output
returns-in_ok-line-in-Summary-clause-output g c =
    let o : Options = asked c.args.subject.now.options.now in
    let m : ModuleState = c.args.subject.now.«module».now in
    output_by g.K.Sink.written g.K.Sink.faults (λ text. text ≡ c.as_bytes-in-Summary.result.now) (task_of c.args.action.now) sums o (Some m) c.args.output.now c.put-in-Summary.new.output c.put-in-Summary.result
    (ap task_of c.in-Summary.is) (λ text same. subst (IsAnswerBy sums o (Some m)) (sym (same ∙ c.as_bytes-in-Summary.ensures.value)) c.in_ok-line-in-Summary.ensures.line) c.put-in-Summary.ensures.output

pub returns-in_ok-run-in-Run-clause-end : goal.returns-in_ok-run-in-Run-clause-end
returns-in_ok-run-in-Run-clause-end g c =
    let o : Options = asked c.args.subject.now.options.now in
    let m : ModuleState = c.args.subject.now.«module».now in
    subst (λ (task : Task). IsEndOfTask (above_by task o m) c.put_run.result) (sym (ap task_of c.in-Run.is)) (c.put_run.ensures.end m o (parts_of c.in-Run.case) c.in_ok-run-in-Run.ensures.run)

pub returns-in_ok-run-in-Run-clause-output : goal.returns-in_ok-run-in-Run-clause-output
returns-in_ok-run-in-Run-clause-output g c =
    let o : Options = asked c.args.subject.now.options.now in
    let m : ModuleState = c.args.subject.now.«module».now in
    subst (λ (task : Task). IsOutput g.K.Sink.written g.K.Sink.faults (IsAnswerBy task o (Some m)) c.args.output.now c.put_run.new.output c.put_run.result) (sym (ap task_of c.in-Run.is)) (c.put_run.ensures.output m o (parts_of c.in-Run.case) c.in_ok-run-in-Run.ensures.run)

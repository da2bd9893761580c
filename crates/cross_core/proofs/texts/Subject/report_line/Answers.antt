use Rattle.std.proofs.Common.{Option, refl, string_bytes, ◌∙◌, ap}
use Rattle.serde_json.specs.View.{view}
use Rattle.glsl_ast.specs.Tree.{Text}
use Rattle.glsl_ast.specs.View.{unit_of}
use Rattle.spv_module.specs.State.{ModuleState}
use Rattle.conformance.specs.Rules.{Options}
use Rattle.module_check.specs.Asked.{asked}
use Rattle.text_report.specs.Report.{IsReportBy, report_data}
use Rattle.cross_core.specs.Trees.{IsOfModule}
use Rattle.cross_core.proofs.Outputs.{report_answer}
use Rattle.cross_core.proofs.texts.Subject.report_line.Goals as goal

pub returns-clause-line : goal.returns-clause-line
returns-clause-line c =
    let o : Options = asked c.args.self.now.options.now in
    let m : ModuleState = c.args.self.now.«module».now in
    let report : IsReportBy m o.entry (IsOfModule m o) (view c.in_ok-report.report) =
    record { unit = unit_of c.in_ok-unit.unit; text = c.in_ok-unit.ensures.tree; is = c.in_ok-report.ensures ∙ ap (λ (n : Option Text). report_data m n (unit_of c.in_ok-unit.unit)) c.entry_name-name.ensures } in
    report_answer o m (view c.in_ok-report.report) (string_bytes c.in_ok-line_of.field-0) _ report c.in_ok-line_of.ensures refl

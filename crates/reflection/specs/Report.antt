-- The report on a module and its text.
use Rattle.spv_module.specs.State.{ModuleState}
use Rattle.conformance.specs.Rules.{Options}
use Rattle.emit_glsl.specs.Text.{IsTranslationOf}
use Rattle.serde_json.specs.Data.{Data}
use Rattle.text_report.specs.Report.{IsReportBy}

-- the data are the report on a module by its text, for an entry point and with overrides
abbrev pub IsReport : ModuleState → Options → Data → Type 0
IsReport m o d = IsReportBy m o.entry (IsTranslationOf m o) d

-- What a command puts out.
use Rattle.std.specs.Prelude.{ℕ, ◌≡◌, ◌++◌, List, Option, Some, IfSome, codes, option_map}
use Rattle.spv_module.specs.State.{ModuleState}
use Rattle.conformance.specs.Rules.{Options, module_in}
use Rattle.serde_json.specs.Data.{Data}
use Rattle.serde_json.specs.Written.{compact_text}
use Rattle.text_report.specs.Report.{IsReportBy}
use Rattle.glsl_ast.specs.Tree.{TranslationUnit}
use Rattle.glsl_grammar.specs.Layout.{unit_text}
use Rattle.glsl_grammar.specs.Reading.{glsl_read}
use Rattle.dispatch_semantics.specs.Store.{Store}
use Rattle.group_items.specs.declared.schedule.End.{End}
use Rattle.dispatch_case.specs.Cases.{CaseParts}
use Rattle.run_lines.specs.Lines.{AreLines}
use Rattle.run_module.specs.Ends.{IsSaidOf, IsAboveOf}
use Rattle.command_line.specs.State.{Task, prints, judges, reports, sums, runs, CommandState}
use Rattle.command_line.specs.Endings.{Above}
use Rattle.command_line.specs.Summary.{summary}
use Rattle.cross_core.specs.Trees.{IsOfModule}

-- the text that is laid out of a tree, and reads back as it; where the module is told, the tree is that module's
pub record IsTextOf (o : Options) (told : Option ModuleState) (text : List ℕ) : Type 0 where
  pub unit : TranslationUnit
  pub laid_out : text ≡ unit_text unit
  pub reads : glsl_read text ≡ Some unit
  pub of_module : IfSome told (λ m. IsOfModule m o unit)

-- the lines of a run of a case; where the module is told, it is that of the module
pub record IsRunText (c : CaseParts) (o : Options) (told : Option ModuleState) (text : List ℕ) : Type 0 where
  pub store : Store
  pub count : ℕ
  pub end : End
  pub lines : AreLines c.buffers store count end text
  pub said : IfSome told (λ m. IsSaidOf m o c text)

-- what a task puts out: the text of the module; the line `ok`; the line of the report; the summary of the text; the lines of a run
abbrev pub IsAnswerBy : Task → Options → Option ModuleState → List ℕ → Type 0
IsAnswerBy prints o told text = IsTextOf o told text
IsAnswerBy judges o told text = text ≡ codes "ok\n"
IsAnswerBy reports o told text = (d : Data) × (text ≡ compact_text d ++ codes "\n") × IfSome told (λ m. IsReportBy m o.entry (IsOfModule m o) d)
IsAnswerBy sums o told text = (listing : List ℕ) × IsTextOf o told listing × IfSome told (λ m. text ≡ summary m listing)
IsAnswerBy (runs c) o told text = IsRunText c o told text

-- what a command puts out, where the bytes of the module are told
abbrev pub IsAnswer : CommandState → Option (List ℕ) → List ℕ → Type 0
IsAnswer command bytes text = IsAnswerBy command.task command.options (option_map module_in bytes) text

-- which quantities of a run are above their largest numbers, where a task is one
abbrev pub above_by : Task → Options → ModuleState → Above
above_by (runs c) o m limit = IsAboveOf m o c limit
above_by _ o m limit = ⊥

abbrev pub above : CommandState → List ℕ → Above
above command bytes = above_by command.task command.options (module_in bytes)

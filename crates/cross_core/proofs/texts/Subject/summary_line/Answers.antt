use Rattle.std.proofs.Common.{◌∙◌}
use Rattle.spv_module.specs.State.{ModuleState}
use Rattle.glsl_ast.specs.Tree.{Text}
use Rattle.glsl_ast.specs.View.{unit_of}
use Rattle.conformance.specs.Rules.{Options}
use Rattle.module_check.specs.Asked.{asked}
use Rattle.cross_core.proofs.Outputs.{glsl_answer}
use Rattle.cross_core.proofs.texts.Subject.summary_line.Goals as goal

pub printed-requires : goal.printed-requires
printed-requires c = c.in_ok-unit.ensures.tree.translation.grammar

pub returns-clause-line : goal.returns-clause-line
returns-clause-line c =
    let o : Options = asked c.args.self.now.options.now in
    let m : ModuleState = c.args.self.now.«module».now in
    let text : Text = c.bytes.result.now in
    let unit = unit_of c.in_ok-unit.unit in
    (text, glsl_answer o m unit text c.in_ok-unit.ensures.tree (c.bytes.ensures ∙ c.in_ok-text.ensures), c.in_ok-summary_of.ensures)

use Rattle.spv_module.specs.State.{ModuleState}
use Rattle.conformance.specs.Rules.{Options}
use Rattle.glsl_ast.specs.Tree.{TranslationUnit}
use Rattle.glsl_ast.specs.View.{unit_of}
use Rattle.module_check.specs.Asked.{asked}
use Rattle.module_check.specs.Judged.{IsRead, IsFine}
use Rattle.unit_rules.specs.Unit.{IsUnitOf}
use Rattle.accepted_law.proofs.Small.{read_small, read_few}
use Rattle.grammar_law.proofs.Height.Unit.{accepted-low}
use Rattle.grammar_law.proofs.Grammar.Accepted.{accepted-in-grammar}
use Rattle.emit_glsl.specs.Given.{IsGiven}
use Rattle.unit_text.proofs.Made.{made_unit}
use Rattle.emit_glsl.proofs.translation.translate.Goals as goal

pub check_module-requires-clause-read : goal.check_module-requires-clause-read
check_module-requires-clause-read c = c.requires.given.read

pub text_of-requires-clause-small : goal.text_of-requires-clause-small
text_of-requires-clause-small c = let read : IsRead c.args.«module».now = c.requires.given.read in read_small read.bytes c.args.«module».now read.is

pub text_of-requires-clause-few : goal.text_of-requires-clause-few
text_of-requires-clause-few c = let read : IsRead c.args.«module».now = c.requires.given.read in read_few read.bytes c.args.«module».now read.is

pub returns-in_ok-text_of-in-Ok-clause-translation : goal.returns-in_ok-text_of-in-Ok-clause-translation
returns-in_ok-text_of-in-Ok-clause-translation c =
    let m : ModuleState = c.args.«module».now in
    let o : Options = asked c.args.options.now in
    let given : IsGiven m o = c.requires.given in
    let fine : IsFine m o = c.in-Ok.ensures.passes in
    let tree : TranslationUnit = unit_of c.in_ok-text_of-in-Ok.field-0.unit in
    let found = c.in-Ok.found in
    let made : IsUnitOf m o tree = made_unit m o found.entry.function.0 found.entry.size.items found.order.items tree c.in-Ok.ensures.entry c.in-Ok.ensures.order c.in-Ok.ensures.size c.in_ok-text_of-in-Ok.ensures in
    record {
      translated = made;
      grammar = accepted-in-grammar m o tree given.read fine made given.octets given.words;
      low = accepted-low m o tree given.read fine made;
    }

-- The translation of a module that was read and is accepted is the tree of that module.
use Rattle.std.proofs.Common.{[], ◌∷◌}
use Rattle.spv_words.specs.declared.rule.Rule.TheVariants.{P11, P12}
use Rattle.spv_words.specs.Breaks.{NoRuleBroken}
use Rattle.spv_module.specs.State.{ModuleState}
use Rattle.spv_decor.specs.Broken.{Broken}
use Rattle.conformance.specs.Rules.{Options}
use Rattle.module_check.specs.Judged.{IsFine}
use Rattle.glsl_ast.specs.Tree.{TranslationUnit}
use Rattle.emit_glsl.specs.Given.{IsGiven}
use Rattle.emit_glsl.specs.Text.{IsTranslationOf}
use Rattle.text_law.proofs.One.One.{one_tree}
use Rattle.text_law.proofs.Interface.Interfaces.{has_interface}
use Rattle.text_law.proofs.Variables.Law.{has_variables}
use Rattle.text_law.proofs.Shape.Units.{has_shape}
use Rattle.cross_core.specs.Trees.{IsOfModule}
use Rattle.cross_core.proofs.Keeps.{keeps}

pub of_module : (m : ModuleState) (o : Options) → IsGiven m o → NoRuleBroken (Broken m) (P11 ∷ P12 ∷ []) → IsFine m o → (unit : TranslationUnit) → IsTranslationOf m o unit → IsOfModule m o unit
of_module m o given decorated fine unit is = record {
  translation = is;
  only = λ other also. one_tree given.read.bytes m o given.read.is fine other unit also.translated is.translated;
  keeps = keeps m o given decorated fine unit is;
  interface = has_interface m o unit is.translated;
  naming = has_variables given.read.bytes m o given.read.is fine unit is.translated;
  shape = has_shape given.read.bytes m o given.read.is fine given.octets given.words decorated.0 unit is.translated;
}

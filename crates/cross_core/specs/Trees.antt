-- What the tree of a text has of its module.
use Rattle.std.specs.Prelude.{◌≡◌}
use Rattle.spv_module.specs.State.{ModuleState}
use Rattle.conformance.specs.Rules.{Options}
use Rattle.name_alloc.specs.Naming.{name_of}
use Rattle.glsl_ast.specs.Tree.{TranslationUnit}
use Rattle.emit_glsl.specs.Text.{IsTranslationOf}
use Rattle.text_law.specs.Interface.{HasInterface}
use Rattle.text_law.specs.Variables.{HasVariables}
use Rattle.text_law.specs.Shape.{HasShape}
use Rattle.cross_core.specs.Keeps.{Keeps}

-- It is the translation of the module, and there is no other; it does what the module does, and has the interface of the module, the variables of its functions, and its shape.
pub record IsOfModule (m : ModuleState) (o : Options) (unit : TranslationUnit) : Type 0 where
  pub translation : IsTranslationOf m o unit
  pub only : (other : TranslationUnit) → IsTranslationOf m o other → other ≡ unit
  pub keeps : Keeps m o unit
  pub interface : HasInterface m o unit
  pub naming : HasVariables m o (name_of translation.translated.claimed) unit
  pub shape : HasShape m o (name_of translation.translated.claimed) unit

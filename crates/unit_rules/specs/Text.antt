-- What a text of a module is.
use Rattle.std.specs.Prelude.{ℕ, ◌≤◌}
use Rattle.spv_module.specs.State.{ModuleState}
use Rattle.conformance.specs.Rules.{Options}
use Rattle.glsl_ast.specs.Tree.{TranslationUnit}
use Rattle.glsl_ast.specs.Height.{unit_height}
use Rattle.glsl_grammar.specs.InGrammar.{IsInGrammar}
use Rattle.unit_rules.specs.Unit.{IsUnitOf}

-- no tree is higher
abbrev pub most_height : ℕ
most_height = 2000

-- the tree is the text of a module for an entry point and with overrides
pub record IsTranslationOf (m : ModuleState) (o : Options) (unit : TranslationUnit) : Type 0 where
  pub translated : IsUnitOf m o unit
  pub grammar : IsInGrammar unit
  pub low : unit_height unit ≤ most_height
